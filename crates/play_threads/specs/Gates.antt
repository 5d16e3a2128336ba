-- The gates of all nodes: the seats that they are opened with, and what they leave once all seats
-- are given back.
use Rattle.std.specs.Prelude.{◌≡◌, ℕ, ◌+◌, ◌<◌, zero, suc, List, [], ◌∷◌, ◌++◌, map, length, slice_index_or}
use Rattle.atomic_table.specs.Seated.{TableId}
use Rattle.journal_history.specs.declared.history_line.HistoryLine.{HistoryLine}
use Rattle.journal_history.specs.Cell.{fresh_cell, IsLocalRun}
use Rattle.mesh.specs.Matches.{lines_of, CallersWithin}
use Rattle.play_threads.specs.Seated.{Seat}

-- ## Rows dealt to columns
-- each column gets one more
abbrev pub zip_snoc : {A : Type 0} → List (List A) → List A → List (List A)
zip_snoc [] xs = []
zip_snoc (c ∷ cs) [] = c ∷ cs
zip_snoc (c ∷ cs) (x ∷ xs) = (c ++ x ∷ []) ∷ zip_snoc cs xs

-- one row after the other
abbrev pub dealt : {A : Type 0} → List (List A) → List (List A) → List (List A)
dealt cs [] = cs
dealt cs (row ∷ rows) = dealt (zip_snoc cs row) rows

-- ## Before the first call
-- a caller's seat at a gate
abbrev pub fresh_seat : ℕ → TableId → Seat
fresh_seat caller table = record { table = table; caller = caller; own = [] }

-- the seats of so many callers, from this one on, at one gate
abbrev pub fresh_row : ℕ → ℕ → TableId → List Seat
fresh_row caller zero table = []
fresh_row caller (suc n) table = fresh_seat caller table ∷ fresh_row (suc caller) n table

-- for each of so many callers, from this one on, its seats at these gates
abbrev pub fresh_columns : ℕ → ℕ → List TableId → List (List Seat)
fresh_columns caller zero tables = []
fresh_columns caller (suc n) tables = map (fresh_seat caller) tables ∷ fresh_columns (suc caller) n tables

-- ## Once all seats are given back
-- the seats of all callers at one gate
abbrev pub row_at : ℕ → Seat → List (List Seat) → List Seat
row_at i d columns = map (λ c. slice_index_or c i d) columns

-- these are a caller's seats, one at each gate
pub record AreOf (tables : List TableId) (caller : ℕ) (seats : List Seat) : Type 0 where
  pub gates : map (λ s. s.table) seats ≡ tables
  pub callers : (i : ℕ) (d : Seat) → i < length seats → (slice_index_or seats i d).caller ≡ caller

-- a node's history is one node's, of the callers of these seats alone, and lists of each just what
-- its seat has seen
pub record IsLeft (row : List Seat) (history : List HistoryLine) : Type 0 where
  pub local : IsLocalRun fresh_cell history
  pub callers : (last : ℕ) → length row ≡ last + 1 → CallersWithin last history
  pub same : (k : ℕ) (d : Seat) → k < length row → (slice_index_or row k d).own ≡ lines_of k history

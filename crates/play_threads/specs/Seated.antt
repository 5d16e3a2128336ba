-- A caller's seats, one for each node: what each has seen of its own caller is what the record says
-- of that node.
use Rattle.std.specs.Prelude.{◌≡◌, ℕ, ◌+◌, ◌<◌, true, List, [], ◌∷◌, ◌++◌, map, length, slice_index_or}
use Rattle.atomic_table.specs.Seated.{TableId}
use Rattle.journal_history.specs.declared.history_line.HistoryLine.{HistoryLine}
use Rattle.journal_history.specs.declared.record.Record.{Record}
use Rattle.mesh.specs.Matches.{reached, AreSame}
use Rattle.play_calls.specs.Logs.{LogView}
use Rattle.play_threads.specs.Entries.{Entry, own_lines}

-- a seat: its gate, its caller, and what it has seen of its caller's own lines
pub record Seat : Type 0 where
  pub table : TableId
  pub caller : ℕ
  pub own : List HistoryLine

abbrev pub seat_of : TableId → ℕ → List Entry → Seat
seat_of table caller seen = record { table = table; caller = caller; own = own_lines caller seen }

-- one seat at each gate, all of this caller; unless memory was lacking each has seen of its caller
-- just the record's lines of that node
pub record AreSeated (caller : ℕ) (tables : List TableId) (log : LogView) (seats : List Seat) : Type 0 where
  pub count : length seats ≡ log.nodes
  pub gates : map (λ s. s.table) seats ≡ tables
  pub callers : (i : ℕ) (d : Seat) → i < length seats → (slice_index_or seats i d).caller ≡ caller
  pub same : log.whole ≡ true → (i : ℕ) (d : Seat) → i < length seats → AreSame (reached (i + 1) log.past) (slice_index_or seats i d).own

-- ## One line more
-- with this line in the record the caller's own lines of the node go on so
abbrev pub IsTied : ℕ → Record → List HistoryLine → List HistoryLine → Type 0
IsTied node line old new = (rs : List Record) → AreSame (reached node rs) old → AreSame (reached node (rs ++ line ∷ [])) new

-- the log and the caller's own lines of one node went on together, and no other node was reached
pub record Goes (node : ℕ) (old : LogView) (own : List HistoryLine) (new : LogView) (own2 : List HistoryLine) : Type 0 where
  pub nodes : new.nodes ≡ old.nodes
  pub same : new.whole ≡ true → (old.whole ≡ true) × (AreSame (reached node old.past) own → AreSame (reached node new.past) own2)
  pub others : new.whole ≡ true → (k : ℕ) → (k ≡ node → ⊥) → reached k new.past ≡ reached k old.past

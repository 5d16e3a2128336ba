-- The moving entries of all histories in one order: by the promise that the node has after the
-- entry; under one promise first the proposals of callers that don't own it, by node, and then the
-- owner's entries in the order of its record. Kills, restarts and stops after no effect stay behind
-- the moving entry of their node before them, or at the front.
use Rattle.std.specs.Prelude.{ℕ, zero, suc, ◌+◌, ◌==◌, ◌&&◌, ◌||◌, nat_lt, Bool, true, false, List, [], ◌∷◌, ◌++◌, length, filter, slice_get, Option, Some, None, if◌then◌else◌}
use Rattle.journal_history.specs.declared.history_line.HistoryLine.{HistoryLine}
use Rattle.journal_history.specs.declared.record.Record.{Record}
use Rattle.journal_history.specs.declared.record.Record.TheVariants.{Call}
use Rattle.journal_history.specs.declared.record.Told.{Told}
use Rattle.journal_history.specs.declared.record.Told.TheVariants as told
use Rattle.journal_history.specs.Cell.{Cell, fresh_cell, cell_takes}
use Rattle.journal_history.specs.Entries.{Entry}
use Rattle.journal_history.specs.Moving.{Placed, entry_of, falls}
use Rattle.mesh.specs.declared.whole.Mesh.{Mesh}
use Rattle.mesh.specs.Agree.{record_of, history_at}
use Rattle.mesh.specs.Matches.{reaches, reached, lines_of}
use Rattle.mesh.specs.Owners.{owns}

-- ## A node's line and its caller's
abbrev pub was_muted : Told → Bool
was_muted told.Muted = true
was_muted _ = false

abbrev pub is_muted : Option Record → Bool
is_muted (Some (Call node r t)) = was_muted t
is_muted _ = false

-- the line of the caller's record that is this line of the node's history, with what stands before
-- it there
abbrev pub line_of_caller : Mesh → ℕ → List HistoryLine → HistoryLine → Option Record
line_of_caller m node before h = slice_get (reached node (record_of m h.caller)) (length (lines_of h.caller before))

-- a node's history, with its number and what became of the replies
unfoldable pub placed_from : Mesh → ℕ → List HistoryLine → List HistoryLine → List Placed
placed_from m node before [] = []
placed_from m node before (h ∷ hs) =
    record { node = node; line = h; muted = is_muted (line_of_caller m node before h) } ∷ placed_from m node (before ++ h ∷ []) hs

abbrev pub placed_at : Mesh → ℕ → List Placed
placed_at m index = placed_from m (index + 1) [] (history_at m index)

-- the place in a record, counted on from this one, of the line that is after so many others that
-- reached the node
unfoldable pub place_of : ℕ → ℕ → ℕ → List Record → ℕ
place_of node others place [] = place
place_of node zero place (r ∷ rs) = if reaches node r then place else place_of node zero (place + 1) rs
place_of node (suc others) place (r ∷ rs) = if reaches node r then place_of node others (place + 1) rs else place_of node (suc others) (place + 1) rs

-- ## What an entry is sorted by: the promise after it, and its place in the record of the epoch's owner, or 0
pub record Key : Type 0 where
  pub promise : ℕ
  pub place : ℕ

abbrev pub owners_place : Bool → ℕ → ℕ
owners_place true place = place
owners_place false place = 0

unfoldable pub key_of : Mesh → ℕ → ℕ → List HistoryLine → HistoryLine → Key
key_of m node promise before h =
    record { promise = promise; place = owners_place (owns m h.caller promise) (place_of node (length (lines_of h.caller before)) 1 (record_of m h.caller)) }

unfoldable pub is_below : Key → Key → Bool
is_below a b = nat_lt a.promise b.promise || ((a.promise == b.promise) && nat_lt a.place b.place)

pub record Tagged : Type 0 where
  pub entry : Entry
  pub key : Key

abbrev pub tag_first : Option Entry → Key → List Tagged → List Tagged
tag_first None key ts = ts
tag_first (Some e) key ts = record { entry = e; key = key } ∷ ts

-- the moving lines of a history from this cell on, each with its key
unfoldable pub tags_of : Mesh → ℕ → Cell → List HistoryLine → List HistoryLine → List Tagged
tags_of m node c before [] = []
tags_of m node c before (h ∷ hs) =
    tag_first
    (entry_of (record { node = node; line = h; muted = is_muted (line_of_caller m node before h) }))
    (key_of m node (cell_takes c h.ask).cell.state.promised before h)
    (tags_of m node (cell_takes c h.ask).cell (before ++ h ∷ []) hs)

-- ## Blocks: an entry with the falls behind it
pub record Block : Type 0 where
  pub node : ℕ
  pub key : Key
  pub entries : List Entry

abbrev pub block_of : ℕ → Tagged → Block
block_of node t = record { node = node; key = t.key; entries = t.entry ∷ [] }

abbrev pub with_fall : Block → Entry → Block
with_fall b e = record b { entries = b.entries ++ e ∷ [] }

-- the first block is open
unfoldable pub blocks_cut : Block → List Tagged → List Block
blocks_cut b [] = b ∷ []
blocks_cut b (t ∷ ts) = if falls t.entry.move then blocks_cut (with_fall b t.entry) ts else b ∷ blocks_cut (block_of b.node t) ts

-- what falls before anything else moves
abbrev pub front_block : ℕ → Block
front_block node = record { node = node; key = record { promise = 0; place = 0 }; entries = [] }

abbrev pub blocks_at : Mesh → ℕ → List HistoryLine → List Block
blocks_at m node hs = blocks_cut (front_block node) (tags_of m node fresh_cell [] hs)

unfoldable pub blocks_from : Mesh → ℕ → List (List HistoryLine) → List Block
blocks_from m node [] = []
blocks_from m node (hs ∷ hss) = blocks_at m node hs ++ blocks_from m (node + 1) hss

-- ## Sorted, so that a block that came earlier stays ahead of its equals
unfoldable pub put_block : Block → List Block → List Block
put_block b [] = b ∷ []
put_block b (c ∷ cs) = if is_below c.key b.key then c ∷ put_block b cs else b ∷ c ∷ cs

unfoldable pub sorted : List Block → List Block
sorted [] = []
sorted (b ∷ bs) = put_block b (sorted bs)

unfoldable pub entries_in : List Block → List Entry
entries_in [] = []
entries_in (b ∷ bs) = b.entries ++ entries_in bs

unfoldable pub epoch_order : Mesh → List Entry
epoch_order m = entries_in (sorted (blocks_from m 1 m.histories))

-- the entries of one node
abbrev pub entries_at : ℕ → List Entry → List Entry
entries_at node es = filter (λ e. e.node == node) es

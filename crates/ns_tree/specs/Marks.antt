-- The marks of calls: a call of which the mark tells a txid before the list's isn't in the list.
use Rattle.std.specs.Prelude.{ℕ, ◌+◌, ◌*◌, ◌%◌, ◌≤◌, List, [], ◌∷◌, slice_index_or}
use Rattle.edit_ops.specs.declared.call.Call.{Call}
use Rattle.ns_tree.specs.declared.inode.Noted.{Noted}

-- one of 8,192
abbrev pub mark_of : Call → ℕ
mark_of call = (call.number + 256 * slice_index_or call.client 14 0 + slice_index_or call.client 15 0) % 8192

-- each call's mark tells its txid or a later one
abbrev pub AreMarked : List ℕ → List Noted → Type 0
AreMarked marks [] = Unit {0}
AreMarked marks (n ∷ ns) = (n.txid ≤ slice_index_or marks (mark_of n.call) 0) × AreMarked marks ns

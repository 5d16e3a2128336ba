use Rattle.std.proofs.Common.{◌≡◌, ℕ, ◌+◌, ◌-◌, [], ◌∷◌, ◌++◌, length}
use Rattle.disk_recent.specs.Edits.{Edit, Follows, kept_edits}
use Rattle.disk_recent.proofs.edit_cache.EditCache.make_room.Given as goal

abbrev pub invariant-loop-self : goal.invariant-loop-self
invariant-loop-self l = record {
  bytes : l.self.bytes ≡ l.initial.self.bytes;
  follows : (t : ℕ) → Follows l.initial.self.edits t → Follows l.self.edits t;
  kept_so : (e : Edit) → length e.body + 2 ≡ l.fn.size → kept_edits (l.initial.self.bytes - 4098) (l.self.edits ++ e ∷ []) ≡ kept_edits (l.initial.self.bytes - 4098) (l.initial.self.edits ++ e ∷ []);
}

abbrev pub decreases-loop-self : goal.decreases-loop-self
decreases-loop-self l = length l.self.edits

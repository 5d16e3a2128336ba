use Rattle.std.proofs.Common.{◌≡◌, ◌+◌, ◌∷◌, length, take}
use Rattle.ns_edits.specs.Admit.{blocks_at}
use Rattle.ns_edits.proofs.admitting.concat.check_count.Given as goal

abbrev pub invariant-loop-source : goal.invariant-loop-source
invariant-loop-source l = l.room + length (blocks_at (l.target ∷ take l.source-index l.sources) l.namespace.pairs) ≡ 65535

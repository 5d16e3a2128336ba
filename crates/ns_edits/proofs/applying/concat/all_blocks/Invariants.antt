use Rattle.std.proofs.Common.{◌≡◌, ◌∷◌, take}
use Rattle.ns_edits.specs.Admit.{blocks_at}
use Rattle.ns_edits.proofs.applying.concat.all_blocks.Given as goal

abbrev pub invariant-loop-source : goal.invariant-loop-source
invariant-loop-source l = l.all.items ≡ blocks_at (l.target ∷ take l.source-index l.sources) l.ns.pairs

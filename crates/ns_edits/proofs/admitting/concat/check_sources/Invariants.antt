use Rattle.std.proofs.Common.{◌≡◌, [], ◌∷◌, drop, take}
use Rattle.ns_edits.specs.Admit.{admit_sources}
use Rattle.ns_edits.proofs.Sources.{listed}
use Rattle.ns_edits.proofs.admitting.concat.check_sources.Given as goal

abbrev pub invariant-loop-i : goal.invariant-loop-i
invariant-loop-i l =
    admit_sources (l.target ∷ []) l.sources l.namespace.pairs ≡ admit_sources (listed l.target (take l.i l.sources)) (drop l.i l.sources) l.namespace.pairs

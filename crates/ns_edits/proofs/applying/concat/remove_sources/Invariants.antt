use Rattle.std.proofs.Common.{◌≡◌, drop}
use Rattle.ns_edits.specs.Apply.{AreSources, without_sources}
use Rattle.ns_edits.proofs.applying.concat.remove_sources.Given as goal

abbrev pub invariant-loop-source : goal.invariant-loop-source
invariant-loop-source l = record {
  left : AreSources (drop l.source-index l.sources) l.ns.pairs;
  gone : without_sources (drop l.source-index l.sources) l.time l.ns.pairs ≡ without_sources l.sources l.time l.fn.ns.pairs;
  calls : l.ns.calls ≡ l.fn.ns.calls;
}

use Rattle.std.proofs.Common.{[], take}
use Rattle.mesh_judge.specs.Plans.{AreCalled, KnowsAsked}
use Rattle.mesh_judge.proofs.uncalled.uncalled_line.Given as goal

abbrev pub invariant-loop-index : goal.invariant-loop-index
invariant-loop-index l = record {
  asked : KnowsAsked (take l.index l.lines) l.asked;
  called : AreCalled [] (take l.index l.lines);
}

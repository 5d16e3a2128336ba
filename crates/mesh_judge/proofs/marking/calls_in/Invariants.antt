use Rattle.std.proofs.Common.{take}
use Rattle.mesh_judge.specs.Marking.{KnowsCalls}
use Rattle.mesh_judge.proofs.MarkLaws.{Marked}
use Rattle.mesh_judge.proofs.marking.calls_in.Given as goal

abbrev pub invariant-loop-line : goal.invariant-loop-line
invariant-loop-line l = record {
  marked : Marked l.plan l.line-index l.lines;
  calls : KnowsCalls l.nodes l.plan (take l.line-index l.lines) l.calls;
}

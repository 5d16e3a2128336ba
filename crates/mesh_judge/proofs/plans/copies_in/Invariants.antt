use Rattle.std.proofs.Common.{take}
use Rattle.mesh_judge.specs.Plans.{KnowsCopies}
use Rattle.mesh_judge.proofs.plans.copies_in.Given as goal

abbrev pub invariant-loop-line : goal.invariant-loop-line
invariant-loop-line l = KnowsCopies (take l.line-index l.lines) l.copies

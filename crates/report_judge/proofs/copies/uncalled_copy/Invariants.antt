use Rattle.std.proofs.Common.{ℕ, ◌<◌, []}
use Rattle.mesh.specs.Agree.{record_of}
use Rattle.mesh_judge.specs.Plans.{AreCalled}
use Rattle.report_judge.proofs.copies.uncalled_copy.Given as goal

-- each copy so far stands behind its call
abbrev pub invariant-loop-caller : goal.invariant-loop-caller
invariant-loop-caller l = (c : ℕ) → c < l.caller → AreCalled [] (record_of l.mesh c)

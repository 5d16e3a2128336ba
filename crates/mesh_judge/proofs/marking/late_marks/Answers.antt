use Rattle.std.proofs.Common.{◌≤◌, length, take, subst, arith}
use Rattle.std.proofs.lemmas.List.{take_all}
use Rattle.mesh_judge.specs.Marking.{KnowsLate}
use Rattle.mesh_judge.proofs.ReachLaws.{taken_length}
use Rattle.mesh_judge.proofs.MarkLaws.{late_room, late_next}
use Rattle.mesh_judge.proofs.marking.late_marks.Goals as goal

pub count_mark-requires : goal.count_mark-requires
count_mark-requires c =
    let inside : c.loop-mark.mark-index ≤ length c.args.plan.now = omega (arith, c.loop-mark-test.true) in
    let size = taken_length c.loop-mark.mark-index c.args.plan.now inside in
    record { room = late_room (take c.loop-mark.mark-index c.args.plan.now) c.loop-mark.late _ _ c.loop-mark.invariant (omega (arith, size, inside)) }

pub loop-mark-preserved : goal.loop-mark-preserved
loop-mark-preserved c =
    late_next c.args.plan.now c.loop-mark.mark-index _ c.count_mark.new.late c.loop-mark-test.true
    (c.in_ok-count_mark.ensures (take c.loop-mark.mark-index c.args.plan.now) c.loop-mark.invariant)

pub returns : goal.returns
returns c = subst (λ ms. KnowsLate ms c.loop-mark.late) (take_all c.loop-mark.mark-index c.args.plan.now c.loop-mark-test.false) c.loop-mark.invariant

use Rattle.std.proofs.Common.{◌≤◌, length, take, sym, subst, arith}
use Rattle.std.proofs.lemmas.List.{take_all}
use Rattle.mesh_judge.specs.Plans.{KnowsCopies}
use Rattle.mesh_judge.proofs.ReachLaws.{taken_length}
use Rattle.mesh_judge.proofs.MarkLaws.{one_line}
use Rattle.mesh_judge.proofs.PlanLaws.{no_copies, copies_room}
use Rattle.mesh_judge.proofs.plans.copies_in.Goals as goal

pub loop-line-init : goal.loop-line-init
loop-line-init c = no_copies c.new-copies.result c.new-copies.ensures

pub count_copy-requires : goal.count_copy-requires
count_copy-requires c =
    λ node r.
    (let inside : c.loop-line.line-index ≤ length c.args.lines.now = omega (arith, c.loop-line-test.true) in
    let size = taken_length c.loop-line.line-index c.args.lines.now inside in
    copies_room (take c.loop-line.line-index c.args.lines.now) c.loop-line.copies node r c.loop-line.invariant (omega (arith, size, inside)))

pub loop-line-preserved : goal.loop-line-preserved
loop-line-preserved c =
    subst (λ rs. KnowsCopies rs c.count_copy.new.copies) (sym (one_line c.loop-line.line-index c.args.lines.now c.line-item.result c.loop-line-test.true c.line-item.is))
    (c.in_ok-count_copy.ensures (take c.loop-line.line-index c.args.lines.now) c.loop-line.invariant)

pub returns : goal.returns
returns c = subst (λ rs. KnowsCopies rs c.loop-line.copies) (take_all c.loop-line.line-index c.args.lines.now c.loop-line-test.false) c.loop-line.invariant

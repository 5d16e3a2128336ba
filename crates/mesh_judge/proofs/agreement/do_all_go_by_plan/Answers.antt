use Rattle.std.proofs.Common.{◌<◌, [], length, ap, arith, Decides, subst₂}
use Rattle.mesh.specs.Agree.{operator_of}
use Rattle.mesh.specs.Marks.{IsMarked, AreCopied}
use Rattle.mesh_judge.specs.Parts.{GoesByPlan, AllGoByPlan}
use Rattle.mesh_judge.proofs.Deciding.{yes, no, holds, fails, below_more, below_all}
use Rattle.mesh_judge.proofs.PartLaws.{plan_is, line_list_is}
use Rattle.mesh_judge.proofs.agreement.do_all_go_by_plan.Goals as goal

pub returns-then-not-goes : goal.returns-then-not-goes
returns-then-not-goes c =
    let low : c.loop-actor.actor < operator_of c.args.mesh.now = omega (arith, c.loop-actor-test.true, ap length c.as_slice-plan-items.ensures) in
    let plan = plan_is c.args.mesh.now c.loop-actor.actor c.as_slice-plan-items.result.now c.plan-item.result c.as_slice.result.now
    c.as_slice-plan-items.ensures c.loop-actor-test.true c.plan-item.is c.as_slice.ensures in
    let there : c.loop-actor.actor < length c.as_slice-records.result.now = omega (arith, low, c.requires.sized.records, ap length c.as_slice-records.ensures) in
    let lines = line_list_is c.args.mesh.now c.loop-actor.actor c.as_slice-records.result.now c.index-records-actor.result
    c.as_slice-in-loop-actor.result.now c.as_slice-records.ensures there c.index-records-actor.is c.as_slice-in-loop-actor.ensures in
    let goes : Decides c.in_ok-goes.goes (GoesByPlan c.args.mesh.now c.loop-actor.actor) =
    subst₂ (λ p r. Decides c.in_ok-goes.goes (IsMarked p [] r × AreCopied p r)) plan lines c.in_ok-goes.ensures in
    no (AllGoByPlan c.args.mesh.now) (λ all. fails (GoesByPlan c.args.mesh.now c.loop-actor.actor) c.in_ok-goes.goes c.if-not-goes.true goes (all c.loop-actor.actor low))

pub loop-actor-preserved : goal.loop-actor-preserved
loop-actor-preserved c =
    let low : c.loop-actor.actor < operator_of c.args.mesh.now = omega (arith, c.loop-actor-test.true, ap length c.as_slice-plan-items.ensures) in
    let plan = plan_is c.args.mesh.now c.loop-actor.actor c.as_slice-plan-items.result.now c.plan-item.result c.as_slice.result.now
    c.as_slice-plan-items.ensures c.loop-actor-test.true c.plan-item.is c.as_slice.ensures in
    let there : c.loop-actor.actor < length c.as_slice-records.result.now = omega (arith, low, c.requires.sized.records, ap length c.as_slice-records.ensures) in
    let lines = line_list_is c.args.mesh.now c.loop-actor.actor c.as_slice-records.result.now c.index-records-actor.result
    c.as_slice-in-loop-actor.result.now c.as_slice-records.ensures there c.index-records-actor.is c.as_slice-in-loop-actor.ensures in
    let goes : Decides c.in_ok-goes.goes (GoesByPlan c.args.mesh.now c.loop-actor.actor) =
    subst₂ (λ p r. Decides c.in_ok-goes.goes (IsMarked p [] r × AreCopied p r)) plan lines c.in_ok-goes.ensures in
    below_more (GoesByPlan c.args.mesh.now) c.loop-actor.actor (holds (GoesByPlan c.args.mesh.now c.loop-actor.actor) c.in_ok-goes.goes c.if-not-goes.false goes) c.loop-actor.invariant

pub returns : goal.returns
returns c =
    yes (AllGoByPlan c.args.mesh.now)
    (below_all (GoesByPlan c.args.mesh.now) (operator_of c.args.mesh.now) c.loop-actor.actor (omega (arith, c.loop-actor-test.false, ap length c.as_slice-plan-items.ensures)) c.loop-actor.invariant)

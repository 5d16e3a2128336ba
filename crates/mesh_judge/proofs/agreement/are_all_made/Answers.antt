use Rattle.std.proofs.Common.{◌<◌, ℕ, length, ap, arith, Decides, subst}
use Rattle.mesh.specs.Agree.{operator_of, record_of}
use Rattle.mesh.specs.Makers.{IsOfChores}
use Rattle.mesh_judge.specs.Parts.{AllMade}
use Rattle.mesh_judge.proofs.Deciding.{no, holds, fails, below_more}
use Rattle.mesh_judge.proofs.PartLaws.{line_list_is}
use Rattle.mesh_judge.proofs.agreement.are_all_made.Goals as goal

pub returns-then-not-is_made : goal.returns-then-not-is_made
returns-then-not-is_made c =
    let low : c.loop-actor.actor < operator_of c.args.mesh.now = omega (arith, c.loop-actor-test.true, ap length c.as_slice-actor-end.ensures) in
    let there : c.loop-actor.actor < length c.as_slice-records.result.now = omega (arith, low, c.requires.sized.records, ap length c.as_slice-records.ensures) in
    let lines = line_list_is c.args.mesh.now c.loop-actor.actor c.as_slice-records.result.now c.index-records-actor.result c.as_slice.result.now
    c.as_slice-records.ensures there c.index-records-actor.is c.as_slice.ensures in
    let made : Decides c.in_ok-is_made.is_made (IsOfChores c.args.mesh.now.nodes (record_of c.args.mesh.now c.loop-actor.actor)) =
    subst (λ rs. Decides c.in_ok-is_made.is_made (IsOfChores c.args.mesh.now.nodes rs)) lines c.in_ok-is_made.ensures in
    no (AllMade c.args.mesh.now)
    (λ all. fails (IsOfChores c.args.mesh.now.nodes (record_of c.args.mesh.now c.loop-actor.actor)) c.in_ok-is_made.is_made c.if-not-is_made.true made (all c.loop-actor.actor low))

pub loop-actor-preserved : goal.loop-actor-preserved
loop-actor-preserved c =
    let low : c.loop-actor.actor < operator_of c.args.mesh.now = omega (arith, c.loop-actor-test.true, ap length c.as_slice-actor-end.ensures) in
    let there : c.loop-actor.actor < length c.as_slice-records.result.now = omega (arith, low, c.requires.sized.records, ap length c.as_slice-records.ensures) in
    let lines = line_list_is c.args.mesh.now c.loop-actor.actor c.as_slice-records.result.now c.index-records-actor.result c.as_slice.result.now
    c.as_slice-records.ensures there c.index-records-actor.is c.as_slice.ensures in
    let made : Decides c.in_ok-is_made.is_made (IsOfChores c.args.mesh.now.nodes (record_of c.args.mesh.now c.loop-actor.actor)) =
    subst (λ rs. Decides c.in_ok-is_made.is_made (IsOfChores c.args.mesh.now.nodes rs)) lines c.in_ok-is_made.ensures in
    below_more (λ (actor : ℕ). IsOfChores c.args.mesh.now.nodes (record_of c.args.mesh.now actor)) c.loop-actor.actor
    (holds (IsOfChores c.args.mesh.now.nodes (record_of c.args.mesh.now c.loop-actor.actor)) c.in_ok-is_made.is_made c.if-not-is_made.false made) c.loop-actor.invariant

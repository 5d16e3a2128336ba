use Rattle.std.proofs.Common.{ℕ, ◌≤◌, subst, sym}
use Rattle.journal_core.specs.Limits.{max_number}
use Rattle.ns_tree.specs.Space.{Space, AreRising}
use Rattle.ns_store.specs.Loads.{SavesImage}
use Rattle.play_standby.proofs.DiskLaws.{checkpoint_holds, checkpoint_stops, checkpoint_steps}
use Rattle.play_standby.proofs.images.checkpoint.Goals as goal

pub save-requires-clause-calls : goal.save-requires-clause-calls
save-requires-clause-calls g c = subst (λ (s : Space). AreRising 0 c.position.result s.calls) (sym c.namespace.ensures) c.position.ensures.calls

pub returns-clause-saved : goal.returns-clause-saved
returns-clause-saved g c =
    λ told before h.
    let s = c.args.standby.now in
    let old = (g.D.DiskModel.view c.args.images.now).seen in
    let new = (g.D.DiskModel.view c.save.new.disk).seen in
    let saved = subst (λ (n : Space). SavesImage c.position.result n old new) c.namespace.ensures (c.in_ok-save.ensures.save told).done.seen in
    checkpoint_holds before s old (g.D.DiskModel.view c.save.new.disk) (g.D.DiskModel.view c.retain.new.disk) c.retain.result
    (subst (λ (t : ℕ). t ≤ max_number) c.position.ensures.position c.position.ensures.within) h
    (subst (λ (t : ℕ). SavesImage t s.space old new) c.position.ensures.position saved) (c.retain.ensures.retains (c.save.ensures.call.tells.0 told))

pub returns-in_err-save-clause-steps : goal.returns-in_err-save-clause-steps
returns-in_err-save-clause-steps g c = λ told.
    checkpoint_stops c.args.standby.now.position c.position.result c.args.standby.now.space c.namespace.result.now c.from_residual.result c.save.result
    (g.D.DiskModel.view c.args.images.now) (g.D.DiskModel.view c.save.new.disk) c.position.ensures.position c.namespace.ensures c.from_residual.ensures.0
    (c.save.ensures.save told)

pub returns-clause-steps : goal.returns-clause-steps
returns-clause-steps g c = λ told.
    checkpoint_steps c.args.standby.now.position c.position.result c.args.standby.now.space c.namespace.result.now _ c.retain.result
    (g.D.DiskModel.view c.args.images.now) (g.D.DiskModel.view c.save.new.disk) (g.D.DiskModel.view c.retain.new.disk) c.position.ensures.position
    c.namespace.ensures c.position.ensures.within (c.in_ok-save.ensures.save told) (c.retain.ensures.retains (c.save.ensures.call.tells.0 told))

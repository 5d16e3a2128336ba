use Rattle.std.proofs.Common.{◌≡◌, ◌∙◌, None, subst, true}
use Rattle.ns_edits.specs.Admit.{admit_of}
use Rattle.play_standby.specs.Actives.{ActiveView, is_open}
use Rattle.play_standby.specs.Acting.{IsSubmitted}
use Rattle.play_standby.proofs.ActiveLaws.{pending_as, pends_at, pended_submits}
use Rattle.play_standby.proofs.active.Active.submit.Goals as goal

pub returns-clause-submitted : goal.returns-clause-submitted
returns-clause-submitted c =
    let a : ActiveView = record {
      writer = c.self.inside.writer;
      position = c.self.inside.position;
      ahead = c.self.inside.pending.ahead;
      bodies = c.self.inside.pending.bodies;
      whole = c.self.inside.whole;
    } in
    let opens : is_open a ≡ true = c.self.invariant.1 ∙ c.if-not-self.false in
    subst (λ (v : ActiveView). IsSubmitted v c.args.edit.now (pending_as a c.submit.new.self) c.submit.result) c.self.view_is
    (pended_submits a c.args.edit.now c.submit.new.self c.submit.result opens (c.submit.ensures.submitted a.writer (pends_at a opens c.self.invariant.0 c.room-room.result c.room-room.ensures)))

pub returns-clause-memory : goal.returns-clause-memory
returns-clause-memory c = λ e. subst (λ (v : ActiveView). admit_of v.ahead c.args.edit.now ≡ None) c.self.view_is (c.submit.ensures.memory e)

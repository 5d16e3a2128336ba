use Rattle.std.proofs.Common.{◌+◌, ◌<◌, List, [], length, sym, ap, subst, arith}
use Rattle.edit_ops.specs.Records.{EditView}
use Rattle.play_names.specs.Submissions.{Due}
use Rattle.play_names.specs.DueTexts.{due_of, dues_of}
use Rattle.play_standby.specs.Acting.{IsSubmitted}
use Rattle.play_actor.specs.Submitting.{AreSubmitted}
use Rattle.play_actor.proofs.EditLaws.{none_submitted, submitted_on, dues_more}
use Rattle.play_actor.proofs.submissions.submit_all.Goals as goal

pub loop-edit-init : goal.loop-edit-init
loop-edit-init c =
    subst (λ (ds : List Due). AreSubmitted c.args.active.now [] c.args.active.now ds) (sym (ap dues_of c.in_ok-dues.ensures.items)) (none_submitted c.args.active.now c.args.edits.now)

pub loop-edit-preserved : goal.loop-edit-preserved
loop-edit-preserved c =
    let i = c.loop-edit.edit-index in
    let es = c.args.edits.now in
    let old = c.loop-edit.active in
    let new = c.submit-answer.new.self in
    let items = c.loop-edit.dues.items in
    let l : i < length es = omega (arith, c.loop-edit-test.true) in
    submitted_on (c.position-next.result + 1) c.args.active.now old new es i c.edit-item.result c.submit-answer.result (dues_of items) (dues_of c.push.new.self.items)
    (due_of c.in-Some.due) l c.requires (c.position-next.ensures.next c.requires) c.loop-edit.invariant
    (subst (λ (x : EditView). IsSubmitted old x new c.submit-answer.result) c.edit-item.is c.submit-answer.ensures.submitted)
    c.in-Some.ensures (dues_more items c.push.new.self.items c.in-Some.due c.in_ok-push.ensures.items)

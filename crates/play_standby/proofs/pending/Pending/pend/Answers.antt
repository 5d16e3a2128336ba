use Rattle.std.proofs.Common.{sym, subst}
use Rattle.play_standby.specs.Pendings.{PendingView, PendsFrom}
use Rattle.play_standby.proofs.PendLaws.{from_more}
use Rattle.play_standby.proofs.pending.Pending.pend.Goals as goal

-- the record is put together beside what contracts see, which stays
pub returns-in-Ok-push-clause-from : goal.returns-in-Ok-push-clause-from
returns-in-Ok-push-clause-from c =
    let before : PendingView = record { ahead = c.self.inside.ahead; bodies = c.self.inside.bodies } in
    subst (PendsFrom c.args.next) (sym c.in-Ok-push.ensures.ok)
    (from_more c.args.next before c.args.edit.now c.in-Ok.body (subst (PendsFrom c.args.next) (sym c.self.view_is) c.requires.from))

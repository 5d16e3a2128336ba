use Rattle.disk_effects.proofs.ReplyLaws.{reply_same, reply_fits}
use Rattle.disk_effects.proofs.replies.plain_reply.Goals as goal

pub returns-clause-reply : goal.returns-clause-reply
returns-clause-reply c = λ gs t. rw c.in_ok-reply.ensures (reply_same c.args.memory.now c.args.request.now gs c.args.table.now t)

pub returns-clause-fits : goal.returns-clause-fits
returns-clause-fits c = rw c.in_ok-reply.ensures (reply_fits c.args.memory.now c.args.request.now c.args.table.now)

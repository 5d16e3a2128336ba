use Rattle.pipe_seats.proofs.PipeLaws.{own_read}
use Rattle.pipe_seats.proofs.replies.read_own.Goals as goal

pub returns-then-is_own : goal.returns-then-is_own
returns-then-is_own c =
    own_read c.read_reply.result c.args.life c.args.call c.in-Some.own.life c.in-Some.own.call c.in-Some.own.text.now c.args.line.now c.args.request.now
    c.in-Some.ensures (c.is_own.ensures.own c.if-is_own.true) c.read_reply.ensures

use Rattle.std.proofs.Common.{codes}
use Rattle.play_script.proofs.PushLaws.{log_more}
use Rattle.play_script.proofs.print.push_log.Goals as goal

pub returns : goal.returns
returns c = rw (log_more c.args.out.now.items c.push_named.new.out.items (codes "log") c.args.name.now c.args.bodies.now c.in_ok-push_named.ensures) at c.put_bodies.ensures.ok

use Rattle.caller.specs.LaterLaws.{later_same}
use Rattle.play_threads.proofs.actor_lines.take_own.Goals as goal

pub returns-else-is_by-clause-later : goal.returns-else-is_by-clause-later
returns-else-is_by-clause-later g c = later_same g.W.WireModel g.met.W.Wire.readies_none c.args.caller.now

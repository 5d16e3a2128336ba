use Rattle.caller.specs.LaterLaws.{later_same}
use Rattle.play_threads.proofs.operator_lines.take_operation.Goals as goal

pub returns-in-None-clause-later : goal.returns-in-None-clause-later
returns-in-None-clause-later g c = later_same g.W.WireModel g.met.W.Wire.readies_none c.args.by.now

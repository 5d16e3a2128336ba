use Rattle.caller.specs.LaterLaws.{later_same}
use Rattle.play_actor.proofs.script_actor.take_raw.Goals as goal

pub returns-in-Declare-clause-later : goal.returns-in-Declare-clause-later
returns-in-Declare-clause-later g c = later_same g.W.WireModel g.met.W.Wire.readies_none c.args.caller.now

pub returns-in-Declare-2-clause-later : goal.returns-in-Declare-2-clause-later
returns-in-Declare-2-clause-later g c = later_same g.W.WireModel g.met.W.Wire.readies_none c.args.caller.now

pub returns-in-Declare-3-clause-later : goal.returns-in-Declare-3-clause-later
returns-in-Declare-3-clause-later g c = later_same g.W.WireModel g.met.W.Wire.readies_none c.args.caller.now

pub returns-in-Declare-4-clause-later : goal.returns-in-Declare-4-clause-later
returns-in-Declare-4-clause-later g c = later_same g.W.WireModel g.met.W.Wire.readies_none c.args.caller.now

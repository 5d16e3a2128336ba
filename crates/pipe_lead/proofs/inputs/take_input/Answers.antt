use Rattle.std.proofs.Common.{sym, ◌∙◌}
use Rattle.std.proofs.lemmas.Slice.Eq.{bytes_eq-Decides}
use Rattle.caller.specs.LaterLaws.{later_same}
use Rattle.pipe_lead.proofs.TakeLaws.{other_taken, state_taken}
use Rattle.pipe_lead.proofs.inputs.take_input.Goals as goal

pub take_script-requires-clause-script : goal.take_script-requires-clause-script
take_script-requires-clause-script g c = c.in-Script.ensures.script.script

pub returns-in-Ok-false-clause-taken : goal.returns-in-Ok-false-clause-taken
returns-in-Ok-false-clause-taken g c =
    other_taken _ c.nodes.result c.args.line.now c.deref.result.now c.in-Script.script c.read_script.result c.in-Ok-false.field-0 _ _
    (cc (c.deref.ensures.value, c.in_ok-print_script.ensures)) c.nodes.ensures c.read_script.ensures.only c.in-Script.is c.in-Ok-false.field-0-test
    c.in-Ok-false.ensures.took

pub returns-then-is_silent-clause-later : goal.returns-then-is_silent-clause-later
returns-then-is_silent-clause-later g c = later_same g.W.WireModel g.met.W.Wire.readies_none c.args.caller.now

pub returns-in-BadScript-clause-later : goal.returns-in-BadScript-clause-later
returns-in-BadScript-clause-later g c = later_same g.W.WireModel g.met.W.Wire.readies_none c.args.caller.now

pub returns-then-eq-clause-taken : goal.returns-then-eq-clause-taken
returns-then-eq-clause-taken g c =
    state_taken _ c.args.line.now c.state.result _ ((bytes_eq-Decides c.args.line.now c.as_slice.result.now).0 (sym c.eq.ensures ∙ c.if-eq.true) ∙ c.as_slice.ensures) c.state.ensures

pub returns-then-eq-clause-later : goal.returns-then-eq-clause-later
returns-then-eq-clause-later g c = later_same g.W.WireModel g.met.W.Wire.readies_none c.args.caller.now

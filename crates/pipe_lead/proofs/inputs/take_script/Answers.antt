use Rattle.std.proofs.Common.{subst, ◌∙◌}
use Rattle.caller.specs.LaterLaws.{later_same}
use Rattle.pipe_lead.specs.Inputs.{IsOwnLine}
use Rattle.pipe_lead.proofs.TakeLaws.{own_may}
use Rattle.pipe_lead.proofs.inputs.take_script.Goals as goal

pub take_line-requires-clause-may : goal.take_line-requires-clause-may
take_line-requires-clause-may g c =
    let own = subst (λ n. IsOwnLine n c.args.script.now c.in-Some.line.now) c.nodes.ensures c.in-Some.ensures in
    own_may _ _ c.args.script.now c.in-Some.line.now c.scripts_are_playable.ensures.lines c.scripts_are_playable.ensures.numbers c.requires.script own c.requires.names

pub returns-clause-took : goal.returns-clause-took
returns-clause-took g c = (
  c.in-Some.line.now,
  subst (λ n. IsOwnLine n c.args.script.now c.in-Some.line.now) c.nodes.ensures c.in-Some.ensures,
  c.in_ok-take_line.ensures.takes,
)

pub returns-clause-named : goal.returns-clause-named
returns-clause-named g c = c.in_ok-take_line.ensures.named ∙ c.requires.names

pub returns-in_default-clause-later : goal.returns-in_default-clause-later
returns-in_default-clause-later g c = later_same g.W.WireModel g.met.W.Wire.readies_none c.args.caller.now

use Rattle.std.proofs.Common.{refl, sym, subst}
use Rattle.play_standby.specs.Standbys.{held}
use Rattle.play_model.specs.Lines.{line_of}
use Rattle.play_model.specs.Actions.{action_of, TakesIf}
use Rattle.play_actor.specs.Nodes.{NameView, kept_node, kept_resting}
use Rattle.play_actor.proofs.named_lines.take_resting.Goals as goal

pub returns-in_ok-take_inactive-in_default-clause-takes : goal.returns-in_ok-take_inactive-in_default-clause-takes
returns-in_ok-take_inactive-in_default-clause-takes g c =
    let log = c.args.caller.now.log in
    let w = c.args.resting.writer in
    let s = c.args.resting.standby in
    subst (λ (x : NameView). TakesIf log.nodes (action_of (line_of c.args.line.now)) (kept_resting w c.args.images s log) (kept_node x c.take_inactive.new.caller.log))
    (sym c.resting.ensures) (c.in_ok-take_inactive-in_default.ensures.takes w (held c.args.images s) c.requires.idle refl c.requires.rests)

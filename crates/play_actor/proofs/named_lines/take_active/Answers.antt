use Rattle.std.proofs.Common.{refl, sym, subst}
use Rattle.play_standby.specs.Standbys.{held}
use Rattle.play_model.specs.Lines.{line_of}
use Rattle.play_model.specs.Actions.{action_of, TakesIf}
use Rattle.play_actor.specs.Nodes.{NameView, kept_node, kept_active, standing}
use Rattle.play_actor.proofs.named_lines.take_active.Goals as goal

pub returns-in_ok-take_busy-in_default-clause-takes : goal.returns-in_ok-take_busy-in_default-clause-takes
returns-in_ok-take_busy-in_default-clause-takes g c =
    let log = c.args.caller.now.log in
    let a = c.args.active in
    subst (λ (x : NameView). TakesIf log.nodes (action_of (line_of c.args.line.now)) (kept_active c.args.images a log) (kept_node x c.take_busy.new.caller.log))
    (sym c.serving.ensures) (c.in_ok-take_busy-in_default.ensures.takes a.writer (held c.args.images (standing a)) c.requires.idle refl c.requires.serving.opened)

use Rattle.std.proofs.Common.{Bool, Some, None, sym, ap, ◌∙◌}
use Rattle.writer_core.specs.Views.{WriterView}
use Rattle.play_model.specs.Actions.{new_actor_view}
use Rattle.play_actor.specs.Nodes.{NameView}
use Rattle.play_actor.proofs.script_actor.ScriptActorActor.new.Goals as goal

pub returns-then-named : goal.returns-then-named
returns-then-named c =
    ap (λ (x : NameView). record { writer = x.writer; holds = Some x.holding }) c.in_ok-node.ensures ∙ ap (λ (b : Bool). new_actor_view b c.args.nodes) (sym c.if-named.true)

pub returns : goal.returns
returns c = ap (λ (w : WriterView). record { writer = w; holds = None }) c.in_ok-writer.ensures ∙ ap (λ (b : Bool). new_actor_view b c.args.nodes) (sym c.if-named.false)

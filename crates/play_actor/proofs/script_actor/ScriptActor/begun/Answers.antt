use Rattle.std.proofs.Common.{Some, ap}
use Rattle.play_actor.specs.Nodes.{NameView}
use Rattle.play_actor.proofs.script_actor.ScriptActor.begun.Goals as goal

pub returns : goal.returns
returns c = ap (λ (x : NameView). record { writer = x.writer; holds = Some x.holding }) c.in_ok-node.ensures

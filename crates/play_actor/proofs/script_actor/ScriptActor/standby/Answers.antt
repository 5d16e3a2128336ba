use Rattle.std.proofs.Common.{◌∙◌, sym, ap}
use Rattle.play_actor.specs.Kinds.{seen_kind}
use Rattle.play_actor.proofs.StandingLaws.{named_stands}
use Rattle.play_actor.proofs.script_actor.ScriptActor.standby.Goals as goal

pub returns-in-Named : goal.returns-in-Named
returns-in-Named c = named_stands c.standby.result c.in-Named.node c.args.self.now c.standby.ensures (sym c.self.view_is ∙ ap seen_kind c.in-Named.is)

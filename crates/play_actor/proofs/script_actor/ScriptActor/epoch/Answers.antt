use Rattle.std.proofs.Common.{◌∙◌, sym, ap}
use Rattle.play_actor.specs.Kinds.{seen_kind}
use Rattle.play_actor.proofs.StandingLaws.{named_serves}
use Rattle.play_actor.proofs.script_actor.ScriptActor.epoch.Goals as goal

pub returns-in-Named : goal.returns-in-Named
returns-in-Named c = named_serves c.epoch.result c.in-Named.node c.args.self.now c.epoch.ensures (sym c.self.view_is ∙ ap seen_kind c.in-Named.is)

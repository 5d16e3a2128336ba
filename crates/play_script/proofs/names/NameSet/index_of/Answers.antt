use Rattle.std.proofs.Common.{ap, ◌∙◌}
use Rattle.play_script.specs.Words.{actor_of}
use Rattle.play_script.proofs.SetLaws.{place_in}
use Rattle.play_script.proofs.names.NameSet.index_of.Goals as goal

pub returns-clause-place : goal.returns-clause-place
returns-clause-place c =
    c.get_index_of.ensures.index ∙ place_in c.args.name c.self.inside.names.keys ∙ ap (λ ns. actor_of ns c.args.name.now) c.self.view_is

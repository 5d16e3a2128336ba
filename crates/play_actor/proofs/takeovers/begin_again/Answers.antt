use Rattle.std.proofs.Common.{List, ap, ◌∙◌}
use Rattle.ns_edits.specs.Replay.{Image}
use Rattle.play_standby.specs.Standbys.{held}
use Rattle.play_actor.specs.Nodes.{NameView}
use Rattle.play_actor.proofs.takeovers.begin_again.Goals as goal

pub returns-clause-holding : goal.returns-clause-holding
returns-clause-holding c =
    ap (λ (x : NameView). x.holding) c.resting.ensures ∙ ap (λ (l : List Image). held l c.load.new.standby) c.load.ensures.same ∙ c.in_ok-load.ensures.loaded

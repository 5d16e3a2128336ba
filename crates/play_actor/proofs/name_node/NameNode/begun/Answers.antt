use Rattle.std.proofs.Common.{ap, ◌∙◌}
use Rattle.writer_core.specs.Views.{WriterView}
use Rattle.writer_core.specs.Writer.{is_writing}
use Rattle.play_standby.specs.Standbys.{held}
use Rattle.play_actor.proofs.name_node.NameNode.begun.Goals as goal

pub resting-requires : goal.resting-requires
resting-requires c = ap (λ (w : WriterView). is_writing w.phase) c.in_ok-writer.ensures

pub returns : goal.returns
returns c = c.resting.ensures ∙ ap (λ (w : WriterView). record { writer = w; holding = held c.args.images c.args.standby }) c.in_ok-writer.ensures

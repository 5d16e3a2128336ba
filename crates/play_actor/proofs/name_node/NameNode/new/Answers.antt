use Rattle.std.proofs.Common.{List, ap, ◌∙◌}
use Rattle.ns_edits.specs.Replay.{Image}
use Rattle.writer_core.specs.Views.{WriterView}
use Rattle.writer_core.specs.Writer.{is_writing, new_writer}
use Rattle.play_standby.specs.Standbys.{StandbyView, empty_standby, held}
use Rattle.play_actor.proofs.name_node.NameNode.new.Goals as goal

pub resting-requires : goal.resting-requires
resting-requires c = ap (λ (w : WriterView). is_writing w.phase) c.in_ok-writer.ensures

pub returns : goal.returns
returns c =
    let w = new_writer c.args.nodes in
    c.resting.ensures
    ∙ ap (λ (x : WriterView). record { writer = x; holding = held c.new-images.result c.in_ok-standby.standby }) c.in_ok-writer.ensures
    ∙ ap (λ (s : StandbyView). record { writer = w; holding = held c.new-images.result s }) c.in_ok-standby.ensures
    ∙ ap (λ (l : List Image). record { writer = w; holding = held l empty_standby }) c.new-images.ensures

use Rattle.std.proofs.Common.{refl}
use Rattle.disk_node.specs.FileState.{state_of}
use Rattle.disk_node.specs.Cutting.{state_in}
use Rattle.disk_node.proofs.as_cut_node.JournalNodeMemDiskCutNode.act_cut.Goals as goal

pub act_cut-requires-clause-up : goal.act_cut-requires-clause-up
unfolding state_of
act_cut-requires-clause-up c = c.requires.up (state_in c.args.self.now) refl

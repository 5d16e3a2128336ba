use Rattle.std.proofs.Common.{refl}
use Rattle.disk_node.specs.FileState.{segments_at, state_of}
use Rattle.disk_node.proofs.state_examples.no_files_are_a_fresh_node.Goals as goal

pub returns : goal.returns
unfolding state_of segments_at
returns c = refl

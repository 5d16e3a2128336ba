use Rattle.disk_node.proofs.Decodes.{segment_file_decoded}
use Rattle.disk_node.proofs.state_laws.segment_files_are_decoded.Goals as goal

pub returns : goal.returns
returns c = segment_file_decoded

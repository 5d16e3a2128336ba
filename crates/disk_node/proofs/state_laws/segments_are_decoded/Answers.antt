use Rattle.disk_node.proofs.SegmentAt.{segment_decoded}
use Rattle.disk_node.proofs.state_laws.segments_are_decoded.Goals as goal

pub returns : goal.returns
returns c = segment_decoded

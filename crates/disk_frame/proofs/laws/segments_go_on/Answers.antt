use Rattle.disk_frame.proofs.SegmentLaws.{new_segment, segment_one_more, segment_other_tail}
use Rattle.disk_frame.proofs.laws.segments_go_on.Goals as goal

pub returns-clause-new : goal.returns-clause-new
returns-clause-new c = new_segment

pub returns-clause-frame : goal.returns-clause-frame
returns-clause-frame c = segment_one_more

pub returns-clause-tail : goal.returns-clause-tail
returns-clause-tail c = segment_other_tail

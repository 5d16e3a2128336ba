use Rattle.disk_frame.proofs.SegmentLaws.{some_segment, one_segment, one_segment_fault, no_segment}
use Rattle.disk_frame.proofs.laws.segments_have_one_answer.Goals as goal

pub returns-clause-some : goal.returns-clause-some
returns-clause-some c = some_segment

pub returns-clause-value : goal.returns-clause-value
returns-clause-value c = one_segment

pub returns-clause-fault : goal.returns-clause-fault
returns-clause-fault c = one_segment_fault

pub returns-clause-either : goal.returns-clause-either
returns-clause-either c = no_segment

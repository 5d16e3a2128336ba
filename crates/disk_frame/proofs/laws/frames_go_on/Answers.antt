use Rattle.disk_frame.proofs.FrameLaws.{one_frame_more, other_tail}
use Rattle.disk_frame.proofs.laws.frames_go_on.Goals as goal

pub returns-clause-frame : goal.returns-clause-frame
returns-clause-frame c = one_frame_more

pub returns-clause-tail : goal.returns-clause-tail
returns-clause-tail c = other_tail

use Rattle.disk_frame.proofs.FrameLaws.{frame_read_back}
use Rattle.disk_frame.proofs.laws.frame_is_read_back.Goals as goal

pub returns : goal.returns
returns c = frame_read_back

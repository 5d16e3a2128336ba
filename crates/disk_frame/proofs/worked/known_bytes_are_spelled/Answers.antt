use Rattle.std.proofs.Common.{refl}
use Rattle.disk_frame.specs.Frames.{frame_bytes}
use Rattle.disk_frame.proofs.worked.known_bytes_are_spelled.Goals as goal

pub returns-clause-frame : goal.returns-clause-frame
unfolding frame_bytes
returns-clause-frame c = refl

pub returns-clause-header : goal.returns-clause-header
returns-clause-header c = refl

use Rattle.disk_segment.proofs.RowsTold.{tell_segments}
use Rattle.disk_segment.proofs.laws.rows_tell_segments.Goals as goal

pub returns : goal.returns
returns c = λ rows sound. tell_segments rows sound

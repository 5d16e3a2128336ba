use Rattle.pipe_seats.proofs.Counts.{cut}
use Rattle.pipe_seats.proofs.line_laws.cut_lines_are_none.Goals as goal

pub returns : goal.returns
returns c = cut

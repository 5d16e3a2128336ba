use Rattle.pipe_seats.proofs.Counts.{glued}
use Rattle.pipe_seats.proofs.line_laws.glued_lines_are_none.Goals as goal

pub returns : goal.returns
returns c = glued

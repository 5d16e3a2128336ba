use Rattle.pipe_seats.proofs.Counts.{plain}
use Rattle.pipe_seats.proofs.line_laws.texts_are_plain.Goals as goal

pub returns : goal.returns
returns c = plain

use Rattle.journal_history.proofs.CellLaws.{moving}
use Rattle.journal_history.proofs.cells.what_moves_is_a_move.Goals as goal

pub returns : goal.returns
returns c = λ c ask caller muted m e. moving c ask caller muted m e

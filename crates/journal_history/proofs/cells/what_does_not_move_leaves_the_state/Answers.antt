use Rattle.journal_history.proofs.CellLaws.{stays}
use Rattle.journal_history.proofs.cells.what_does_not_move_leaves_the_state.Goals as goal

pub returns : goal.returns
returns c = λ c ask caller muted e. stays c ask caller muted e

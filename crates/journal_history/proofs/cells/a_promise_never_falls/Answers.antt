use Rattle.journal_history.proofs.CellLaws.{promise}
use Rattle.journal_history.proofs.cells.a_promise_never_falls.Goals as goal

pub returns : goal.returns
returns c = λ c ask. promise c ask

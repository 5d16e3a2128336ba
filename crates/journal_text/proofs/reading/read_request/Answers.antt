use Rattle.std.proofs.Common.{sym, ◌∙◌}
use Rattle.journal_text.proofs.ReadLaws.{reading_told}
use Rattle.journal_text.proofs.reading.read_request.Goals as goal

pub returns-in-Ok-clause-memory : goal.returns-in-Ok-clause-memory
returns-in-Ok-clause-memory c = λ e. absurd (reading_told c.args.line.now (sym c.in-Ok.ensures.read ∙ e))

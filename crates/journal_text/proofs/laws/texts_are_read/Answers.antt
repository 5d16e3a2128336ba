use Rattle.journal_text.proofs.LineLaws.{text_read}
use Rattle.journal_text.proofs.laws.texts_are_read.Goals as goal

pub returns : goal.returns
returns c = text_read

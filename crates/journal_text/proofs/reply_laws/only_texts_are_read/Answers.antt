use Rattle.journal_text.proofs.Texts.{only_texts}
use Rattle.journal_text.proofs.reply_laws.only_texts_are_read.Goals as goal

pub returns : goal.returns
returns c = only_texts

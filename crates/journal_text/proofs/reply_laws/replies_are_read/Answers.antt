use Rattle.journal_text.proofs.Texts.{replies_read}
use Rattle.journal_text.proofs.reply_laws.replies_are_read.Goals as goal

pub returns : goal.returns
returns c = replies_read

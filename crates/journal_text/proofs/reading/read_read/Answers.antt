use Rattle.std.proofs.Common.{[], ◌∷◌}
use Rattle.journal_text.specs.declared.request_word.RequestWord.TheVariants.{Read}
use Rattle.journal_text.proofs.ReadLaws.{asked_none, asked_some}
use Rattle.journal_text.proofs.reading.read_read.Goals as goal

pub returns-in_err-from : goal.returns-in_err-from
returns-in_err-from c = rw c.from_residual.ensures (asked_none Read c.args.words.now (c.in_err-from.ensures.numbers []))

pub returns : goal.returns
returns c = asked_some Read c.args.words.now (c.in_ok-from.from ∷ []) (c.in_ok-from.ensures.numbers [])

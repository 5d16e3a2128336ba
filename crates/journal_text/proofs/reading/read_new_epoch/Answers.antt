use Rattle.std.proofs.Common.{[], ◌∷◌}
use Rattle.journal_text.specs.declared.request_word.RequestWord.TheVariants.{NewEpoch}
use Rattle.journal_text.proofs.ReadLaws.{asked_none, asked_some}
use Rattle.journal_text.proofs.reading.read_new_epoch.Goals as goal

pub returns-in_err-epoch : goal.returns-in_err-epoch
returns-in_err-epoch c = rw c.from_residual.ensures (asked_none NewEpoch c.args.words.now (c.in_err-epoch.ensures.numbers []))

pub returns : goal.returns
returns c = asked_some NewEpoch c.args.words.now (c.in_ok-epoch.epoch ∷ []) (c.in_ok-epoch.ensures.numbers [])

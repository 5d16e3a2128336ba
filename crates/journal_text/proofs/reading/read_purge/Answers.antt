use Rattle.std.proofs.Common.{ℕ, List, [], ◌∷◌, Some, ap, ◌∙◌, Option}
use Rattle.journal_text.specs.declared.request_word.RequestWord.TheVariants.{Purge}
use Rattle.journal_text.specs.Words.{with_head}
use Rattle.journal_text.proofs.ReadLaws.{asked_none, asked_some}
use Rattle.journal_text.proofs.reading.read_purge.Goals as goal

pub returns-in_err-head : goal.returns-in_err-head
returns-in_err-head c = rw c.from_residual.ensures (asked_none Purge c.args.words.now (c.in_err-head.ensures.numbers (0 ∷ [])))

pub returns-in_err-min : goal.returns-in_err-min
returns-in_err-min c = rw c.from_residual-in_err-min.ensures (asked_none Purge c.args.words.now
    (c.in_ok-head.ensures.numbers (0 ∷ []) ∙ ap (λ (o : Option (List ℕ)). with_head (Some c.in_ok-head.head) o) (c.in_err-min.ensures.numbers [])))

pub returns : goal.returns
returns c = asked_some Purge c.args.words.now (c.in_ok-head.head.epoch ∷ c.in_ok-head.head.serial ∷ c.in_ok-head.head.committed ∷ c.in_ok-min.min ∷
    []) (c.in_ok-head.ensures.numbers (0 ∷ []) ∙ ap (λ (o : Option (List ℕ)). with_head (Some c.in_ok-head.head) o) (c.in_ok-min.ensures.numbers []))

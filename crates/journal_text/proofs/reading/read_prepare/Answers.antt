use Rattle.std.proofs.Common.{ℕ, List, [], ◌∷◌, Some, ap, ◌∙◌, Option}
use Rattle.journal_text.specs.declared.request_word.RequestWord.TheVariants.{Prepare}
use Rattle.journal_text.specs.Words.{with_head}
use Rattle.journal_text.proofs.ReadLaws.{asked_none, asked_some}
use Rattle.journal_text.proofs.reading.read_prepare.Goals as goal

pub returns-in_err-head : goal.returns-in_err-head
returns-in_err-head c = rw c.from_residual.ensures (asked_none Prepare c.args.words.now (c.in_err-head.ensures.numbers (1 ∷ [])))

pub returns-in_err-start : goal.returns-in_err-start
returns-in_err-start c = rw c.from_residual-in_err-start.ensures (asked_none Prepare c.args.words.now
    (c.in_ok-head.ensures.numbers (1 ∷ []) ∙ ap (λ (o : Option (List ℕ)). with_head (Some c.in_ok-head.head) o) (c.in_err-start.ensures.numbers [])))

pub returns : goal.returns
returns c = asked_some Prepare c.args.words.now (c.in_ok-head.head.epoch ∷ c.in_ok-head.head.serial ∷ c.in_ok-head.head.committed ∷
    c.in_ok-start.start ∷ []) (c.in_ok-head.ensures.numbers (1 ∷ [])
    ∙ ap (λ (o : Option (List ℕ)). with_head (Some c.in_ok-head.head) o) (c.in_ok-start.ensures.numbers []))

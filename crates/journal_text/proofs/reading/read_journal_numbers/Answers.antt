use Rattle.std.proofs.Common.{ℕ, List, [], ◌∷◌, Some, ap, ◌∙◌, Option}
use Rattle.journal_text.specs.Reading.{put_first}
use Rattle.journal_text.specs.Words.{with_head}
use Rattle.journal_text.proofs.reading.read_journal_numbers.Goals as goal

pub returns-in_err-head-clause-numbers : goal.returns-in_err-head-clause-numbers
returns-in_err-head-clause-numbers c = rw c.from_residual.ensures (c.in_err-head.ensures.numbers (1 ∷ 1 ∷ []))

pub returns-in_err-start-clause-numbers : goal.returns-in_err-start-clause-numbers
returns-in_err-start-clause-numbers c = rw c.from_residual-in_err-start.ensures
    (c.in_ok-head.ensures.numbers (1 ∷ 1 ∷ []) ∙ ap (λ (o : Option (List ℕ)). with_head (Some c.in_ok-head.head) o)
    (c.in_err-start.ensures.numbers (1 ∷ [])))

pub returns-in_err-first-clause-numbers : goal.returns-in_err-first-clause-numbers
returns-in_err-first-clause-numbers c = rw c.from_residual-in_err-first.ensures
    (c.in_ok-head.ensures.numbers (1 ∷ 1 ∷ []) ∙ ap (λ (o : Option (List ℕ)). with_head (Some c.in_ok-head.head) o)
    (c.in_ok-start.ensures.numbers (1 ∷ []) ∙ ap (λ (o : Option (List ℕ)). put_first (Some c.in_ok-start.start) o)
    (c.in_err-first.ensures.numbers [])))

pub returns-clause-numbers : goal.returns-clause-numbers
returns-clause-numbers c = c.in_ok-head.ensures.numbers (1 ∷ 1 ∷ [])
    ∙ ap (λ (o : Option (List ℕ)). with_head (Some c.in_ok-head.head) o)
    (c.in_ok-start.ensures.numbers (1 ∷ []) ∙ ap (λ (o : Option (List ℕ)). put_first (Some c.in_ok-start.start) o) (c.in_ok-first.ensures.numbers []))

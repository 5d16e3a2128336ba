use Rattle.std.proofs.Common.{ℕ, List, ◌∷◌, Some, ap, ◌∙◌, Option}
use Rattle.journal_text.specs.Reading.{put_first}
use Rattle.journal_text.proofs.WordLaws.{head_numbers}
use Rattle.journal_text.proofs.words.Words.head.Goals as goal

pub returns-in_err-epoch-clause-numbers : goal.returns-in_err-epoch-clause-numbers
returns-in_err-epoch-clause-numbers c = λ ls. rw c.from_residual.ensures (c.in_err-epoch.ensures.numbers (1 ∷ 0 ∷ ls))

pub returns-in_err-serial-clause-numbers : goal.returns-in_err-serial-clause-numbers
returns-in_err-serial-clause-numbers c =
    λ ls. rw c.from_residual-in_err-serial.ensures (c.in_ok-epoch.ensures.numbers (1 ∷ 0 ∷ ls)
    ∙ ap (λ (o : Option (List ℕ)). put_first (Some c.in_ok-epoch.epoch) o) (c.in_err-serial.ensures.numbers (0 ∷ ls)))

pub returns-clause-numbers : goal.returns-clause-numbers
returns-clause-numbers c =
    λ ls. c.in_ok-epoch.ensures.numbers (1 ∷ 0 ∷ ls) ∙ ap (λ (o : Option (List ℕ)). put_first (Some c.in_ok-epoch.epoch) o)
    (c.in_ok-serial.ensures.numbers (0 ∷ ls) ∙ ap (λ (o : Option (List ℕ)). put_first (Some c.in_ok-serial.serial) o) (c.in_ok-committed.ensures.numbers ls))
    ∙ head_numbers c.in_ok-epoch.epoch c.in_ok-serial.serial c.in_ok-committed.committed c.new.result _ c.in_ok-epoch.ensures.least c.in_ok-serial.ensures.least c.new.ensures

use Rattle.std.proofs.Common.{◌≡◌, ◌++◌, ℕ, List, length}
use Rattle.journal_text.specs.Texts.{numbers_text}
use Rattle.play_report.proofs.pieces.put_numbers.Given as goal

-- those before the rest were given
abbrev pub invariant-loop-rest : goal.invariant-loop-rest
invariant-loop-rest g l = (before : List ℕ) × (before ++ l.rest ≡ l.fn.numbers) × g.T.Taker.adds l.fn.out l.out (numbers_text before)

abbrev pub decreases-loop-rest : goal.decreases-loop-rest
decreases-loop-rest g l = length l.rest

-- The lines of the front of some bytes are lines of all of them.
use Rattle.std.proofs.Common.{ℕ, ◌+◌, List, arith, cond, take}
use Rattle.std.specs.Prelude.{count_by}
use Rattle.std.proofs.lemmas.List.Sums.{sum_by-take-le, count_by-le-length}
use Rattle.report_judge.specs.Reads.{ends_line, IsLine}

-- there are no more line ends than bytes
pub ruleset counts = (count_by-le-length)

pub line_is : (bytes : List ℕ) (place : ℕ) → IsLine bytes (count_by ends_line (take place bytes) + 1)
line_is bytes place = let fewer = sum_by-take-le (λ b. cond (ends_line b) 1 0) bytes place in (omega (arith), omega (arith, fewer))

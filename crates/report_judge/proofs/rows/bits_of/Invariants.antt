use Rattle.std.proofs.Common.{◌≡◌, ◌<◌, take}
use Rattle.std.specs.List.{fold}
use Rattle.report_judge.specs.Rows.{with_bit}
use Rattle.report_judge.proofs.rows.bits_of.Given as goal

-- the bits so far
abbrev pub invariant-loop-letter : goal.invariant-loop-letter
invariant-loop-letter l = (l.permission ≡ fold with_bit 0 (take l.letter-index l.letters)) × (l.permission < 512)

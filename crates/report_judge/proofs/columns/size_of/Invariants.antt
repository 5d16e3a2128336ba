use Rattle.std.proofs.Common.{◌≡◌, drop}
use Rattle.report_judge.specs.Rows.{wide_from}
use Rattle.report_judge.proofs.columns.size_of.Given as goal

-- the digits so far, and those to come
abbrev pub invariant-loop-byte : goal.invariant-loop-byte
invariant-loop-byte l = wide_from l.size (drop l.byte-index l.column) ≡ wide_from 0 l.column

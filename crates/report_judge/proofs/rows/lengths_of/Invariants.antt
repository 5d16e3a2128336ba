use Rattle.std.proofs.Common.{◌≡◌, ◌++◌, ◌-◌}
use Rattle.report_judge.specs.Rows.{lengths_of}
use Rattle.report_judge.proofs.rows.lengths_of.Given as goal

-- the lengths so far, and those to come
abbrev pub invariant-loop-made : goal.invariant-loop-made
invariant-loop-made l = l.lengths.items ++ lengths_of (l.blocks - l._made) l.left ≡ lengths_of l.blocks l.size

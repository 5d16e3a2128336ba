use Rattle.std.proofs.Common.{◌≡◌, ◌≤◌, ◌*◌, ◌+◌, ◌-◌, length, take, sum_by}
use Rattle.play_report.proofs.mirrored.count_edits.Given as goal

-- those so far are counted, and each of them has at most 2 ^ 64
abbrev pub invariant-loop-line : goal.invariant-loop-line
invariant-loop-line l = record {
  so_far : l.sum ≡ sum_by (λ x. x.end + 1 - x.start) (take l.line-index l.lines);
  small : l.sum ≤ l.line-index * 18446744073709551616;
  few : length l.lines ≤ 18446744073709551615;
}

use Rattle.std.proofs.Common.{◌≡◌, ◌≤◌, ◌*◌, length, take, count_by, sum_by}
use Rattle.play_report.specs.Summary.{is_result}
use Rattle.play_report.proofs.results.count_results.Given as goal

-- those so far are counted, and each of them has fewer than 2 ^ 64
abbrev pub invariant-loop-record : goal.invariant-loop-record
invariant-loop-record l = record {
  so_far : l.sum ≡ sum_by (λ lines. count_by (is_result l.kind) lines) (take l.record-index l.records);
  small : l.sum ≤ l.record-index * 18446744073709551615;
  few : length l.records ≤ 18446744073709551615;
}

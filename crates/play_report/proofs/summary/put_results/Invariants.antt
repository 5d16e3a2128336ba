use Rattle.std.proofs.Common.{◌≡◌, ◌++◌, take}
use Rattle.std.specs.List.{flat_map}
use Rattle.play_report.specs.Summary.{kind_line}
use Rattle.play_report.proofs.summary.put_results.Given as goal

-- those so far are added
abbrev pub invariant-loop-kind : goal.invariant-loop-kind
invariant-loop-kind l = l.out.items ≡ l.fn.out.items ++ flat_map (kind_line l.records) (take l.kind-index l.kinds)

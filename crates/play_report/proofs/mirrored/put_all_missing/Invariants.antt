use Rattle.std.proofs.Common.{◌≡◌, ◌++◌, take}
use Rattle.std.specs.List.{flat_map}
use Rattle.play_report.specs.Mirrored.{missing_text}
use Rattle.play_report.proofs.mirrored.put_all_missing.Given as goal

-- those so far are added
abbrev pub invariant-loop-line : goal.invariant-loop-line
invariant-loop-line l = l.out.items ≡ l.fn.out.items ++ flat_map missing_text (take l.line-index l.missing)

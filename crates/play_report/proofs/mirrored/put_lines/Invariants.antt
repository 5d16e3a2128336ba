use Rattle.std.proofs.Common.{◌≡◌, ◌++◌, take}
use Rattle.std.specs.List.{flat_map}
use Rattle.play_report.specs.Mirrored.{held_text}
use Rattle.play_report.proofs.mirrored.put_lines.Given as goal

-- those so far are added
abbrev pub invariant-loop-line : goal.invariant-loop-line
invariant-loop-line l = l.out.items ≡ l.fn.out.items ++ flat_map held_text (take l.line-index l.lines)

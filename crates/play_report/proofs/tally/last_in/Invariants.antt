use Rattle.std.proofs.Common.{◌≡◌, ◌≤◌, take}
use Rattle.std.specs.List.{fold}
use Rattle.play_report.specs.Summary.{no_tally, tally_record}
use Rattle.play_report.proofs.tally.last_in.Given as goal

-- those so far are tallied
abbrev pub invariant-loop-line : goal.invariant-loop-line
invariant-loop-line l = (l.tally ≡ fold (tally_record l.nodes) no_tally (take l.line-index l.lines)) × (l.tally.oks ≤ l.line-index)

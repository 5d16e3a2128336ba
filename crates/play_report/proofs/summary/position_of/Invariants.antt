use Rattle.std.proofs.Common.{◌≡◌, drop}
use Rattle.play_report.specs.Summary.{position_of}
use Rattle.play_report.proofs.summary.position_of.Given as goal

-- none of those so far has the name
abbrev pub invariant-loop-end : goal.invariant-loop-end
invariant-loop-end l = position_of l.name (drop l.end-index l.ends) ≡ position_of l.name l.ends

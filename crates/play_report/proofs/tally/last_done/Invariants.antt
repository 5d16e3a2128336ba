use Rattle.std.proofs.Common.{◌≡◌, max, map, take}
use Rattle.std.specs.List.{fold}
use Rattle.play_report.specs.Summary.{last_in}
use Rattle.play_report.proofs.tally.last_done.Given as goal

abbrev pub invariant-loop-record : goal.invariant-loop-record
invariant-loop-record l = l.last ≡ fold max 0 (map (last_in l.nodes) (take l.record-index l.records))

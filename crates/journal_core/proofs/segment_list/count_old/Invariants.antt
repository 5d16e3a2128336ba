use Rattle.std.proofs.Common.{drop}
use Rattle.journal_core.specs.Places.{is_old}
use Rattle.journal_core.proofs.PurgeLaws.{StillCounts}
use Rattle.journal_core.proofs.segment_list.count_old.Given as goal

abbrev pub invariant-loop-segment : goal.invariant-loop-segment
invariant-loop-segment l = StillCounts (is_old l.opened l.newest l.committed l.min) l.most l.count (drop l.segment-index l.items) l.items

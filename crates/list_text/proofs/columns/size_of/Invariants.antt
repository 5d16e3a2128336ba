use Rattle.std.proofs.Common.{◌≡◌, ◌≤◌, length, take, sum}
use Rattle.list_text.proofs.columns.size_of.Given as goal

abbrev pub invariant-loop-length : goal.invariant-loop-length
invariant-loop-length l = record { so_far : l.size ≡ sum (take l.length-index l.lengths); few : length l.lengths ≤ 18446744073709551615 }

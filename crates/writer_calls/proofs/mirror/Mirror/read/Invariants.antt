use Rattle.std.proofs.Common.{◌≡◌, take, false}
use Rattle.std.specs.List.{list_any}
use Rattle.writer_calls.specs.Mirrors.{has_txid}
use Rattle.writer_calls.proofs.mirror.Mirror.read.Given as goal

-- no segment so far has the txid
abbrev pub invariant-loop-segment : goal.invariant-loop-segment
invariant-loop-segment l = list_any (has_txid l.from) (take l.segment-index l.segment-items) ≡ false

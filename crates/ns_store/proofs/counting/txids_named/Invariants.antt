use Rattle.std.proofs.Common.{take}
use Rattle.std.specs.Prelude.{string_bytes, map}
use Rattle.ns_store.specs.Lists.{AreTxids}
use Rattle.ns_store.proofs.counting.txids_named.Given as goal

abbrev pub invariant-loop-name : goal.invariant-loop-name
invariant-loop-name l = AreTxids (map string_bytes (take l.name-index l.names)) l.rest l.txids

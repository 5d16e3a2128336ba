use Rattle.std.proofs.Common.{◌≡◌, drop}
use Rattle.list_back.specs.Opening.{opens_array}
use Rattle.list_back.proofs.opening.opens_array.Given as goal

abbrev pub invariant-loop-byte : goal.invariant-loop-byte
invariant-loop-byte l = opens_array l.bytes ≡ opens_array (drop l.byte-index l.bytes)

use Rattle.std.proofs.Common.{take}
use Rattle.std.specs.Prelude.{string_bytes, map}
use Rattle.disk_opening.specs.Completing.{AreStartsIn}
use Rattle.disk_opening.proofs.starts.starts_in.Given as goal

abbrev pub invariant-loop-name : goal.invariant-loop-name
invariant-loop-name l = AreStartsIn (map string_bytes (take l.name-index l.names)) l.starts.items

use Rattle.std.proofs.Common.{◌≡◌, ◌+◌, length, drop}
use Rattle.std.specs.List.{flat_map}
use Rattle.disk_frame.specs.Frames.{entry_bytes}
use Rattle.disk_effects.proofs.applying.entries_length.Given as goal

-- the bytes so far, and those of the bodies that are left
abbrev pub invariant-loop-body : goal.invariant-loop-body
invariant-loop-body l = l.total + length (flat_map entry_bytes (drop l.body-index l.bodies)) ≡ length (flat_map entry_bytes l.bodies)

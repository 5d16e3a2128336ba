use Rattle.std.proofs.Common.{◌≡◌, ◌+◌, [], length, drop}
use Rattle.std.specs.Prelude.{◌≢◌}
use Rattle.std.specs.List.{flat_map, AllByRecursion}
use Rattle.disk_frame.specs.Frames.{entry_bytes}
use Rattle.disk_frame.proofs.framing.entries_length.Given as goal

-- the bytes so far, and those of the bodies that are left; no body is empty where none of those is
-- that are left
abbrev pub invariant-loop-body : goal.invariant-loop-body
invariant-loop-body l = record {
  total : l.total + length (flat_map entry_bytes (drop l.body-index l.bodies)) ≡ length (flat_map entry_bytes l.bodies);
  some : AllByRecursion (λ body. body ≢ []) (drop l.body-index l.bodies) → AllByRecursion (λ body. body ≢ []) l.bodies;
}

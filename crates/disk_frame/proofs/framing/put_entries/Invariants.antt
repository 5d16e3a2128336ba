use Rattle.std.proofs.Common.{◌≡◌, ◌++◌, take, drop, ltb, length, false}
use Rattle.std.specs.List.{flat_map, list_any}
use Rattle.journal_core.specs.Limits.{max_body}
use Rattle.disk_frame.specs.Frames.{entry_bytes}
use Rattle.disk_frame.proofs.framing.put_entries.Given as goal

-- the entries of the bodies so far are added, and none that is left is too long
abbrev pub invariant-loop-body : goal.invariant-loop-body
invariant-loop-body l = record {
  added : l.out.items ≡ l.fn.out.items ++ flat_map entry_bytes (take l.body-index l.bodies);
  short : list_any (λ body. ltb max_body (length body)) (drop l.body-index l.bodies) ≡ false;
}

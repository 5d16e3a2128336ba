use Rattle.std.proofs.Common.{◌≡◌, ◌++◌, take, length}
use Rattle.std.specs.List.{flat_map, AllByRecursion}
use Rattle.std.specs.Int.{w32, to_be_bytes}
use Rattle.ns_image.specs.Layouts.{call_bytes}
use Rattle.ns_image.specs.Laws.{IsSent}
use Rattle.ns_image.proofs.writing.put_calls.Given as goal

abbrev pub invariant-loop-noted : goal.invariant-loop-noted
invariant-loop-noted l = record {
  bytes : l.out.items ≡ l.fn.out.items ++ (to_be_bytes w32 (length l.calls) ++ flat_map call_bytes (take l.noted-index l.calls));
  sent : AllByRecursion IsSent (take l.noted-index l.calls);
}

use Rattle.std.proofs.Common.{◌≡◌, ◌-◌, [], length}
use Rattle.ns_tree.specs.Space.{AreRising}
use Rattle.ns_image.specs.Reading.{repeated, call_at}
use Rattle.ns_image.proofs.calls.add_calls.Given as goal

-- what is left to be read goes on from the calls so far
abbrev pub invariant-loop : goal.invariant-loop
invariant-loop l = record {
  so_far : repeated (call_at l.txid) (l.count - l.counter) l.namespace.calls l.rest ≡ repeated (call_at l.txid) l.count [] l.bytes;
  rows : l.namespace.pairs ≡ l.fn.namespace.pairs;
  rising : AreRising 0 l.txid l.namespace.calls;
  all : length l.namespace.calls ≡ l.counter;
}

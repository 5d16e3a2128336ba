use Rattle.std.proofs.Common.{◌≡◌, drop}
use Rattle.ns_tree.specs.Space.{txid_of}
use Rattle.ns_tree.proofs.retry_list.find_call.Given as goal

abbrev pub invariant-loop-noted : goal.invariant-loop-noted
invariant-loop-noted l = txid_of l.call l.calls ≡ txid_of l.call (drop l.noted-index l.calls)

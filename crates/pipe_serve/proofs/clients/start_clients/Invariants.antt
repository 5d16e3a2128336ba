use Rattle.std.proofs.Common.{◌≡◌, length, map}
use Rattle.pipe_serve.proofs.clients.start_clients.Given as goal

abbrev pub invariant-loop-seat : goal.invariant-loop-seat
invariant-loop-seat g l = (l.client ≡ length l.yielded) × (map (λ t. t.promise.was.value) l.threads.items ≡ l.yielded)

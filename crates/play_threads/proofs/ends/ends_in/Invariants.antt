use Rattle.std.proofs.Common.{◌≡◌, map}
use Rattle.play_threads.proofs.ends.ends_in.Given as goal

abbrev pub invariant-loop-name : goal.invariant-loop-name
invariant-loop-name l = (map (λ e. e.name) l.ends ≡ map (λ p. p.0) l.yielded) × (map (λ e. e.last) l.ends ≡ map (λ p. p.1) l.yielded)

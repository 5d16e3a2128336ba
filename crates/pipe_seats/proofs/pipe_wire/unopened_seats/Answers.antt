use Rattle.std.proofs.Common.{ℕ, ◌≡◌, ◌∙◌, ap, arith, replicate}
use Rattle.pipe_seats.specs.Seats.{unopened_seat}
use Rattle.pipe_seats.proofs.pipe_wire.unopened_seats.Goals as goal

pub returns : goal.returns
returns g c =
    let all : c.loop.counter ≡ c.args.nodes = omega (arith, c.loop.auto.counter-end, c.loop-test.false) in
    c.loop.invariant ∙ ap (λ (n : ℕ). replicate n (unopened_seat c.args.life)) all

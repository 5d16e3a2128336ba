use Rattle.std.proofs.Common.{arith, ap, ◌∙◌}
use Rattle.play_threads.proofs.Steps.{joins}
use Rattle.play_threads.proofs.gate.GateSeat.join.Goals as goal

pub join_seat-requires : goal.join_seat-requires
join_seat-requires g c =
    let own = c.requires.own in
    let w = own.2 in
    let s = c.args.self.at_rest in
    (own.0, own.1, s.1, omega arith, joins _ _ _ c.args.made _ _ _ (ap (λ m. m.0) c.requires.keeps) s.0 (s.2 ∙ c.requires.next))

use Rattle.std.proofs.Common.{rules, ◌∷◌, ◌∙◌, sym}
use Rattle.play_pipes.specs.PipeSeats.{round_calls}
use Rattle.play_pipes.proofs.PipeSeatLaws.{taken}
use Rattle.play_pipes.proofs.ahead.Ahead.take.Goals as goal

pub returns-clause-first : goal.returns-clause-first
returns-clause-first c =
    let ins = c.self.inside in
    sym c.self.view_is
    ∙ taken ins.nodes.items ins.heards.items ins.request c.in-Some.asked c.args.request.now c.args.node c.remove-2.result c.in-Some.is (search rules) (search rules) (search rules)
    (search rules) c.remove-2.ensures.value
    ∙ (λ i. record { node = c.args.node; request = c.args.request.now; heard = c.remove-2.result } ∷ round_calls (sym c.remove.ensures.items i) ins.request (sym c.remove-2.ensures.items i))

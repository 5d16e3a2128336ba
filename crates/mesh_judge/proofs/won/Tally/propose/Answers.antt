use Rattle.std.proofs.Common.{◌+◌, true, false, refl, sym, ◌∙◌}
use Rattle.mesh_judge.proofs.Counting.{proposed}
use Rattle.mesh_judge.proofs.won.Tally.propose.Goals as goal

pub returns-then-is_promise-clause-won : goal.returns-then-is_promise-clause-won
returns-then-is_promise-clause-won c node other rest =
    proposed c.args.nodes c.args.epoch node other c.args.self.now c.turn_to.new.self
    (record { epoch = c.turn_to.new.self.epoch; promises = c.turn_to.new.self.promises + 1; won = c.turn_to.new.self.won }) c.args.told.now rest
    true
    (sym c.if-is_promise.true ∙ c.is_promise.ensures) c.in_ok-turn_to.ensures.won c.in_ok-turn_to.ensures.count c.in_ok-turn_to.ensures.epoch refl refl refl

pub returns-else-is_promise-clause-won : goal.returns-else-is_promise-clause-won
returns-else-is_promise-clause-won c node other rest =
    proposed c.args.nodes c.args.epoch node other c.args.self.now c.turn_to.new.self c.turn_to.new.self c.args.told.now rest false
    (sym c.if-is_promise.false ∙ c.is_promise.ensures) c.in_ok-turn_to.ensures.won c.in_ok-turn_to.ensures.count c.in_ok-turn_to.ensures.epoch refl refl refl

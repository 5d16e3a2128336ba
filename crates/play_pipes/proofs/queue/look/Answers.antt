use Rattle.std.proofs.Common.{ap, ◌∙◌}
use Rattle.play_pipes.proofs.Relays.{rule_pop}
use Rattle.play_pipes.proofs.queue.look.Goals as goal

pub try_pop_as-requires-clause-rule : goal.try_pop_as-requires-clause-rule
try_pop_as-requires-clause-rule g c = rule_pop g.T.Item.stands _ _ (ap (λ v. v.pops) c.loop.invariant.1 ∙ c.requires.may)

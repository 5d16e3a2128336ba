use Rattle.play_pipes.proofs.Relays.{rule_pop}
use Rattle.play_pipes.proofs.queue.pop.Goals as goal

pub try_pop_as-requires-clause-rule : goal.try_pop_as-requires-clause-rule
try_pop_as-requires-clause-rule g c = rule_pop g.T.Item.stands _ _ c.requires.may

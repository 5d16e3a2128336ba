use Rattle.std.proofs.Common.{rules}
use Rattle.play_pipes.proofs.Relays.{rule_whole, left_over}
use Rattle.play_pipes.proofs.queue.compare.Goals as goal

pub absorb-requires-clause-rule : goal.absorb-requires-clause-rule
absorb-requires-clause-rule g c = rule_whole g.T.Item.stands _ _ _ _ c.requires.may.0 c.requires.may.1

pub learn_as-requires-clause-rule : goal.learn_as-requires-clause-rule
learn_as-requires-clause-rule g c = left_over g.T.Item.stands _ _ (search rules) (search rules)

use Rattle.std.proofs.Common.{rules}
use Rattle.play_pipes.proofs.Relays.{rule_first, rule_part}
use Rattle.play_pipes.proofs.queue.open.Goals as goal

pub ruled-requires-clause-rule : goal.ruled-requires-clause-rule
ruled-requires-clause-rule g c = rule_first g.T.Item.stands

pub another-pops-requires-clause-rule : goal.another-pops-requires-clause-rule
another-pops-requires-clause-rule g c = rule_part g.T.Item.stands _ _ _ (search rules) (search rules) (search rules)

use Rattle.play_pipes.proofs.Relays.{rule_receipt}
use Rattle.play_pipes.proofs.queue.receipt_of.Goals as goal

pub another-requires-clause-rule : goal.another-requires-clause-rule
another-requires-clause-rule g c = rule_receipt g.T.Item.stands _ _ c.requires.may

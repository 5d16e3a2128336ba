use Rattle.std.proofs.Common.{ap, ◌∙◌}
use Rattle.play_pipes.proofs.Relays.{rule_push, stands_same}
use Rattle.play_pipes.proofs.queue.push.Goals as goal

pub try_push_as-requires-clause-rule : goal.try_push_as-requires-clause-rule
try_push_as-requires-clause-rule g c =
    let inv = c.loop.invariant in
    rule_push g.T.Item.stands _ _ _ _ (ap (λ v. v.pushes) inv.3 ∙ c.requires.may)
    (stands_same g.T.Item.stands _ _ _ _ inv.3 inv.5 c.requires.stands)

use Rattle.std.proofs.Common.{List, Some, sym, ap, subst, ◌∙◌}
use Rattle.ns_edits.specs.Replay.{Image}
use Rattle.play_names.specs.Holding.{Holding}
use Rattle.play_names.specs.ImageDisks.{HoldsOn}
use Rattle.play_actor.proofs.LineLaws.{last_held, stands_in, images_in}
use Rattle.play_actor.proofs.name_node.NameNode.into_left.Goals as goal

pub returns-clause-last : goal.returns-clause-last
returns-clause-last c =
    ap (λ (x : _). Some x) (c.in_ok-last.ensures c.into_role-role.result.1 ∙ ap (λ (h : Holding). last_held (stands_in h)) c.into_role-role.ensures.holding)

pub returns-clause-images : goal.returns-clause-images
returns-clause-images c =
    subst (λ (images : List Image). HoldsOn c.into_disk.result images)
    (sym (images_in c.into_role-role.result.1 c.into_role-role.result.0) ∙ ap (λ (h : Holding). h.images) c.into_role-role.ensures.holding) c.into_disk.ensures

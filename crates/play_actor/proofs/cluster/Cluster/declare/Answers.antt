use Rattle.std.proofs.Common.{rules, arith, ◌≡◌, ◌≤◌, ◌∙◌, sym, ap, subst, length}
use Rattle.std.proofs.lemmas.Grind.{common_steps}
use Rattle.play_calls.specs.Logs.{LogView}
use Rattle.play_actor.specs.Kept.{Kept}
use Rattle.play_actor.specs.Shown.{AreSeated}
use Rattle.play_actor.proofs.ActsTaken.{seated_more}
use Rattle.play_actor.proofs.cluster.Cluster.declare.Goals as goal

pub invariant_of-self : goal.invariant_of-self
invariant_of-self g c = subst (AreSeated (length c.self.inside.cells.items)) (sym c.in_err-push.ensures.items) c.self.invariant

pub invariant_of-self-2 : goal.invariant_of-self-2
invariant_of-self-2 g c =
    let n : c.len-nodes.result ≡ length c.self.inside.cells.items = first_of (search rules, grind (arith, common_steps)) in
    seated_more g.A.Actor.seen (length c.self.inside.cells.items) c.self.inside.players.items c.push.new.self.items
    (record { name = c.in_ok-from_slice.field-0; actor = c.in_ok-new.field-0; log = c.in_ok-new-2.field-0 })
    c.in_ok-push.ensures.items c.self.invariant (ap (λ (x : LogView). x.nodes) c.in_ok-new-2.ensures ∙ n)

pub new-requires : goal.new-requires
new-requires g c =
    let n : c.len-nodes.result ≡ length c.self.inside.cells.items = first_of (search rules, grind (arith, common_steps)) in
    let some : 1 ≤ length c.self.inside.cells.items = subst (λ (k : Kept). 1 ≤ length k.nodes) (sym c.self.view_is) c.requires in
    omega (arith, n, some)

use Rattle.std.proofs.Common.{rules, arith, ◌≡◌, ◌++◌, ◌∷◌, [], List, ◌∙◌, ap, subst, length}
use Rattle.std.specs.List.{AllZip}
use Rattle.std.proofs.lemmas.Grind.{common_steps}
use Rattle.ns_edits.specs.Replay.{Image}
use Rattle.play_names.specs.ImageDisks.{HoldsOn}
use Rattle.play_actor.specs.Kept.{mesh_kept, ends_kept, states_kept, images_kept}
use Rattle.play_actor.specs.Shown.{kept}
use Rattle.play_actor.proofs.ClusterLaws.{mesh_is, ends_are, images_are}
use Rattle.play_actor.proofs.cluster.Cluster.into_played.Goals as goal

pub returns-clause-mesh : goal.returns-clause-mesh
returns-clause-mesh g c =
    let n : c.len-count.result ≡ length c.self.inside.cells.items = first_of (search rules, grind (arith, common_steps)) in
    ◌∙◌ {b = mesh_kept (kept g.A.Actor.seen c.self.inside.named c.self.inside.cells.items c.self.inside.players.items c.self.inside.operator c.self.inside.operated)}
    (mesh_is g.A.Actor.seen c.self.inside.named c.self.inside.cells.items c.self.inside.players.items c.self.inside.operator c.self.inside.operated
    c.len-count.result c.in_ok-left.left.histories c.of.result c.in_ok-lists.lists.plan n
    c.in_ok-left.ensures.histories (c.of.ensures ∙ c.in_ok-push.ensures.items ∙ ap (λ xs. xs ++ c.self.inside.operated ∷ []) c.in_ok-lists.ensures.records) c.in_ok-lists.ensures.plan)
    (ap mesh_kept c.self.view_is)

pub returns-clause-ends : goal.returns-clause-ends
returns-clause-ends g c =
    c.in_ok-lists.ensures.ends ∙ ends_are g.A.Actor.seen c.self.inside.named c.self.inside.cells.items c.self.inside.players.items
    c.self.inside.operator c.self.inside.operated ∙ ap ends_kept c.self.view_is

pub returns-clause-states : goal.returns-clause-states
returns-clause-states g c = c.in_ok-left.ensures.states ∙ ap states_kept c.self.view_is

pub returns-clause-images : goal.returns-clause-images
returns-clause-images g c =
    let s = c.self.inside in
    subst (λ (is : List (List Image)). AllZip HoldsOn c.in_ok-lists.lists.images.items is)
    (images_are g.A.Actor.seen s.named s.cells.items s.players.items s.operator s.operated ∙ ap images_kept c.self.view_is) c.in_ok-lists.ensures.images

use Rattle.std.proofs.Common.{◌≡◌, ◌∙◌, ap, sym, subst, arith, length, drop, map, List, ℕ}
use Rattle.mesh.specs.declared.whole.Mesh.{Mesh}
use Rattle.ns_tree.specs.declared.end.End.{End}
use Rattle.play_script.specs.declared.script_line.ScriptLine.{ScriptLine}
use Rattle.play_model.specs.Lines.{line_of, lines_of, count_actors}
use Rattle.play_actor.specs.Goal.{MayTake, IsUnderWay}
use Rattle.play_model.specs.Plays.{IsPlayed, states_after}
use Rattle.play_actor.specs.Kept.{mesh_kept}
use Rattle.play_model.proofs.Sound.{has_nodes}
use Rattle.play_actor.proofs.PlayLaws.{may_on, under_way_first, under_way_end}
use Rattle.play_actor.proofs.ImagesLeft.{leaves_images}
use Rattle.play_actor.proofs.NodesLeft.{states_left}
use Rattle.play_actor.proofs.playing.play_on.Goals as goal

pub take_line-requires-clause-may : goal.take_line-requires-clause-may
take_line-requires-clause-may g c =
    let s = c.args.script.now in
    let P : ScriptLine → Type 0 = λ x. MayTake c.loop-line.cluster.named (length c.loop-line.cluster.nodes) (length c.loop-line.cluster.actors) x in
    subst P (sym c.line-item.is) (may_on s.named s.nodes (lines_of s) c.lines-line-items.result.now c.loop-line.line-index c.line-item.result
    c.loop-line.cluster c.loop-line-test.true c.loop-line.invariant)

pub returns-clause-played : goal.returns-clause-played
returns-clause-played g c =
    let s = c.args.script.now in
    let e : c.loop-line.line-index ≡ length c.lines-line-items.result.now = omega (arith, c.loop-line-test.false, c.loop-line.auto.line-index-end) in
    let P : ℕ → Type 0 = λ i. IsUnderWay s.named s.nodes (lines_of s) (drop i c.lines-line-items.result.now) c.loop-line.cluster in
    let Q : Mesh → Type 0 = λ m. IsPlayed s.named s.nodes (lines_of s) m c.in_ok-left.left.played.ends in
    let R : List End → Type 0 = λ ends. IsPlayed s.named s.nodes (lines_of s) (mesh_kept c.loop-line.cluster) ends in
    subst Q (sym c.in_ok-left.ensures.mesh)
    (subst R (sym c.in_ok-left.ensures.ends)
    (under_way_end s.named s.nodes (lines_of s) c.lines-line-items.result.now c.loop-line.cluster (subst P e c.loop-line.invariant)))

pub loop-line-init : goal.loop-line-init
loop-line-init g c =
    under_way_first c.args.script.now c.names.result (length c.args.nodes.items) c.actors_in-operator.result c.lines-line-items.result.now
    c.in_ok-cluster.cluster c.requires.playable c.requires.numbers c.names.ensures c.requires.count
    c.lines-line-items.ensures (c.actors_in-operator.ensures ∙ ap (λ xs. count_actors (map line_of xs)) (c.lines.ensures ∙ sym c.lines-line-items.ensures)) c.in_ok-cluster.ensures

pub returns-clause-states : goal.returns-clause-states
returns-clause-states g c =
    let s = c.args.script.now in
    let lines = c.lines-line-items.result.now in
    c.in_ok-left.ensures.states
    ∙ states_left s.named s.nodes (lines_of s) (drop c.loop-line.line-index lines) c.loop-line.cluster
    (has_nodes s.named s.nodes c.requires.playable.nodes) c.requires.playable.lines c.loop-line.invariant
    ∙ ap (λ m. states_after m.histories) (sym c.in_ok-left.ensures.mesh)

pub returns-clause-images : goal.returns-clause-images
returns-clause-images g c =
    let s = c.args.script.now in
    let e : c.loop-line.line-index ≡ length c.lines-line-items.result.now = omega (arith, c.loop-line-test.false, c.loop-line.auto.line-index-end) in
    let P : ℕ → Type 0 = λ i. IsUnderWay s.named s.nodes (lines_of s) (drop i c.lines-line-items.result.now) c.loop-line.cluster in
    leaves_images s.named s.nodes (lines_of s) c.lines-line-items.result.now c.loop-line.cluster c.in_ok-left.left.played.mesh c.in_ok-left.left.played.ends c.in_ok-left.left.images.items
    (subst P e c.loop-line.invariant) c.in_ok-left.ensures.mesh c.in_ok-left.ensures.ends c.in_ok-left.ensures.images

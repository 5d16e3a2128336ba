use Rattle.std.proofs.Common.{◌-◌, ◌+◌, arith, sym, ◌∙◌, ap, List, [], ◌∷◌, ◌++◌}
use Rattle.mesh_judge.specs.declared.reached.Reach.{Reach}
use Rattle.std.proofs.lemmas.List.{get_or_default}
use Rattle.mesh_judge.proofs.ReachLaws.{split_none, split_skips, split_adds, split_whole, node_within}
use Rattle.mesh_judge.proofs.reached.reached_by_node.Goals as goal

pub loop-index-init : goal.loop-index-init
loop-index-init c = split_none c.args.nodes c.in_ok-lists.lists.items c.in_ok-lists.ensures.0 c.in_ok-lists.ensures.1

pub overflow_sub-node : goal.overflow_sub-node
overflow_sub-node c = (node_within c.args.nodes c.in-Some.node c.loop-index.index c.args.lines.now c.index-lines-index.result c.requires
    c.loop-index-test.true c.index-lines-index.is (sym c.in-Some.ensures)).0

pub index_mut-requires : goal.index_mut-requires
index_mut-requires c =
    let w = node_within c.args.nodes c.in-Some.node c.loop-index.index c.args.lines.now c.index-lines-index.result c.requires c.loop-index-test.true c.index-lines-index.is (sym c.in-Some.ensures) in
    omega (arith, w.0, w.1, c.loop-index.invariant.size, c.loop-index.lists.ok.0)

pub loop-index-preserved-in_default : goal.loop-index-preserved-in_default
loop-index-preserved-in_default c =
    split_skips c.args.nodes c.loop-index.index c.args.lines.now c.index-lines-index.result c.loop-index.lists.items c.loop-index-test.true
    c.index-lines-index.is (sym c.node_reached.ensures ∙ c.in_default.is) c.loop-index.invariant

pub loop-index-preserved : goal.loop-index-preserved
loop-index-preserved c =
    let w = node_within c.args.nodes c.in-Some.node c.loop-index.index c.args.lines.now c.index-lines-index.result c.requires c.loop-index-test.true c.index-lines-index.is (sym c.in-Some.ensures) in
    split_adds c.args.nodes c.in-Some.node c.loop-index.index c.args.lines.now c.index-lines-index.result c.loop-index.lists.items
    (record { place = c.loop-index.index + 1; is_muted = c.is_muted.result }) c.push.new.self c.loop-index-test.true c.index-lines-index.is (sym c.in-Some.ensures) w
    (ap (λ b. record { place = c.loop-index.index + 1; is_muted = b }) c.is_muted.ensures)
    (c.in_ok-push.ensures ∙ ap (λ (l : List Reach). l ++ record { place = c.loop-index.index + 1; is_muted = c.is_muted.result } ∷ [])
    (c.index_mut.ensures.value ∙ get_or_default c.loop-index.lists.items (c.in-Some.node - 1) c.index_mut.result.now [] (omega (arith, w.0, w.1, c.loop-index.invariant.size))))
    c.loop-index.invariant

pub returns-clause-count : goal.returns-clause-count
returns-clause-count c = c.loop-index.invariant.size

pub returns-clause-places : goal.returns-clause-places
returns-clause-places c i less = split_whole c.args.nodes c.loop-index.index i c.args.lines.now c.loop-index.lists.items c.loop-index-test.false less c.loop-index.invariant

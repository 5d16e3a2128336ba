use Rattle.std.proofs.Common.{◌∙◌, ap, ◌++◌, List, ℕ}
use Rattle.ns_tree.specs.Space.{find}
use Rattle.ns_edits.specs.Admit.{blocks_of}
use Rattle.ns_edits.proofs.Joins.{blocks_next}
use Rattle.ns_edits.proofs.applying.concat.all_blocks.Goals as goal

pub loop-source-preserved : goal.loop-source-preserved
loop-source-preserved c =
    blocks_next c.args.target.now c.args.sources.now c.args.ns.now.pairs c.loop-source.source-index c.source-item.result c.loop-source.all.items c.extend_from_slice.new.self.items
    c.loop-source-test.true c.source-item.is c.loop-source.invariant
    (c.in_ok-extend_from_slice.ensures.items ∙ ap (λ (ns : List ℕ). c.loop-source.all.items ++ ns)
    (c.blocks-in-loop-source.ensures ∙ ap (λ (p : List ℕ). blocks_of (find p c.args.ns.now.pairs)) c.as_slice.ensures))

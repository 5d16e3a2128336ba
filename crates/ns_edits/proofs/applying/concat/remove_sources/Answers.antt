use Rattle.std.proofs.Common.{◌≡◌, ◌+◌, ◌∙◌, ap, sym, subst, refl, drop, List, ℕ}
use Rattle.ns_tree.specs.Path.{parent_of}
use Rattle.ns_tree.specs.Space.{without, raise}
use Rattle.ns_edits.specs.Apply.{AreSources, without_sources}
use Rattle.ns_edits.proofs.Joins.{next_source, sources_left}
use Rattle.ns_edits.proofs.applying.concat.remove_sources.Goals as goal

pub loop-source-preserved : goal.loop-source-preserved
loop-source-preserved c =
    let next = next_source c.args.sources.now c.loop-source.source-index c.source-item.result c.loop-source-test.true c.source-item.is in
    let pairs : c.raise_mtime.new.self.pairs ≡ raise (parent_of c.source-item.result) c.args.time (without c.source-item.result c.loop-source.ns.pairs) =
    rw (c.raise_mtime.ensures, c.remove.ensures, c.parent.ensures, c.as_slice.ensures, c.as_slice-in-loop-source.ensures) refl in
    record {
      left = subst (AreSources (drop (c.loop-source.source-index + 1) c.args.sources.now)) (sym pairs)
          (sources_left c.source-item.result c.args.time (drop (c.loop-source.source-index + 1) c.args.sources.now) c.loop-source.ns.pairs (rw next at c.loop-source.invariant.left));
      gone = ap (without_sources (drop (c.loop-source.source-index + 1) c.args.sources.now) c.args.time) pairs
          ∙ (ap (λ (ps : List (List ℕ)). without_sources ps c.args.time c.loop-source.ns.pairs) (sym next) ∙ c.loop-source.invariant.gone);
      calls = rw (c.raise_mtime.ensures, c.remove.ensures) c.loop-source.invariant.calls;
    }

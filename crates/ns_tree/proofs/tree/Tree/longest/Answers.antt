use Rattle.std.proofs.Common.{◌≡◌, ◌≤◌, ap, List, ℕ, length, arith}
use Rattle.ns_tree.specs.Path.{stem}
use Rattle.std.proofs.Common.{◌+◌}
use Rattle.ns_tree.specs.Space.{subtree}
use Rattle.ns_tree.proofs.Walks.{each_filter}
use Rattle.ns_tree.proofs.Folds.{max_is, longest_most}
use Rattle.ns_tree.proofs.Stands.{stands_short, stands_longest}
use Rattle.ns_tree.proofs.tree.Tree.longest.Goals as goal

pub longest-requires : goal.longest-requires
longest-requires c = stands_short c.args.path.now c.in-Some.ensures.some.0 c.in-Some.ensures.some.1 c.args.self.now c.in-Some.branch.now c.show.ensures c.in-Some.ensures.some.2 c.requires.short

pub overflow_add-stem_of : goal.overflow_add-stem_of
overflow_add-stem_of c =
    let whole = stands_longest c.args.path.now c.in-Some.ensures.some.0 c.in-Some.ensures.some.1 c.args.self.now c.in-Some.branch.now c.show.ensures c.in-Some.ensures.some.2 in
    let fits = longest_most 1000 (subtree c.args.path.now c.args.self.now) (each_filter (λ x. length x.path ≤ 1000) _ c.args.self.now c.requires.short) in
    let above : length c.stem_of.result.now ≡ length (stem c.args.path.now) = ap (λ (w : List ℕ). length w) c.stem_of.ensures in
    omega (arith, whole, fits, above, c.longest.ensures)

pub returns : goal.returns
returns c =
    let whole = stands_longest c.args.path.now c.in-Some.ensures.some.0 c.in-Some.ensures.some.1 c.args.self.now c.in-Some.branch.now c.show.ensures c.in-Some.ensures.some.2 in
    let above : length c.stem_of.result.now ≡ length (stem c.args.path.now) = ap (λ (w : List ℕ). length w) c.stem_of.ensures in
    let most = max_is (length c.args.path.now) (length c.stem_of.result.now + c.longest.result) in
    omega (arith, whole, above, most, c.max.ensures, c.longest.ensures)

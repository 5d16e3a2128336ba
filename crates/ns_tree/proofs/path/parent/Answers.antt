use Rattle.std.proofs.Common.{◌≡◌, ap, sym, arith, refl, ◌∙◌, length, ◌-◌, ◌+◌, ◌<◌, false}
use Rattle.ns_tree.specs.Path.{path_of_stem, has_slash}
use Rattle.ns_tree.proofs.Scans.{last_slash, no_slash}
use Rattle.ns_tree.proofs.path.parent.Goals as goal

pub returns-then-path-i-eq47 : goal.returns-then-path-i-eq47
returns-then-path-i-eq47 c =
    let step : c.loop-i.i - 1 + 1 ≡ c.loop-i.i = omega arith in
    let within : c.loop-i.i - 1 < length c.args.path.now = omega (arith, c.loop-i.invariant.within) in
    let last = last_slash c.args.path.now (c.loop-i.i - 1) within c.if-path-i-eq47.true (rw step c.loop-i.invariant.none) in
    c.path_of.ensures ∙ ap path_of_stem (sym last)

pub returns : goal.returns
returns c =
    let start : c.loop-i.i ≡ 0 = omega arith in
    let none : has_slash c.args.path.now ≡ false = rw start at c.loop-i.invariant.none in
    rw (no_slash c.args.path.now none) refl

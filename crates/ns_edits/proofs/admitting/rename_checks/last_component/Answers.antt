use Rattle.std.proofs.Common.{◌≡◌, sym, arith, ◌∙◌, length, drop, ◌-◌, ◌+◌, ◌<◌, false}
use Rattle.std.proofs.lemmas.List.{take_all, length-drop}
use Rattle.ns_tree.specs.Path.{has_slash}
use Rattle.ns_edits.proofs.Components.{after_slash, whole_component}
use Rattle.ns_edits.proofs.admitting.rename_checks.last_component.Goals as goal

pub returns-then-path-i-eq47-clause-value : goal.returns-then-path-i-eq47-clause-value
returns-then-path-i-eq47-clause-value c =
    let step : c.loop-i.i - 1 + 1 ≡ c.loop-i.i = omega arith in
    let within : c.loop-i.i - 1 < length c.args.path.now = omega (arith, c.loop-i.invariant.within) in
    let value = after_slash c.args.path.now (c.loop-i.i - 1) within c.if-path-i-eq47.true (rw step c.loop-i.invariant.none) in
    take_all (length c.args.path.now - (c.loop-i.i - 1 + 1)) (drop (c.loop-i.i - 1 + 1) c.args.path.now)
    (let size = length-drop (c.loop-i.i - 1 + 1) c.args.path.now in omega (arith, size)) ∙ sym value

pub returns-clause-value : goal.returns-clause-value
returns-clause-value c =
    let start : c.loop-i.i ≡ 0 = omega arith in
    let none : has_slash c.args.path.now ≡ false = rw start at c.loop-i.invariant.none in
    sym (whole_component c.args.path.now none)

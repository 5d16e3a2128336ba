use Rattle.std.proofs.Common.{◌<◌, ◌+◌, ◌-◌, length, rules, arith, ap, sym, ◌∙◌, Some}
use Rattle.mesh.specs.Matches.{reached}
use Rattle.mesh_judge.proofs.MatchLaws.{known_at, next_place, next_decided, none_next}
use Rattle.mesh_judge.proofs.matching.is_next.Goals as goal

pub overflow_sub-reach : goal.overflow_sub-reach
overflow_sub-reach c =
    let known = known_at c.args.lines.now c.args.table.now c.args.index c.index.result.now c.requires.node c.requires.known c.index.ensures in
    let place = next_place c.args.lines.now c.args.index c.args.number c.as_slice.result.now c.in-Some.reach.now (c.as_slice.ensures ∙ known) c.in-Some.ensures.lookup.3.0 c.in-Some.ensures.lookup.1 in
    place.low

pub offset_bounds-lines-reach : goal.offset_bounds-lines-reach
offset_bounds-lines-reach c =
    let known = known_at c.args.lines.now c.args.table.now c.args.index c.index.result.now c.requires.node c.requires.known c.index.ensures in
    let place = next_place c.args.lines.now c.args.index c.args.number c.as_slice.result.now c.in-Some.reach.now (c.as_slice.ensures ∙ known) c.in-Some.ensures.lookup.3.0 c.in-Some.ensures.lookup.1 in
    let inside : c.in-Some.reach.now.place - 1 < length c.args.lines.now = omega (arith, place.high, place.low) in
    search rules

pub bounds-lines-reach : goal.bounds-lines-reach
bounds-lines-reach c =
    let known = known_at c.args.lines.now c.args.table.now c.args.index c.index.result.now c.requires.node c.requires.known c.index.ensures in
    let place = next_place c.args.lines.now c.args.index c.args.number c.as_slice.result.now c.in-Some.reach.now (c.as_slice.ensures ∙ known) c.in-Some.ensures.lookup.3.0 c.in-Some.ensures.lookup.1 in
    omega (arith, place.high, place.low)

pub returns-in-Some : goal.returns-in-Some
returns-in-Some c =
    let known = known_at c.args.lines.now c.args.table.now c.args.index c.index.result.now c.requires.node c.requires.known c.index.ensures in
    let place = next_place c.args.lines.now c.args.index c.args.number c.as_slice.result.now c.in-Some.reach.now (c.as_slice.ensures ∙ known) c.in-Some.ensures.lookup.3.0 c.in-Some.ensures.lookup.1 in
    next_decided (reached (c.args.index + 1) c.args.lines.now) c.args.number c.args.at_node.now c.is_same.result c.index-lines-reach.result
    (place.line c.index-lines-reach.result ∙ ap Some (sym c.index-lines-reach.is)) c.is_same.ensures

pub returns-in-None : goal.returns-in-None
returns-in-None c =
    let known = known_at c.args.lines.now c.args.table.now c.args.index c.index.result.now c.requires.node c.requires.known c.index.ensures in
    none_next c.args.lines.now c.args.index c.args.number c.args.at_node.now c.as_slice.result.now (c.as_slice.ensures ∙ known) c.in-None.ensures.lookup.3

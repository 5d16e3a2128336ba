use Rattle.std.proofs.Common.{◌≡◌, map, length, arith}
use Rattle.play_model.specs.Lines.{line_of, count_actors}
use Rattle.play_model.proofs.LinesLeft.{count_more, count_all}
use Rattle.play_model.proofs.declarations.actors_in.Goals as goal

pub overflow_add-actors : goal.overflow_add-actors
overflow_add-actors c =
    let e = count_more c.args.lines.now c.loop-line.line-index c.loop-line.actors c.declarations-actors.result
    (count_actors (map line_of c.args.lines.now)) c.line-item.result c.loop-line-test.true c.line-item.is
    c.declarations-actors.ensures c.loop-line.invariant in
    omega (arith, e, c.requires)

pub loop-line-preserved : goal.loop-line-preserved
loop-line-preserved c =
    count_more c.args.lines.now c.loop-line.line-index c.loop-line.actors c.declarations-actors.result (count_actors (map line_of c.args.lines.now))
    c.line-item.result c.loop-line-test.true c.line-item.is
    c.declarations-actors.ensures c.loop-line.invariant

pub returns : goal.returns
returns c =
    let e : c.loop-line.line-index ≡ length c.args.lines.now = omega (arith, c.loop-line-test.false, c.loop-line.auto.line-index-end) in
    count_all c.args.lines.now c.loop-line.line-index c.loop-line.actors (count_actors (map line_of c.args.lines.now)) e c.loop-line.invariant

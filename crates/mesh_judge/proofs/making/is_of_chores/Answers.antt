use Rattle.std.proofs.Common.{◌<◌, length, subst, Decides}
use Rattle.mesh_judge.proofs.Following.{line_within, led_ends}
use Rattle.mesh_judge.proofs.making.is_of_chores.Goals as goal

pub after_line-requires-clause-within : goal.after_line-requires-clause-within
after_line-requires-clause-within c =
    line_within c.args.nodes c.loop-line.line-index c.args.lines.now c.line-item.result c.requires c.loop-line-test.true c.line-item.is

pub returns : goal.returns
returns c =
    led_ends c.args.nodes c.loop-line.line-index c.args.lines.now c.loop-line.candidates.items c.some_left.result c.loop-line-test.false c.loop-line.invariant
    (subst (λ cs. Decides c.some_left.result (0 < length cs)) c.deref.ensures.value c.some_left.ensures)

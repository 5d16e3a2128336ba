use Rattle.std.proofs.Common.{ap}
use Rattle.caller.specs.LaterLaws.{later_same, later_on}
use Rattle.play_threads.proofs.OperatorLaws.{operated_first, operated_next}
use Rattle.play_threads.proofs.operator_lines.operate_alone.Goals as goal

pub loop-line-init : goal.loop-line-init
loop-line-init g c = (operated_first c.args.lines.now c.args.by.now.log.past (ap (λ l. l.past) c.requires.log), later_same g.W.WireModel g.met.W.Wire.readies_none c.args.by.now)

pub loop-line-preserved : goal.loop-line-preserved
loop-line-preserved g c = (
  operated_next c.args.lines.now c.loop-line.line-index c.line-item.result c.loop-line.by.log.past c.take_operation.new.by.log.past
      c.loop-line-test.true c.line-item.is c.loop-line.invariant.0 c.in_ok-take_operation.ensures.takes,
  later_on g.W.WireModel g.met.W.Wire.readies_on c.args.by.now c.loop-line.by c.take_operation.new.by c.loop-line.invariant.1 c.in_ok-take_operation.ensures.later,
)

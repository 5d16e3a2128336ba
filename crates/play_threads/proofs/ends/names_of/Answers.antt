use Rattle.std.proofs.Common.{◌∙◌}
use Rattle.play_threads.proofs.EndLaws.{names_first, names_next}
use Rattle.play_threads.proofs.ends.names_of.Goals as goal

pub loop-line-init : goal.loop-line-init
loop-line-init c = c.new-names.ensures.items ∙ names_first c.args.lines.now

pub loop-line-preserved : goal.loop-line-preserved
loop-line-preserved c =
    names_next c.args.lines.now c.loop-line.line-index c.line-item.result c.loop-line.names.items c.note_name.new.names.items c.loop-line-test.true c.line-item.is c.loop-line.invariant
    c.in_ok-note_name.ensures

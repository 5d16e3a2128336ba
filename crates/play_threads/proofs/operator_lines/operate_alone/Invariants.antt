use Rattle.std.proofs.Common.{map, take}
use Rattle.caller.specs.Callers.{AreLater}
use Rattle.play_model.specs.Lines.{line_of}
use Rattle.play_threads.specs.Threads.{HasOperated}
use Rattle.play_threads.proofs.operator_lines.operate_alone.Given as goal

abbrev pub invariant-loop-line : goal.invariant-loop-line
invariant-loop-line g l = HasOperated (map line_of (take l.line-index l.lines)) l.by.log.past × AreLater g.W.WireModel l.initial.by l.by

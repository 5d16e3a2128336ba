use Rattle.std.proofs.Common.{drop}
use Rattle.play_model.specs.Lines.{lines_of}
use Rattle.play_actor.specs.Goal.{IsUnderWay}
use Rattle.play_actor.proofs.playing.play_on.Given as goal

abbrev pub invariant-loop-line : goal.invariant-loop-line
invariant-loop-line g l = IsUnderWay l.script.named l.script.nodes (lines_of l.script) (drop l.line-index l.line-items) l.cluster

use Rattle.std.proofs.Common.{drop}
use Rattle.play_script.specs.Grammar.{script_text}
use Rattle.play_script.proofs.PrintLaws.{IsWritten}
use Rattle.play_script.proofs.print.print_script.Given as goal

abbrev pub invariant-loop-line : goal.invariant-loop-line
invariant-loop-line l = IsWritten l.out.items l.said (drop l.line-index l.line-items) (script_text l.script)

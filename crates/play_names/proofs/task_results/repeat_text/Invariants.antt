use Rattle.std.proofs.Common.{◌≡◌, replicate}
use Rattle.play_names.proofs.task_results.repeat_text.Given as goal

abbrev pub invariant-loop : goal.invariant-loop
invariant-loop l = l.texts.items ≡ replicate l.counter l.text

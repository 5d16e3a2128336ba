use Rattle.std.proofs.Common.{◌≡◌}
use Rattle.play_names.specs.ResultLists.{acked_texts}
use Rattle.play_names.proofs.task_results.acked_texts.Given as goal

abbrev pub invariant-loop-i : goal.invariant-loop-i
invariant-loop-i l = l.texts.items ≡ acked_texts l.first l.i

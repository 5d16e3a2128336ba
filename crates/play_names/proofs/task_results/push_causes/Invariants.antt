use Rattle.std.proofs.Common.{◌≡◌, ◌++◌, take}
use Rattle.play_names.specs.Results.{cause_words}
use Rattle.play_names.proofs.task_results.push_causes.Given as goal

abbrev pub invariant-loop-cause : goal.invariant-loop-cause
invariant-loop-cause l = l.text.items ≡ l.fn.text.items ++ cause_words (take l.cause-index l.causes)

use Rattle.play_names.proofs.DueLaws.{AreLost}
use Rattle.play_names.proofs.name_results.lost_results.Given as goal

abbrev pub invariant-loop-due : goal.invariant-loop-due
invariant-loop-due l = AreLost l.texts.items l.text l.dues l.due-index

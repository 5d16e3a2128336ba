use Rattle.std.proofs.Common.{◌≤◌, ◌+◌}
use Rattle.play_names.proofs.DueLaws.{AreLogged}
use Rattle.play_names.proofs.name_results.logged_results.Given as goal

abbrev pub invariant-loop-due : goal.invariant-loop-due
invariant-loop-due l = AreLogged l.texts.items l.first l.txid l.dues l.due-index × (l.txid ≤ l.first + l.due-index)

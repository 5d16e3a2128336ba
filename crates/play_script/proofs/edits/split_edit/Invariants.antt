use Rattle.std.proofs.Common.{◌≤◌, length}
use Rattle.play_script.proofs.EditLaws.{IsBeforeIn}
use Rattle.play_script.proofs.edits.split_edit.Given as goal

-- no word so far is `;`
abbrev pub invariant-loop-word : goal.invariant-loop-word
invariant-loop-word l = IsBeforeIn l.text l.rest × (length l.rest ≤ length l.text)

abbrev pub decreases-loop-word : goal.decreases-loop-word
decreases-loop-word l = length l.rest

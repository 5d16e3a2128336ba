use Rattle.std.proofs.Common.{◌≡◌, ◌++◌, take}
use Rattle.play_script.specs.Edits.{others_text}
use Rattle.play_script.proofs.print.push_others.Given as goal

abbrev pub invariant-loop-edit : goal.invariant-loop-edit
invariant-loop-edit l = l.out.items ≡ l.fn.out.items ++ others_text (take l.edit-index l.edits)

use Rattle.std.proofs.Common.{take}
use Rattle.play_names.specs.DueTexts.{dues_of}
use Rattle.play_actor.specs.Submitting.{AreSubmitted}
use Rattle.play_actor.proofs.submissions.submit_all.Given as goal

abbrev pub invariant-loop-edit : goal.invariant-loop-edit
invariant-loop-edit l = AreSubmitted l.fn.active (take l.edit-index l.edits) l.active (dues_of l.dues.items)

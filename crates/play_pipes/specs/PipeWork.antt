-- What an actor leaves whose calls went through pipes.
use Rattle.std.specs.Prelude.{◌≡◌, ℕ, Bool, true, List, [], Option, Some, length}
use Rattle.journal_history.specs.declared.record.Record.{Record}
use Rattle.journal_history.specs.declared.mark.Mark.{Mark}
use Rattle.mesh.specs.Marks.{IsMarked, AreCopied}
use Rattle.mesh.specs.Matches.{AreWithin}
use Rattle.ns_tree.specs.declared.end.LastSpace.{LastSpace}
use Rattle.play_calls.specs.Logs.{LogView}
use Rattle.play_model.specs.Lines.{Action}
use Rattle.play_pipes.specs.Calls.{Calls}
use Rattle.play_pipes.specs.PipeLines.{AreTold}
use Rattle.play_threads.specs.Threads.{FollowsActions}

-- its record and its marks, which go by each other, and what it holds at last; the record says what
-- the lines list
pub record HasWorked (named : Bool) (nodes : ℕ) (actions : List Action) (left : Option (List Record × List Mark × Option LastSpace)) (lists : List Calls) : Type 0 where
  pub log : LogView
  pub last : Option LastSpace
  pub whole : log.whole ≡ true
  pub count : log.nodes ≡ nodes
  pub is_left : left ≡ Some (log.past, log.marks, last)
  pub follows : FollowsActions named nodes actions log.past log.marks last
  pub long : length lists ≡ nodes
  pub told : AreTold log.past lists
  pub marked : IsMarked log.marks [] log.past
  pub copied : AreCopied log.marks log.past
  pub within : AreWithin log.nodes log.past

-- The results of a task, by what came of it.
use Rattle.std.specs.Prelude.{ℕ, ◌++◌, List, [], codes, Option}
use Rattle.writer_core.specs.declared.turn.Turn.TheVariants as turn
use Rattle.writer_calls.specs.declared.came.Came.{Came}
use Rattle.writer_calls.specs.declared.came.Came.TheVariants as came
use Rattle.play_names.specs.Results.{word}
use Rattle.play_names.specs.ResultLists.{times, texts_of, TurnFits, AreFew}

-- of a task with this name, which logs so many edits if it is a log
abbrev pub texts_came : List ℕ → Option ℕ → Came → List (List ℕ)
texts_came name edits came.NotActive = times edits (name ++ codes "inactive")
texts_came name edits (came.TooLong number) = times edits (word (codes "toolong") number)
texts_came name edits (came.Done o) = texts_of name edits (turn.Done o) []
texts_came name edits (came.Aborted causes) = texts_of name edits turn.Aborted causes
texts_came name edits (came.EpochLimit told) = texts_of name edits (turn.EpochLimit told) []
texts_came name edits came.OutOfMemory = []

-- a task that was done is a log of one batch at most, with its txids in range
abbrev pub CameFits : Option ℕ → Came → Type 0
CameFits edits (came.Done o) = TurnFits (turn.Done o) × AreFew edits
CameFits edits (came.Aborted causes) = AreFew edits
CameFits edits (came.EpochLimit told) = AreFew edits
CameFits edits _ = Unit {0}

-- The answers of the calls, as what comes of their tasks.
use Rattle.writer_core.specs.declared.turn.Outcome.TheVariants as outcome
use Rattle.writer_calls.specs.declared.came.Came.{Came}
use Rattle.writer_calls.specs.declared.came.Came.TheVariants as came
use Rattle.writer_calls.specs.declared.taken.Taken.{Taken}
use Rattle.writer_calls.specs.declared.taken.Taken.TheVariants as taken
use Rattle.writer_calls.specs.declared.logged.Logged.{Logged}
use Rattle.writer_calls.specs.declared.logged.Logged.TheVariants as logged
use Rattle.writer_calls.specs.declared.rolled.Rolled.{Rolled}
use Rattle.writer_calls.specs.declared.rolled.Rolled.TheVariants as rolled
use Rattle.writer_calls.specs.declared.closed.Closed.{Closed}
use Rattle.writer_calls.specs.declared.closed.Closed.TheVariants as closed
use Rattle.writer_calls.specs.declared.purging.Purging.{Purging}
use Rattle.writer_calls.specs.declared.purging.Purging.TheVariants as purging

abbrev pub came_of_taken : Taken → Came
came_of_taken (taken.Taken epoch first) = came.Done (outcome.Takeover epoch first)
came_of_taken (taken.Aborted causes) = came.Aborted causes
came_of_taken (taken.EpochLimit told) = came.EpochLimit told
came_of_taken taken.OutOfMemory = came.OutOfMemory

abbrev pub came_of_logged : Logged → Came
came_of_logged (logged.Acked first last) = came.Done (outcome.Log first last)
came_of_logged (logged.Aborted causes) = came.Aborted causes
came_of_logged logged.NotActive = came.NotActive
came_of_logged (logged.TooLong number) = came.TooLong number
came_of_logged logged.OutOfMemory = came.OutOfMemory

abbrev pub came_of_rolled : Rolled → Came
came_of_rolled (rolled.Rolled start) = came.Done (outcome.Roll start)
came_of_rolled (rolled.Aborted causes) = came.Aborted causes
came_of_rolled rolled.NotActive = came.NotActive
came_of_rolled rolled.OutOfMemory = came.OutOfMemory

abbrev pub came_of_closed : Closed → Came
came_of_closed (closed.Closed last) = came.Done (outcome.Close last)
came_of_closed (closed.Aborted causes) = came.Aborted causes
came_of_closed closed.NotActive = came.NotActive
came_of_closed closed.OutOfMemory = came.OutOfMemory

abbrev pub came_of_purging : Purging → Came
came_of_purging purging.Done = came.Done outcome.Purge
came_of_purging (purging.Aborted causes) = came.Aborted causes
came_of_purging purging.NotActive = came.NotActive
came_of_purging purging.OutOfMemory = came.OutOfMemory

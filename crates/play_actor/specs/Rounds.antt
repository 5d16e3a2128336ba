-- What the rounds of an active name node say, by their answers.
use Rattle.std.specs.Prelude.{ℕ, List, [], ◌∷◌, codes, Option, None}
use Rattle.writer_core.specs.Views.{WriterView}
use Rattle.writer_calls.specs.declared.rolled.Rolled.{Rolled}
use Rattle.writer_calls.specs.declared.rolled.Rolled.TheVariants as rolled
use Rattle.writer_calls.specs.declared.closed.Closed.{Closed}
use Rattle.writer_calls.specs.declared.closed.Closed.TheVariants as closed
use Rattle.writer_calls.specs.declared.purging.Purging.{Purging}
use Rattle.writer_calls.specs.declared.purging.Purging.TheVariants as purging
use Rattle.ns_edits.specs.Replay.{Image}
use Rattle.play_names.specs.Holding.{Holding, reload_image}
use Rattle.play_standby.specs.Standbys.{StandbyView, held}
use Rattle.play_names.specs.Submissions.{Due}
use Rattle.play_names.specs.Results.{word, dues_logged, dues_aborted}
use Rattle.play_names.specs.ResultLists.{aborted_text}
use Rattle.play_standby.specs.declared.synced.Synced.{Synced}
use Rattle.play_standby.specs.declared.synced.Synced.TheVariants as synced
use Rattle.play_calls.specs.Logs.{LogView}
use Rattle.play_model.specs.KeptActor.{as_actor, resting}
use Rattle.play_model.specs.Actions.{kept_of, LedTo}

abbrev pub texts_rolled : Rolled → List (List ℕ)
texts_rolled (rolled.Rolled start) = word (codes "roll") start ∷ []
texts_rolled (rolled.Aborted causes) = aborted_text (codes "roll ") causes ∷ []
texts_rolled rolled.NotActive = codes "roll inactive" ∷ []
texts_rolled rolled.OutOfMemory = []

abbrev pub texts_closed : Closed → List (List ℕ)
texts_closed (closed.Closed last) = word (codes "close") last ∷ []
texts_closed (closed.Aborted causes) = aborted_text (codes "close ") causes ∷ []
texts_closed closed.NotActive = codes "close inactive" ∷ []
texts_closed closed.OutOfMemory = []

-- where it closed, the standby that was left; and where a round was aborted, what the newest image
-- tells
abbrev pub held_closed : Closed → List Image → StandbyView → Holding
held_closed (closed.Aborted causes) images s = reload_image (held images s)
held_closed _ images s = held images s

abbrev pub texts_purging : ℕ → Purging → List (List ℕ)
texts_purging min purging.Done = word (codes "trim") min ∷ []
texts_purging min (purging.Aborted causes) = aborted_text (codes "trim ") causes ∷ []
texts_purging min purging.NotActive = codes "trim inactive" ∷ []
texts_purging min purging.OutOfMemory = []

-- of edits of which this became
abbrev pub texts_synced : List Due → Synced → List (List ℕ)
texts_synced dues (synced.Acked first last) = dues_logged first dues
texts_synced dues synced.Nothing = dues_logged 0 dues
texts_synced dues (synced.Aborted causes) = dues_aborted (aborted_text [] causes) dues
texts_synced dues synced.Ended = dues_aborted (codes "inactive") dues
texts_synced dues synced.OutOfMemory = []

-- these results were listed, by whatever actor
abbrev pub IsSaidOf : LogView → LogView → List (List ℕ) → Type 0
IsSaidOf old new texts = (w : WriterView) (o : Option Holding) → LedTo (as_actor None texts (kept_of w o old)) (resting (kept_of w o new))

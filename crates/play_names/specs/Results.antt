-- The result lines of a script line.
use Rattle.std.specs.Prelude.{ℕ, ◌+◌, List, [], ◌∷◌, ◌++◌, map, codes, decimal, true, false}
use Rattle.journal_text.specs.Texts.{refusal_cause_text}
use Rattle.writer_core.specs.declared.task.Task.{Task}
use Rattle.writer_core.specs.declared.task.Task.TheVariants as task
use Rattle.writer_core.specs.declared.cause.Cause.{Cause}
use Rattle.writer_core.specs.declared.cause.Cause.TheVariants as cause
use Rattle.writer_core.specs.declared.turn.Turn.{Turn}
use Rattle.writer_core.specs.declared.turn.Turn.TheVariants as turn
use Rattle.writer_core.specs.declared.turn.Outcome.{Outcome}
use Rattle.writer_core.specs.declared.turn.Outcome.TheVariants as outcome
use Rattle.ns_edits.specs.declared.refusal.AdmitRefusal.{AdmitRefusal}
use Rattle.ns_edits.specs.declared.refusal.AdmitRefusal.TheVariants as refusal
use Rattle.play_names.specs.Submissions.{Due, Pends, Refused, Repeats, TooLong}

-- a word with a number after a space
abbrev pub word : List ℕ → ℕ → List ℕ
word name number = name ++ 32 ∷ decimal number

unfoldable pub cause_word : Cause → List ℕ
cause_word cause.Ok = codes "ok"
cause_word cause.Silent = codes "silent"
cause_word cause.OutOfSync = codes "outofsync"
cause_word (cause.Refused refusal) = refusal_cause_text refusal

-- each with a space in front
unfoldable pub cause_words : List Cause → List ℕ
cause_words [] = []
cause_words (c ∷ cs) = 32 ∷ cause_word c ++ cause_words cs

-- ## What a line's results begin with, and how many there are: a log line has one for each edit
unfoldable pub name_of : Task → List ℕ
name_of task.Takeover = codes "takeover "
name_of (task.Log bodies) = []
name_of task.Roll = codes "roll "
name_of task.Close = codes "close "
name_of (task.Purge min) = codes "purge "

unfoldable pub for_each : Task → List ℕ → List (List ℕ)
for_each (task.Log bodies) text = map (λ body. text) bodies
for_each task.Takeover text = text ∷ []
for_each task.Roll text = text ∷ []
for_each task.Close text = text ∷ []
for_each (task.Purge min) text = text ∷ []

-- one edit after the other, from this txid on
unfoldable pub acked_from : ℕ → List (List ℕ) → List (List ℕ)
acked_from txid [] = []
acked_from txid (body ∷ bodies) = word (codes "acked") txid ∷ acked_from (txid + 1) bodies

unfoldable pub acknowledged_results : ℕ → Task → List (List ℕ)
acknowledged_results first (task.Log bodies) = acked_from first bodies
acknowledged_results first _ = []

abbrev pub took : ℕ → ℕ → List ℕ
took epoch first = word (word (codes "takeover") epoch) first

-- ## The results of a task that ended
unfoldable pub outcome_results : Task → Outcome → List (List ℕ)
outcome_results t (outcome.Takeover epoch first) = took epoch first ∷ []
outcome_results t (outcome.Log first last) = acknowledged_results first t
outcome_results t (outcome.Roll start) = word (codes "roll") start ∷ []
outcome_results t (outcome.Close last) = word (codes "close") last ∷ []
outcome_results t outcome.Purge = codes "purge ok" ∷ []

abbrev pub aborted_results : Task → List Cause → List (List ℕ)
aborted_results t causes = for_each t (name_of t ++ codes "aborted" ++ cause_words causes)

unfoldable pub results_of : Task → Turn → List Cause → List (List ℕ)
results_of t turn.Going causes = []
results_of t (turn.Done o) causes = outcome_results t o
results_of t turn.Aborted causes = aborted_results t causes
results_of t (turn.EpochLimit told) causes = word (codes "takeover limit") told ∷ []

-- ## The results of a task that did not begin
unfoldable pub inactive_results : Task → List (List ℕ)
inactive_results t = for_each t (name_of t ++ codes "inactive")

unfoldable pub too_long_results : Task → ℕ → List (List ℕ)
too_long_results t number = for_each t (word (codes "toolong") number)

-- the result of a late copy of no call
unfoldable pub late_none : List ℕ
late_none = codes "late none"

-- ## Edits that are submitted
unfoldable pub refusal_text : AdmitRefusal → List ℕ
refusal_text refusal.NoParent = codes "refused 1 NoParent"
refusal_text refusal.Exists = codes "refused 2 Exists"
refusal_text refusal.Missing = codes "refused 3 Missing"
refusal_text refusal.NotDirectory = codes "refused 4 NotDirectory"
refusal_text refusal.NotFile = codes "refused 5 NotFile"
refusal_text refusal.NotEmpty = codes "refused 6 NotEmpty"
refusal_text refusal.UnderConstruction = codes "refused 7 UnderConstruction"
refusal_text refusal.Root = codes "refused 8 Root"
refusal_text refusal.IntoItself = codes "refused 9 IntoItself"
refusal_text refusal.BadName = codes "refused 10 BadName"
refusal_text refusal.BadNumber = codes "refused 11 BadNumber"
refusal_text (refusal.RepeatedCall txid) = word (codes "repeated") txid

-- the edits that were to be logged have the txids from this one on
unfoldable pub dues_logged : ℕ → List Due → List (List ℕ)
dues_logged txid [] = []
dues_logged txid (Pends ∷ ds) = word (codes "acked") txid ∷ dues_logged (txid + 1) ds
dues_logged txid (Refused r ∷ ds) = refusal_text r ∷ dues_logged txid ds
dues_logged txid (Repeats t pends ∷ ds) = word (codes "repeated") t ∷ dues_logged txid ds
dues_logged txid (TooLong number ∷ ds) = word (codes "toolong") number ∷ dues_logged txid ds

-- what repeats a call that was to be logged shares its lot
unfoldable pub dues_aborted : List ℕ → List Due → List (List ℕ)
dues_aborted text [] = []
dues_aborted text (Pends ∷ ds) = text ∷ dues_aborted text ds
dues_aborted text (Refused r ∷ ds) = refusal_text r ∷ dues_aborted text ds
dues_aborted text (Repeats t true ∷ ds) = text ∷ dues_aborted text ds
dues_aborted text (Repeats t false ∷ ds) = word (codes "repeated") t ∷ dues_aborted text ds
dues_aborted text (TooLong number ∷ ds) = word (codes "toolong") number ∷ dues_aborted text ds

unfoldable pub abort_text : List Cause → List ℕ
abort_text causes = codes "aborted" ++ cause_words causes

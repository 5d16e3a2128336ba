-- Which result lines tell a checkpoint: none of a task, a tail or a submission.
use Rattle.std.proofs.Common.{◌≡◌, ℕ, ◌+◌, List, [], ◌∷◌, ◌++◌, Bool, true, false, refl, map}
use Rattle.std.specs.Prelude.{codes}
use Rattle.ns_edits.specs.declared.refusal.AdmitRefusal.{AdmitRefusal}
use Rattle.ns_edits.specs.declared.refusal.AdmitRefusal.TheVariants as refusal
use Rattle.writer_core.specs.declared.task.Task.{Task}
use Rattle.writer_core.specs.declared.task.Task.TheVariants as task
use Rattle.writer_core.specs.declared.cause.Cause.{Cause}
use Rattle.writer_core.specs.declared.turn.Turn.{Turn}
use Rattle.writer_core.specs.declared.turn.Turn.TheVariants as turn
use Rattle.writer_core.specs.declared.turn.Outcome.{Outcome}
use Rattle.writer_core.specs.declared.turn.Outcome.TheVariants as outcome
use Rattle.play_names.specs.Holding.{Work, Free, Tails, Logs, Broken}
use Rattle.play_names.specs.Submissions.{Due, Pends, Refused, Repeats, TooLong}
use Rattle.play_names.specs.Tails.{TailEnd, Caught, Reached, PurgedFrom, BehindBy}
use Rattle.play_names.specs.Results.{word, took, cause_words, name_of, for_each, acked_from, acknowledged_results, outcome_results, aborted_results, results_of}
use Rattle.play_names.specs.Results.{inactive_results, too_long_results, refusal_text, dues_logged, dues_aborted, abort_text}
use Rattle.play_model.specs.Actor.{tail_text, entry_text, aborted_texts}
use Rattle.play_laws.specs.ImagesLeft.{saved_text}
use Rattle.play_laws.proofs.Claims.{begins}

-- a text that tells a checkpoint
abbrev pub saves : List ℕ → Bool
saves text = begins (codes "checkpoint ") text

pub saved_saves : (txid : ℕ) → saves (saved_text txid) ≡ true
saved_saves txid = refl

-- texts of which none does
abbrev pub ArePlain : List (List ℕ) → Type 0
ArePlain [] = Unit {0}
ArePlain (text ∷ texts) = (saves text ≡ false) × ArePlain texts

-- ## Tasks
pub mapped_plain : {A : Type 0} (xs : List A) (text : List ℕ) → saves text ≡ false → ArePlain (map (λ x. text) xs)
mapped_plain [] text none = tt
mapped_plain (x ∷ xs) text none = (none, mapped_plain xs text none)

each_plain : (t : Task) (text : List ℕ) → saves text ≡ false → ArePlain (for_each t text)
unfolding for_each
each_plain (task.Log bodies) text none = mapped_plain bodies text none
each_plain task.Takeover text none = (none, tt)
each_plain task.Roll text none = (none, tt)
each_plain task.Close text none = (none, tt)
each_plain (task.Purge min) text none = (none, tt)

inactive_saves : (t : Task) → saves (name_of t ++ codes "inactive") ≡ false
unfolding name_of
inactive_saves task.Takeover = refl
inactive_saves (task.Log bodies) = refl
inactive_saves task.Roll = refl
inactive_saves task.Close = refl
inactive_saves (task.Purge min) = refl

aborted_saves : (t : Task) (causes : List Cause) → saves (name_of t ++ codes "aborted" ++ cause_words causes) ≡ false
unfolding name_of
aborted_saves task.Takeover causes = refl
aborted_saves (task.Log bodies) causes = refl
aborted_saves task.Roll causes = refl
aborted_saves task.Close causes = refl
aborted_saves (task.Purge min) causes = refl

pub inactive_plain : (t : Task) → ArePlain (inactive_results t)
unfolding inactive_results
inactive_plain t = each_plain t (name_of t ++ codes "inactive") (inactive_saves t)

pub long_plain : (t : Task) (number : ℕ) → ArePlain (too_long_results t number)
unfolding too_long_results
long_plain t number = each_plain t (word (codes "toolong") number) refl

pub aborted_plain : (t : Task) (causes : List Cause) → ArePlain (aborted_results t causes)
aborted_plain t causes = each_plain t (name_of t ++ codes "aborted" ++ cause_words causes) (aborted_saves t causes)

acked_plain : (txid : ℕ) (bodies : List (List ℕ)) → ArePlain (acked_from txid bodies)
unfolding acked_from
acked_plain txid [] = tt
acked_plain txid (b ∷ bs) = (refl, acked_plain (txid + 1) bs)

acknowledged_plain : (first : ℕ) (t : Task) → ArePlain (acknowledged_results first t)
unfolding acknowledged_results
acknowledged_plain first (task.Log bodies) = acked_plain first bodies
acknowledged_plain first task.Takeover = tt
acknowledged_plain first task.Roll = tt
acknowledged_plain first task.Close = tt
acknowledged_plain first (task.Purge min) = tt

outcome_plain : (t : Task) (o : Outcome) → ArePlain (outcome_results t o)
unfolding outcome_results
outcome_plain t (outcome.Takeover epoch first) = (refl, tt)
outcome_plain t (outcome.Log first last) = acknowledged_plain first t
outcome_plain t (outcome.Roll start) = (refl, tt)
outcome_plain t (outcome.Close last) = (refl, tt)
outcome_plain t outcome.Purge = (refl, tt)

pub results_plain : (t : Task) (tn : Turn) (causes : List Cause) → ArePlain (results_of t tn causes)
unfolding results_of
results_plain t turn.Going causes = tt
results_plain t (turn.Done o) causes = outcome_plain t o
results_plain t turn.Aborted causes = aborted_plain t causes
results_plain t (turn.EpochLimit told) causes = (refl, tt)

-- ## Submissions
refusal_saves : (r : AdmitRefusal) → saves (refusal_text r) ≡ false
unfolding refusal_text
refusal_saves refusal.NoParent = refl
refusal_saves refusal.Exists = refl
refusal_saves refusal.Missing = refl
refusal_saves refusal.NotDirectory = refl
refusal_saves refusal.NotFile = refl
refusal_saves refusal.NotEmpty = refl
refusal_saves refusal.UnderConstruction = refl
refusal_saves refusal.Root = refl
refusal_saves refusal.IntoItself = refl
refusal_saves refusal.BadName = refl
refusal_saves refusal.BadNumber = refl
refusal_saves (refusal.RepeatedCall txid) = refl

pub logged_plain : (txid : ℕ) (dues : List Due) → ArePlain (dues_logged txid dues)
unfolding dues_logged
logged_plain txid [] = tt
logged_plain txid (Pends ∷ ds) = (refl, logged_plain (txid + 1) ds)
logged_plain txid (Refused r ∷ ds) = (refusal_saves r, logged_plain txid ds)
logged_plain txid (Repeats t pends ∷ ds) = (refl, logged_plain txid ds)
logged_plain txid (TooLong number ∷ ds) = (refl, logged_plain txid ds)

pub lost_plain : (text : List ℕ) (dues : List Due) → saves text ≡ false → ArePlain (dues_aborted text dues)
unfolding dues_aborted
lost_plain text [] none = tt
lost_plain text (Pends ∷ ds) none = (none, lost_plain text ds none)
lost_plain text (Refused r ∷ ds) none = (refusal_saves r, lost_plain text ds none)
lost_plain text (Repeats t true ∷ ds) none = (none, lost_plain text ds none)
lost_plain text (Repeats t false ∷ ds) none = (refl, lost_plain text ds none)
lost_plain text (TooLong number ∷ ds) none = (refl, lost_plain text ds none)

abort_saves : (causes : List Cause) → saves (abort_text causes) ≡ false
unfolding abort_text
abort_saves causes = refl

pub aborts_plain : (x : Work) (t : Task) (causes : List Cause) → ArePlain (aborted_texts x t causes)
aborts_plain (Logs ahead dues) t causes = lost_plain (abort_text causes) dues (abort_saves causes)
aborts_plain Free (task.Purge min) causes = (refl, tt)
aborts_plain Free task.Takeover causes = aborted_plain task.Takeover causes
aborts_plain Free (task.Log bodies) causes = aborted_plain (task.Log bodies) causes
aborts_plain Free task.Roll causes = aborted_plain task.Roll causes
aborts_plain Free task.Close causes = aborted_plain task.Close causes
aborts_plain (Tails until node told) (task.Purge min) causes = (refl, tt)
aborts_plain (Tails until node told) task.Takeover causes = aborted_plain task.Takeover causes
aborts_plain (Tails until node told) (task.Log bodies) causes = aborted_plain (task.Log bodies) causes
aborts_plain (Tails until node told) task.Roll causes = aborted_plain task.Roll causes
aborts_plain (Tails until node told) task.Close causes = aborted_plain task.Close causes
aborts_plain Broken (task.Purge min) causes = (refl, tt)
aborts_plain Broken task.Takeover causes = aborted_plain task.Takeover causes
aborts_plain Broken (task.Log bodies) causes = aborted_plain (task.Log bodies) causes
aborts_plain Broken task.Roll causes = aborted_plain task.Roll causes
aborts_plain Broken task.Close causes = aborted_plain task.Close causes

-- ## Tails
pub tail_plain : (position : ℕ) (end : TailEnd) → saves (tail_text position end) ≡ false
unfolding tail_text
tail_plain position Caught = refl
tail_plain position Reached = refl
tail_plain position (PurgedFrom first) = refl
tail_plain position (BehindBy causes) = refl

pub entry_plain : (position : ℕ) (end : TailEnd) → saves (entry_text position end) ≡ false
unfolding entry_text
entry_plain position Caught = refl
entry_plain position Reached = refl
entry_plain position (PurgedFrom first) = refl
entry_plain position (BehindBy causes) = refl

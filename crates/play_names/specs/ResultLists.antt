-- The result lines of one script line, by their number.
use Rattle.std.specs.Prelude.{ℕ, zero, suc, ◌+◌, ◌≤◌, List, [], ◌∷◌, ◌++◌, codes, length, replicate, Option, Some, None}
use Rattle.journal_core.specs.Limits.{max_number, max_batch}
use Rattle.writer_core.specs.declared.cause.Cause.{Cause}
use Rattle.writer_core.specs.declared.turn.Turn.{Turn}
use Rattle.writer_core.specs.declared.turn.Turn.TheVariants as turn
use Rattle.writer_core.specs.declared.turn.Outcome.{Outcome}
use Rattle.writer_core.specs.declared.turn.Outcome.TheVariants as outcome
use Rattle.writer_core.specs.declared.task.Task.{Task}
use Rattle.writer_core.specs.declared.task.Task.TheVariants as task
use Rattle.play_names.specs.declared.tailed.Tailed.{Tailed}
use Rattle.play_names.specs.declared.tailed.Tailed.TheVariants as tailed
use Rattle.play_names.specs.Results.{word, cause_words}

-- so many edits from this txid on
abbrev pub acked_texts : ℕ → ℕ → List (List ℕ)
acked_texts first zero = []
acked_texts first (suc n) = word (codes "acked") first ∷ acked_texts (first + 1) n

-- the text of a round that was aborted, after a task's name
abbrev pub aborted_text : List ℕ → List Cause → List ℕ
aborted_text name causes = name ++ codes "aborted" ++ cause_words causes

-- the txids of a log are in range
abbrev pub OutcomeFits : Outcome → Type 0
OutcomeFits (outcome.Log first last) = first ≤ max_number
OutcomeFits _ = Unit {0}

abbrev pub TurnFits : Turn → Type 0
TurnFits (turn.Done o) = OutcomeFits o
TurnFits _ = Unit {0}

-- a log of one batch at most
abbrev pub IsFew : Task → Type 0
IsFew (task.Log bodies) = length bodies ≤ max_batch
IsFew _ = Unit {0}

-- how many edits a task logs, if it is a log
abbrev pub edits_of : Task → Option ℕ
edits_of (task.Log bodies) = Some (length bodies)
edits_of _ = None

-- a text once for each edit, or once
abbrev pub times : Option ℕ → List ℕ → List (List ℕ)
times None text = text ∷ []
times (Some n) text = replicate n text

abbrev pub acked_for : Option ℕ → ℕ → List (List ℕ)
acked_for None first = []
acked_for (Some n) first = acked_texts first n

abbrev pub done_texts : Option ℕ → Outcome → List (List ℕ)
done_texts edits (outcome.Takeover epoch first) = word (word (codes "takeover") epoch) first ∷ []
done_texts edits (outcome.Log first last) = acked_for edits first
done_texts edits (outcome.Roll start) = word (codes "roll") start ∷ []
done_texts edits (outcome.Close last) = word (codes "close") last ∷ []
done_texts edits outcome.Purge = codes "purge ok" ∷ []

-- the results of a task with this name
abbrev pub texts_of : List ℕ → Option ℕ → Turn → List Cause → List (List ℕ)
texts_of name edits turn.Going causes = []
texts_of name edits (turn.Done o) causes = done_texts edits o
texts_of name edits turn.Aborted causes = times edits (aborted_text name causes)
texts_of name edits (turn.EpochLimit told) causes = word (codes "takeover limit") told ∷ []

-- at most one batch
abbrev pub AreFew : Option ℕ → Type 0
AreFew None = Unit {0}
AreFew (Some n) = n ≤ max_batch

-- ## With names
abbrev pub behind_text : List ℕ → ℕ → List Cause → List ℕ
behind_text name txid causes = word name txid ++ cause_words causes

abbrev pub tail_texts : Tailed → List (List ℕ)
tail_texts (tailed.Caught txid) = word (codes "tail") txid ∷ []
tail_texts (tailed.Reached txid) = word (codes "tail") txid ∷ []
tail_texts (tailed.Purged first) = word (codes "tail purged") first ∷ []
tail_texts (tailed.Behind txid causes) = behind_text (codes "tail behind") txid causes ∷ []
tail_texts (tailed.BadEntry txid) = []
tail_texts tailed.OutOfMemory = []

-- When a round is aborted: where those that answered with the Ok kind are no majority.
use Rattle.std.specs.Prelude.{ℕ, ◌≡◌, ◌≤◌, ◌*◌, List, length, count_by, Bool, true, false}
use Rattle.std.specs.List.{list_any}
use Rattle.journal_core.specs.declared.heard.Heard.{Heard}
use Rattle.writer_core.specs.declared.round.Round.{Round}
use Rattle.writer_core.specs.declared.phase.Phase.TheVariants as phase
use Rattle.writer_core.specs.declared.cause.Cause.{Cause}
use Rattle.writer_core.specs.declared.cause.Cause.TheVariants as cause
use Rattle.writer_core.specs.declared.turn.Turn.TheVariants as turn
use Rattle.writer_core.specs.Views.{WriterView}
use Rattle.writer_core.specs.Answers.{is_waiting, has_majority}
use Rattle.writer_core.specs.Current.{is_fetch}
use Rattle.writer_core.specs.Writer.{with_answer, writer_heard}

abbrev pub is_ok_cause : Cause → Bool
is_ok_cause cause.Ok = true
is_ok_cause cause.Silent = false
is_ok_cause cause.OutOfSync = false
is_ok_cause (cause.Refused refusal) = false

-- the nodes whose cause is Ok are no majority
abbrev pub IsMinority : List Cause → Type 0
IsMinority causes = 2 * count_by is_ok_cause causes ≤ length causes

-- Where an answer aborts a round, the causes tell of a minority that answered with the Ok kind. A
-- node whose fetch failed counts no more, and none does where a number of the request is out of
-- range.
abbrev pub AbortsAreMinorities : Type 0
AbortsAreMinorities =
    (w : WriterView) (r : Round) (node : ℕ) (h : Heard) → w.phase ≡ phase.InRound r → (writer_heard w node h).turn ≡ turn.Aborted
    → IsMinority (writer_heard w node h).writer.causes

-- Where a minority answered so, the last answer of the round aborts it.
abbrev pub MinoritiesAbort : Type 0
MinoritiesAbort =
    (w : WriterView) (r : Round) (node : ℕ) (h : Heard) → w.phase ≡ phase.InRound r → is_fetch r ≡ false
    → list_any is_waiting (with_answer w node h).slots ≡ false → has_majority r (with_answer w node h).slots ≡ false
    → (writer_heard w node h).turn ≡ turn.Aborted

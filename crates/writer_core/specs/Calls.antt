-- A round call by call, and two rounds beside each other.
use Rattle.std.specs.Prelude.{ℕ, zero, suc, ◌+◌, ◌≡◌, List, Option, Some, None, true, length, count_by, slice_get}
use Rattle.journal_core.specs.declared.request.Request.{Request}
use Rattle.journal_core.specs.declared.reply.Reply.{Reply}
use Rattle.writer_core.specs.declared.round.Round.{Round}
use Rattle.writer_core.specs.declared.round.Round.TheVariants as round
use Rattle.writer_core.specs.declared.phase.Phase.TheVariants as phase
use Rattle.writer_core.specs.declared.slot.Slot.{Slot}
use Rattle.writer_core.specs.Views.{WriterView}
use Rattle.writer_core.specs.Answers.{is_ok, is_waiting, has_majority}
use Rattle.writer_core.specs.Rounds.{Judgment, keep_going}
use Rattle.writer_core.specs.Writer.{next_call, writer_heard}
use Rattle.writer_core.specs.Whole.{heard_of, round_heard}

abbrev pub answered_by : Option (ℕ × Request) → (ℕ → Option Reply) → WriterView → Judgment
answered_by None heard w = keep_going w
answered_by (Some (node, r)) heard w = writer_heard w node (heard_of (heard node))

-- the call to make next is made, and heard as the table of answers says
abbrev pub hear_next : (ℕ → Option Reply) → WriterView → Judgment
hear_next heard w = answered_by (next_call w) heard w

-- that call, and so many more after it
unfoldable pub hear_more : ℕ → (ℕ → Option Reply) → WriterView → Judgment
hear_more zero heard w = hear_next heard w
hear_more (suc more) heard w = hear_more more heard (hear_next heard w).writer

-- how many calls a round still makes
abbrev pub calls_of : Round → List Slot → ℕ
calls_of (round.Fetch node start end bodies) slots = 1
calls_of r slots = count_by is_waiting slots

-- The answers of a round, heard one by one, are the round judged whole.
abbrev pub RoundsAreJudged : Type 0
RoundsAreJudged =
    (w : WriterView) (r : Round) (heard : ℕ → Option Reply) (more : ℕ) → w.phase ≡ phase.InRound r → calls_of r w.slots ≡ more + 1
    → hear_more more heard w ≡ round_heard r heard w

-- a node whose answers are of the Ok kind in both rounds
pub record AnswersBoth (r q : Round) (xs ys : List Slot) : Type 0 where
  pub place : ℕ
  pub first : Slot
  pub second : Slot
  pub first_at : slice_get xs place ≡ Some first
  pub second_at : slice_get ys place ≡ Some second
  pub first_ok : is_ok r first ≡ true
  pub second_ok : is_ok q second ≡ true

-- Two majorities share a node.
abbrev pub MajoritiesMeet : Type 0
MajoritiesMeet =
    (r q : Round) (xs ys : List Slot) → length xs ≡ length ys → has_majority r xs ≡ true → has_majority q ys ≡ true → AnswersBoth r q xs ys

-- What a round heeds of what was heard: the answers of the Ok kind.
use Rattle.std.specs.Prelude.{ℕ, ◌+◌, ◌≡◌, ◌&&◌, List, [], Option, Some, None, Bool, true, false, length, map}
use Rattle.journal_core.specs.declared.reply.Reply.{Reply}
use Rattle.journal_core.specs.declared.reply.Reply.TheVariants as reply
use Rattle.journal_core.specs.declared.heard.Heard.TheVariants.{Answer, Silent}
use Rattle.writer_core.specs.declared.round.Round.{Round}
use Rattle.writer_core.specs.declared.round.Round.TheVariants as round
use Rattle.writer_core.specs.declared.phase.Phase.{Phase}
use Rattle.writer_core.specs.declared.phase.Phase.TheVariants as phase
use Rattle.writer_core.specs.declared.slot.Slot.{Slot}
use Rattle.writer_core.specs.declared.slot.Slot.TheVariants.{Waiting, LeftOut, Told}
use Rattle.writer_core.specs.Views.{WriterView}
use Rattle.writer_core.specs.Answers.{fits_edits, fits_round}
use Rattle.writer_core.specs.Rounds.{numbers_fit, Judgment}
use Rattle.writer_core.specs.Whole.{Takeover, TaskProgress, round_heard, writer_at, request_of_round, calls}

-- edits that fit what a fetch asks
abbrev pub fits_piece : WriterView → Round → ℕ → Reply → Bool
fits_piece w r from (reply.Edits batch) = numbers_fit w r && fits_edits from batch
fits_piece w r from _ = false

-- an answer of the Ok kind
abbrev pub is_counted_reply : WriterView → Round → Reply → Bool
is_counted_reply w (round.Fetch node start end bodies) answer = fits_piece w (round.Fetch node start end bodies) (start + length bodies) answer
is_counted_reply w r answer = fits_round r answer

abbrev pub answer_if : Bool → Reply → Option Reply
answer_if true answer = Some answer
answer_if false answer = None

-- what was heard, if it is of the Ok kind
abbrev pub counted_reply : WriterView → Round → Option Reply → Option Reply
counted_reply w r None = None
counted_reply w r (Some answer) = answer_if (is_counted_reply w r answer) answer

-- a node's part, with silence in place of an answer that isn't of the Ok kind
abbrev pub slot_if : Bool → Reply → Slot
slot_if true answer = Told (Answer answer)
slot_if false answer = Told Silent

abbrev pub counted_slot : Round → Slot → Slot
counted_slot r (Told (Answer answer)) = slot_if (fits_round r answer) answer
counted_slot r (Told Silent) = Told Silent
counted_slot r Waiting = Waiting
counted_slot r LeftOut = LeftOut

abbrev pub counted_slots : Phase → List Slot → List Slot
counted_slots (phase.InRound r) slots = map (counted_slot r) slots
counted_slots _ slots = []

-- a writer without causes, and without what it doesn't heed
abbrev pub bare : WriterView → WriterView
bare w = record w { slots = counted_slots w.phase w.slots; causes = [] }

abbrev pub bare_judgment : Judgment → Judgment
bare_judgment j = record { writer = bare j.writer; turn = j.turn }

-- Answers that aren't of the Ok kind enter nowhere: where two tables of answers agree on those of
-- the Ok kind, the rounds end alike, but for the causes and what isn't heeded.
abbrev pub OkAnswersDecide : Type 0
OkAnswersDecide =
    (w v : WriterView) (r : Round) (heard other : ℕ → Option Reply) → w.phase ≡ phase.InRound r → bare w ≡ bare v
    → ((node : ℕ) → counted_reply w r (heard node) ≡ counted_reply v r (other node))
    → bare_judgment (round_heard r heard w) ≡ bare_judgment (round_heard r other v)

-- ## Whole epochs
-- two rounds ask one request of the same nodes, or neither of the two is there
abbrev pub AskAlike : Option TaskProgress → Option TaskProgress → Type 0
AskAlike None None = Unit {0}
AskAlike (Some u) (Some v) = (request_of_round u ≡ request_of_round v) × ((node : ℕ) → calls u node ≡ calls v node)
AskAlike None (Some v) = ⊥
AskAlike (Some u) None = ⊥

-- two takeovers that propose the same epoch for the same tasks, and heard the same answers of the
-- Ok kind
pub record HeardAlike (nodes : ℕ) (t other : Takeover) : Type 0 where
  pub epoch : t.epoch ≡ other.epoch
  pub tasks : t.tasks ≡ other.tasks
  pub heard : (number node : ℕ) (u v : TaskProgress) → writer_at nodes t number ≡ Some u → writer_at nodes other number ≡ Some v
      → counted_reply u.writer u.round (t.heard number node) ≡ counted_reply v.writer v.round (other.heard number node)

-- The requests of an epoch, and the nodes that are called, depend on the answers of the Ok kind
-- alone.
abbrev pub OkAnswersLead : Type 0
OkAnswersLead =
    (nodes : ℕ) (t other : Takeover) → HeardAlike nodes t other → (number : ℕ)
    → AskAlike (writer_at nodes t number) (writer_at nodes other number)

-- The answers that a round counts: those of the Ok kind.
use Rattle.std.specs.Prelude.{ℕ, ◌==◌, ◌&&◌, ◌*◌, Bool, true, false, List, Option, Some, None, nat_le, nat_lt, length, count_by}
use Rattle.journal_core.specs.Views.{BatchView, last_txid}
use Rattle.journal_core.specs.Limits.{max_number}
use Rattle.journal_core.specs.Segments.{any_body}
use Rattle.journal_core.specs.declared.segment_info.SegmentInfo.{SegmentInfo}
use Rattle.journal_core.specs.declared.reply.Reply.{Reply}
use Rattle.journal_core.specs.declared.reply.Reply.TheVariants as reply
use Rattle.journal_core.specs.declared.heard.Heard.TheVariants.{Answer, Silent}
use Rattle.writer_core.specs.declared.round.Round.{Round}
use Rattle.writer_core.specs.declared.round.Round.TheVariants as round
use Rattle.writer_core.specs.declared.slot.Slot.{Slot}
use Rattle.writer_core.specs.declared.slot.Slot.TheVariants.{Waiting, LeftOut, Told}
use Rattle.writer_core.specs.declared.cause.Cause.{Cause}
use Rattle.writer_core.specs.declared.cause.Cause.TheVariants as cause

abbrev pub fits : ℕ → Bool
fits n = nat_le n max_number

-- a told start is at least 1
abbrev pub fits_newest : Option ℕ → Bool
fits_newest None = true
fits_newest (Some start) = nat_lt 0 start && fits start

-- a told segment has the asked start and holds an edit
abbrev pub fits_told : ℕ → Option SegmentInfo → Bool
fits_told start None = true
fits_told start (Some g) = (g.start == start) && (nat_le start g.end && (fits g.end && fits g.epoch))

abbrev pub fits_prepare : ℕ → Reply → Bool
fits_prepare start (reply.Prepared writer committed segment) = fits writer && (fits committed && fits_told start segment)
fits_prepare start _ = false

-- fetched edits begin at the asked txid
abbrev pub fits_edits : ℕ → BatchView → Bool
fits_edits from batch = (batch.first == from) && (any_body batch.bodies && fits (last_txid batch))

abbrev pub is_done_reply : Reply → Bool
is_done_reply reply.Ok = true
is_done_reply _ = false

abbrev pub fits_state : Reply → Bool
fits_state (reply.State promised) = fits promised
fits_state _ = false

abbrev pub fits_propose : Reply → Bool
fits_propose (reply.NewEpoch newest) = fits_newest newest
fits_propose _ = false

-- The answer fits the round, isn't refused and tells no number out of range. While pieces are
-- fetched, the prepare answers count.
abbrev pub fits_round : Round → Reply → Bool
fits_round round.State answer = fits_state answer
fits_round round.Propose answer = fits_propose answer
fits_round (round.Prepare start) answer = fits_prepare start answer
fits_round (round.Fetch node start end bodies) answer = fits_prepare start answer
fits_round (round.Accept batch) answer = is_done_reply answer
fits_round (round.Finalize start end) answer = is_done_reply answer
fits_round round.Start answer = is_done_reply answer
fits_round round.Open answer = is_done_reply answer
fits_round (round.Write bodies) answer = is_done_reply answer
fits_round (round.Purge min) answer = is_done_reply answer

-- the part of a node that answered with the Ok kind
abbrev pub is_ok : Round → Slot → Bool
is_ok r (Told (Answer answer)) = fits_round r answer
is_ok r (Told Silent) = false
is_ok r Waiting = false
is_ok r LeftOut = false

abbrev pub is_waiting : Slot → Bool
is_waiting Waiting = true
is_waiting LeftOut = false
is_waiting (Told heard) = false

-- more than half of the nodes
abbrev pub is_majority : ℕ → List Slot → Bool
is_majority count slots = nat_lt (length slots) (2 * count)

abbrev pub has_majority : Round → List Slot → Bool
has_majority r slots = is_majority (count_by (is_ok r) slots) slots

-- what came of a node's part, of a request whose own numbers fit or don't: an answer that doesn't
-- count and isn't a refusal counts as hearing nothing
abbrev pub cause_unless_ok : Bool → Reply → Cause
cause_unless_ok true answer = cause.Ok
cause_unless_ok false (reply.Refused refusal) = cause.Refused refusal
cause_unless_ok false _ = cause.Silent

abbrev pub cause_of : Bool → Round → Slot → Cause
cause_of fit r (Told (Answer answer)) = cause_unless_ok (fit && fits_round r answer) answer
cause_of fit r (Told Silent) = cause.Silent
cause_of fit r Waiting = cause.Silent
cause_of fit r LeftOut = cause.OutOfSync

-- Which texts are read: exactly those of the replies that answer the request.
use Rattle.std.specs.Prelude.{ℕ, ◌≡◌, ◌<◌, ◌^◌, Bool, true, false, List, [], ◌∷◌, length, map, Option, Some, None, codes, decimal}
use Rattle.std.specs.List.{AllByRecursion}
use Rattle.base_words.specs.Hex.{hex_text}
use Rattle.journal_core.specs.Peers.{FitsHeard}
use Rattle.journal_core.specs.Refusals.{refusal_number, refusal_name, refusal_field}
use Rattle.journal_core.specs.declared.request.Request.{Request}
use Rattle.journal_core.specs.declared.segment_info.SegmentInfo.{SegmentInfo}
use Rattle.journal_core.specs.declared.reply.Reply.{Reply}
use Rattle.journal_core.specs.declared.reply.Reply.TheVariants as reply
use Rattle.journal_core.specs.declared.heard.Heard.TheVariants.{Answer}
use Rattle.journal_text.specs.Lines.{IsBody}
use Rattle.journal_text.specs.Texts.{reply_text}
use Rattle.journal_text.specs.ReplyReading.{reply_of}

-- a number of 64 bits
abbrev pub IsWide : ℕ → Type 0
IsWide n = n < 2 ^ 64

abbrev pub AreWide : Option SegmentInfo → Type 0
AreWide None = Unit {0}
AreWide (Some g) = IsWide g.start × IsWide g.end × IsWide g.epoch

abbrev pub IsWideIf : Option ℕ → Type 0
IsWideIf None = Unit {0}
IsWideIf (Some n) = IsWide n

-- A reply whose text is read: its numbers are of 64 bits, and its edits some bodies of one to 4,096
-- bytes. A manifest's answer isn't read.
abbrev pub IsReadable : Reply → Type 0
IsReadable reply.Ok = Unit {0}
IsReadable (reply.State promised) = IsWide promised
IsReadable (reply.NewEpoch newest) = IsWideIf newest
IsReadable (reply.Prepared writer committed segment) = IsWide writer × IsWide committed × AreWide segment
IsReadable (reply.Edits batch) = IsWide batch.first × AllByRecursion IsBody batch.bodies × (0 < length batch.bodies)
IsReadable (reply.Segments lines) = ⊥
IsReadable (reply.Refused cause) = IsWideIf (refusal_field cause)

-- what is printed of a reply that answers the request is read as that reply
abbrev pub RepliesAreRead : Type 0
RepliesAreRead = (r : Request) (answer : Reply) → IsReadable answer → FitsHeard r (Answer answer) → reply_of r (reply_text answer) ≡ Some answer

-- what is read is the text of a reply that answers the request
pub record IsTextOf (r : Request) (line : List ℕ) (answer : Reply) : Type 0 where
  pub text : reply_text answer ≡ line
  pub fits : FitsHeard r (Answer answer)
  pub readable : IsReadable answer

abbrev pub OnlyTextsAreRead : Type 0
OnlyTextsAreRead = (r : Request) (line : List ℕ) (answer : Reply) → reply_of r line ≡ Some answer → IsTextOf r line answer

-- ## The words of a reply's text
abbrev pub first_of : Reply → List ℕ
first_of reply.Ok = codes "ok"
first_of (reply.State promised) = codes "state"
first_of (reply.NewEpoch newest) = codes "new"
first_of (reply.Prepared writer committed segment) = codes "prepared"
first_of (reply.Edits batch) = codes "edits"
first_of (reply.Segments lines) = codes "segments"
first_of (reply.Refused cause) = codes "refused"

abbrev pub kind_word : Bool → List ℕ
kind_word true = codes "final"
kind_word false = codes "inprogress"

abbrev pub accepted_word : Bool → List ℕ
accepted_word true = codes "yes"
accepted_word false = codes "no"

abbrev pub newest_word : Option ℕ → List ℕ
newest_word None = codes "none"
newest_word (Some start) = decimal start

abbrev pub told_words : Option SegmentInfo → List (List ℕ)
told_words None = codes "none" ∷ []
told_words (Some g) = decimal g.start ∷ kind_word g.is_final ∷ decimal g.epoch ∷ accepted_word g.accepted ∷ decimal g.end ∷ []

abbrev pub field_words : Option ℕ → List (List ℕ)
field_words None = []
field_words (Some n) = decimal n ∷ []

-- those after the first
abbrev pub rest_of : Reply → List (List ℕ)
rest_of reply.Ok = []
rest_of (reply.State promised) = decimal promised ∷ []
rest_of (reply.NewEpoch newest) = newest_word newest ∷ []
rest_of (reply.Prepared writer committed segment) = decimal writer ∷ decimal committed ∷ told_words segment
rest_of (reply.Edits batch) = decimal batch.first ∷ map hex_text batch.bodies
rest_of (reply.Segments lines) = []
rest_of (reply.Refused cause) = decimal (refusal_number cause) ∷ refusal_name cause ∷ field_words (refusal_field cause)

-- The texts of requests and replies: words after one another with one space between.
use Rattle.std.specs.Prelude.{ℕ, Bool, true, false, List, [], ◌∷◌, ◌++◌, Option, Some, None, codes, decimal}
use Rattle.base_words.specs.Hex.{hex_text}
use Rattle.journal_core.specs.Views.{HeadView}
use Rattle.journal_core.specs.declared.segment_info.SegmentInfo.{SegmentInfo}
use Rattle.journal_core.specs.declared.segment_line.SegmentLine.{SegmentLine}
use Rattle.journal_core.specs.declared.request.Request.{Request}
use Rattle.journal_core.specs.declared.request.Request.TheVariants as request
use Rattle.journal_core.specs.declared.reply.Reply.{Reply}
use Rattle.journal_core.specs.declared.reply.Reply.TheVariants as reply
use Rattle.journal_core.specs.declared.refusal.Refusal.{Refusal}
pub use Rattle.journal_core.specs.Refusals.{refusal_number, refusal_field}
unfoldable pub use Rattle.journal_core.specs.Refusals.{refusal_name}

-- a word after a space
abbrev pub spaced : List ℕ → List ℕ
spaced word = 32 ∷ word

-- numbers in decimal, each after a space
unfoldable pub numbers_text : List ℕ → List ℕ
numbers_text [] = []
numbers_text (n ∷ ns) = spaced (decimal n) ++ numbers_text ns

-- bodies, each after a space
unfoldable pub bodies_text : List (List ℕ) → List ℕ
bodies_text [] = []
bodies_text (body ∷ bodies) = spaced (hex_text body) ++ bodies_text bodies

-- the numbers of a request with a head, the head's first
abbrev pub asked_by : HeadView → List ℕ → List ℕ
asked_by h ns = h.epoch ∷ h.serial ∷ h.committed ∷ ns

unfoldable pub request_text : Request → List ℕ
request_text request.State = codes "state"
request_text (request.NewEpoch epoch) = codes "new" ++ numbers_text (epoch ∷ [])
request_text (request.Start head start) = codes "start" ++ numbers_text (asked_by head (start ∷ []))
request_text (request.Journal head start batch) = codes "journal" ++ numbers_text (asked_by head (start ∷ batch.first ∷ [])) ++ bodies_text batch.bodies
request_text (request.Finalize head start end) = codes "finalize" ++ numbers_text (asked_by head (start ∷ end ∷ []))
request_text (request.Prepare head start) = codes "prepare" ++ numbers_text (asked_by head (start ∷ []))
request_text (request.Fetch head start from) = codes "fetch" ++ numbers_text (asked_by head (start ∷ from ∷ []))
request_text (request.Accept head batch) = codes "accept" ++ numbers_text (asked_by head (batch.first ∷ [])) ++ bodies_text batch.bodies
request_text (request.Purge head min) = codes "purge" ++ numbers_text (asked_by head (min ∷ []))
request_text (request.Read from) = codes "read" ++ numbers_text (from ∷ [])
request_text request.Manifest = codes "manifest"

abbrev pub kind_text : Bool → List ℕ
kind_text true = codes " final"
kind_text false = codes " inprogress"

abbrev pub accepted_text : Bool → List ℕ
accepted_text true = codes " yes"
accepted_text false = codes " no"

abbrev pub told_text : Option SegmentInfo → List ℕ
told_text None = codes " none"
told_text (Some g) =
    numbers_text (g.start ∷ []) ++ kind_text g.is_final ++ numbers_text (g.epoch ∷ []) ++ accepted_text g.accepted ++ numbers_text (g.end ∷ [])

abbrev pub line_text : SegmentLine → List ℕ
line_text l = numbers_text (l.start ∷ l.end ∷ []) ++ kind_text l.is_final ++ numbers_text (l.epoch ∷ [])

unfoldable pub lines_text : List SegmentLine → List ℕ
lines_text [] = []
lines_text (l ∷ ls) = line_text l ++ lines_text ls

abbrev pub newest_text : Option ℕ → List ℕ
newest_text None = codes " none"
newest_text (Some start) = numbers_text (start ∷ [])

abbrev pub field_text : Option ℕ → List ℕ
field_text None = []
field_text (Some n) = numbers_text (n ∷ [])

unfoldable pub reply_text : Reply → List ℕ
reply_text reply.Ok = codes "ok"
reply_text (reply.State promised) = codes "state" ++ numbers_text (promised ∷ [])
reply_text (reply.NewEpoch newest) = codes "new" ++ newest_text newest
reply_text (reply.Prepared writer committed segment) = codes "prepared" ++ numbers_text (writer ∷ committed ∷ []) ++ told_text segment
reply_text (reply.Edits batch) = codes "edits" ++ numbers_text (batch.first ∷ []) ++ bodies_text batch.bodies
reply_text (reply.Segments lines) = codes "segments" ++ lines_text lines
reply_text (reply.Refused cause) = codes "refused" ++ numbers_text (refusal_number cause ∷ []) ++ spaced (refusal_name cause) ++ field_text (refusal_field cause)

abbrev pub cause_field_text : Option ℕ → List ℕ
cause_field_text None = []
cause_field_text (Some n) = 58 ∷ decimal n

-- a cause in one word: its name, and a colon and its field where it tells one
unfoldable pub refusal_cause_text : Refusal → List ℕ
refusal_cause_text cause = refusal_name cause ++ cause_field_text (refusal_field cause)

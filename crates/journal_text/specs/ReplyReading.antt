-- The reply that a line says, as an answer to a request.
use Rattle.std.specs.Prelude.{ℕ, ◌==◌, ◌&&◌, Bool, true, false, nat_le, List, [], ◌∷◌, drop, Option, Some, None, unwrap_or, if◌then◌else◌, codes}
use Rattle.std.specs.Str.{bytes_eq}
use Rattle.base_words.specs.Words.{words_of}
use Rattle.journal_core.specs.Views.{BatchView, last_txid}
use Rattle.journal_core.specs.Limits.{max_number}
use Rattle.journal_core.specs.Refusals.{refusal_number, refusal_name, refusal_field}
use Rattle.journal_core.specs.declared.segment_info.SegmentInfo.{SegmentInfo}
use Rattle.journal_core.specs.declared.request.Request.{Request}
use Rattle.journal_core.specs.declared.request.Request.TheVariants as request
use Rattle.journal_core.specs.declared.reply.Reply.{Reply}
use Rattle.journal_core.specs.declared.reply.Reply.TheVariants as reply
use Rattle.journal_core.specs.declared.refusal.Refusal.{Refusal}
use Rattle.journal_core.specs.declared.refusal.Refusal.TheVariants as refusal
use Rattle.journal_text.specs.Reading.{number_in, bodies_in}

-- ## Words
-- the first word, as a number of 64 bits
abbrev pub head_number : List (List ℕ) → Option ℕ
head_number [] = None
head_number (w ∷ ws) = number_in 0 w

abbrev pub is_over : List (List ℕ) → Bool
is_over [] = true
is_over (w ∷ ws) = false

-- the first word is that one
abbrev pub begins_with : List ℕ → List (List ℕ) → Bool
begins_with text [] = false
begins_with text (w ∷ ws) = bytes_eq w text

-- which of two texts the first word is
abbrev pub one_of_two : Bool → Bool → Option Bool
one_of_two true second = Some true
one_of_two false true = Some false
one_of_two false false = None

abbrev pub head_choice : List ℕ → List ℕ → List (List ℕ) → Option Bool
head_choice one other ws = one_of_two (begins_with one ws) (begins_with other ws)

abbrev pub kind_in : List (List ℕ) → Option Bool
kind_in ws = head_choice (codes "final") (codes "inprogress") ws

abbrev pub accepted_in : List (List ℕ) → Option Bool
accepted_in ws = head_choice (codes "yes") (codes "no") ws

-- ## A promise, and the newest start
abbrev pub state_by : Option ℕ → Bool → Option Reply
state_by (Some promised) true = Some (reply.State promised)
state_by (Some promised) false = None
state_by None over = None

unfoldable pub state_in : List (List ℕ) → Option Reply
state_in ws = state_by (head_number ws) (is_over (drop 1 ws))

abbrev pub newest_by : Bool → Option ℕ → Bool → Option Reply
newest_by none number false = None
newest_by true number true = Some (reply.NewEpoch None)
newest_by false (Some start) true = Some (reply.NewEpoch (Some start))
newest_by false None true = None

unfoldable pub newest_in : List (List ℕ) → Option Reply
newest_in ws = newest_by (begins_with (codes "none") ws) (head_number ws) (is_over (drop 1 ws))

-- ## The segment that a prepare answer tells
abbrev pub info_by : Option ℕ → Option Bool → Option ℕ → Option Bool → Option ℕ → Bool → Option SegmentInfo
info_by (Some start) (Some is_final) (Some epoch) (Some accepted) (Some end) true =
    Some (record { start = start; end = end; epoch = epoch; is_final = is_final; accepted = accepted })
info_by _ _ _ _ _ _ = None

-- after the word of its start
unfoldable pub info_from : Option ℕ → List (List ℕ) → Option SegmentInfo
info_from start ws =
    info_by start (kind_in ws) (head_number (drop 1 ws)) (accepted_in (drop 1 (drop 1 ws))) (head_number (drop 1 (drop 1 (drop 1 ws))))
    (is_over (drop 1 (drop 1 (drop 1 (drop 1 ws)))))

-- no segment, or one
abbrev pub told_by : Bool → Bool → Option SegmentInfo → Option (Option SegmentInfo)
told_by true true info = Some None
told_by true false info = None
told_by false over (Some info) = Some (Some info)
told_by false over None = None

unfoldable pub told_in : List (List ℕ) → Option (Option SegmentInfo)
told_in ws = told_by (begins_with (codes "none") ws) (is_over (drop 1 ws)) (info_from (head_number ws) (drop 1 ws))

abbrev pub prepared_by : Option ℕ → Option ℕ → Option (Option SegmentInfo) → Option Reply
prepared_by (Some writer) (Some committed) (Some segment) = Some (reply.Prepared writer committed segment)
prepared_by _ _ _ = None

unfoldable pub prepared_in : List (List ℕ) → Option Reply
prepared_in ws = prepared_by (head_number ws) (head_number (drop 1 ws)) (told_in (drop 1 (drop 1 ws)))

-- ## Edits
abbrev pub batch_of : ℕ → List (List ℕ) → BatchView
batch_of first bodies = record { first = first; bodies = bodies }

-- they begin where it was asked, and end within the limit of txids
abbrev pub batch_by : Bool → Bool → BatchView → Option Reply
batch_by true true batch = Some (reply.Edits batch)
batch_by true false batch = None
batch_by false within batch = None

abbrev pub bodies_by : ℕ → ℕ → Option (List (List ℕ)) → Option Reply
bodies_by from first None = None
bodies_by from first (Some []) = None
bodies_by from first (Some (body ∷ bodies)) = batch_by (first == from) (nat_le (last_txid (batch_of first (body ∷ bodies))) max_number) (batch_of first (body ∷ bodies))

abbrev pub edits_by : ℕ → Option ℕ → List (List ℕ) → Option Reply
edits_by from (Some first) ws = bodies_by from first (bodies_in ws)
edits_by from None ws = None

unfoldable pub edits_in : ℕ → List (List ℕ) → Option Reply
edits_in from ws = edits_by from (head_number ws) (drop 1 ws)

-- ## Refusals
-- all causes, each that tells a number with this one
abbrev pub all_refusals : ℕ → List Refusal
all_refusals n =
    refusal.Down ∷ refusal.Limit n ∷ refusal.EpochRefused n ∷ refusal.OldSerial n ∷ refusal.NotWriter n ∷ refusal.NoOpenSegment ∷ refusal.WrongSegment n ∷ refusal.WrongTxid n
    ∷ refusal.SegmentFinal n ∷ refusal.SegmentHasEdits n ∷ refusal.NoSegment ∷ refusal.OtherEpoch n ∷ refusal.LengthDiffers n ∷ refusal.Purged n ∷ refusal.NotHere n
    ∷ refusal.DiskFault ∷ refusal.BadFile ∷ []

-- both tell no number, or both the same
abbrev pub same_field : Option ℕ → Option ℕ → Bool
same_field None None = true
same_field (Some a) (Some b) = a == b
same_field (Some a) None = false
same_field None (Some b) = false

-- the cause tells this number, this name and this field
abbrev pub is_told : ℕ → List ℕ → Option ℕ → Refusal → Bool
is_told number name field r = (refusal_number r == number) && (bytes_eq name (refusal_name r) && same_field (refusal_field r) field)

abbrev pub refusal_among : List Refusal → ℕ → List ℕ → Option ℕ → Option Refusal
refusal_among [] number name field = None
refusal_among (r ∷ rs) number name field = if is_told number name field r then Some r else refusal_among rs number name field

-- no word, or one number
abbrev pub field_by : Bool → Option ℕ → Bool → Option (Option ℕ)
field_by true number over = Some None
field_by false (Some n) true = Some (Some n)
field_by false (Some n) false = None
field_by false None over = None

abbrev pub field_in : List (List ℕ) → Option (Option ℕ)
field_in ws = field_by (is_over ws) (head_number ws) (is_over (drop 1 ws))

abbrev pub head_word : List (List ℕ) → Option (List ℕ)
head_word [] = None
head_word (w ∷ ws) = Some w

abbrev pub refusal_by : Option ℕ → Option (List ℕ) → Option (Option ℕ) → Option Refusal
refusal_by (Some number) (Some name) (Some field) = refusal_among (all_refusals (unwrap_or field 0)) number name field
refusal_by _ _ _ = None

unfoldable pub refusal_in : List (List ℕ) → Option Refusal
refusal_in ws = refusal_by (head_number ws) (head_word (drop 1 ws)) (field_in (drop 1 (drop 1 ws)))

-- ## The reply
-- the first word and the rest of what answers the request: a manifest's answer isn't read, since no
-- name node asks for one
abbrev pub if_begins : Bool → Option Reply → Option Reply
if_begins true answer = answer
if_begins false answer = None

abbrev pub done_by : Bool → Option Reply
done_by true = Some reply.Ok
done_by false = None

unfoldable pub answer_in : Request → List ℕ → List (List ℕ) → Option Reply
answer_in request.State w ws = if_begins (bytes_eq w (codes "state")) (state_in ws)
answer_in (request.NewEpoch epoch) w ws = if_begins (bytes_eq w (codes "new")) (newest_in ws)
answer_in (request.Prepare head start) w ws = if_begins (bytes_eq w (codes "prepared")) (prepared_in ws)
answer_in (request.Fetch head start from) w ws = if_begins (bytes_eq w (codes "edits")) (edits_in from ws)
answer_in (request.Read from) w ws = if_begins (bytes_eq w (codes "edits")) (edits_in from ws)
answer_in request.Manifest w ws = None
answer_in (request.Start head start) w ws = if_begins (bytes_eq w (codes "ok")) (done_by (is_over ws))
answer_in (request.Journal head start batch) w ws = if_begins (bytes_eq w (codes "ok")) (done_by (is_over ws))
answer_in (request.Finalize head start end) w ws = if_begins (bytes_eq w (codes "ok")) (done_by (is_over ws))
answer_in (request.Accept head batch) w ws = if_begins (bytes_eq w (codes "ok")) (done_by (is_over ws))
answer_in (request.Purge head min) w ws = if_begins (bytes_eq w (codes "ok")) (done_by (is_over ws))

abbrev pub refused : Option Refusal → Option Reply
refused None = None
refused (Some r) = Some (reply.Refused r)

abbrev pub by_first : Bool → Request → List ℕ → List (List ℕ) → Option Reply
by_first true r w ws = refused (refusal_in ws)
by_first false r w ws = answer_in r w ws

abbrev pub reply_among : Request → List (List ℕ) → Option Reply
reply_among r [] = None
reply_among r (w ∷ ws) = by_first (bytes_eq w (codes "refused")) r w ws

-- the reply that a line says, if it is one that answers the request
unfoldable pub reply_of : Request → List ℕ → Option Reply
reply_of r line = reply_among r (words_of line)

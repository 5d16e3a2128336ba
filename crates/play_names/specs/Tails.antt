-- A tail: passes over the nodes in order, each for the edits after the position; what each gives is
-- applied, and the pass in which no node gives any ends the tail.
use Rattle.std.specs.Prelude.{ℕ, ◌+◌, ◌-◌, ◌*◌, ◌==◌, nat_lt, List, [], ◌∷◌, ◌++◌, length, map, take, count_by, Option, Some, None, Bool, true, false, if◌then◌else◌}
use Rattle.journal_core.specs.declared.heard.Heard.{Heard}
use Rattle.journal_core.specs.declared.heard.Heard.TheVariants.{Answer}
use Rattle.journal_core.specs.declared.refusal.Refusal.TheVariants as refusal
use Rattle.journal_core.specs.declared.reply.Reply.TheVariants as reply
use Rattle.ns_edits.specs.Replay.{Applied, All, BadEntry, applied}
use Rattle.writer_core.specs.declared.cause.Cause.{Cause}
use Rattle.writer_core.specs.declared.cause.Cause.TheVariants as cause
use Rattle.play_names.specs.Holding.{Holding, Free, Tails, Broken, with_work}

-- ## A tail
-- how a tail ends
pub data TailEnd : Type 0 where
  Caught : TailEnd
  Reached : TailEnd
  PurgedFrom : (first : ℕ) → TailEnd
  BehindBy : (causes : List Cause) → TailEnd

pub data TailStep : Type 0 where
  GoesOn : (h : Holding) → TailStep
  Ends : (end : TailEnd) (h : Holding) → TailStep
  Breaks : (h : Holding) → TailStep

abbrev pub is_until : Option ℕ → ℕ → Bool
is_until None position = false
is_until (Some last) position = last == position

-- a pass begins at node 1, unless the end is reached
unfoldable pub pass_begun : Option ℕ → Holding → TailStep
pass_begun until h = if is_until until h.position then Ends Reached (with_work Free h) else GoesOn (with_work (Tails until 1 []) h)

-- no edit past the end
abbrev pub up_to : Option ℕ → ℕ → List (List ℕ) → List (List ℕ)
up_to None position bodies = bodies
up_to (Some last) position bodies = take (last - position) bodies

abbrev pub after_applied : Option ℕ → Applied → Holding → TailStep
after_applied until (All s t) h = pass_begun until (record h { space = s; position = t })
after_applied until (BadEntry s txid) h = Breaks (record h { space = s; position = txid - 1; work = Broken })

abbrev pub is_not_here : Heard → Bool
is_not_here (Answer (reply.Refused (refusal.NotHere last))) = true
is_not_here _ = false

abbrev pub told_purged : Heard → Option ℕ
told_purged (Answer (reply.Refused (refusal.Purged first))) = Some first
told_purged _ = None

abbrev pub least_or : Option ℕ → Option ℕ → Option ℕ
least_or None other = other
least_or (Some m) None = Some m
least_or (Some m) (Some n) = if nat_lt n m then Some n else Some m

unfoldable pub least_purged : List Heard → Option ℕ
least_purged [] = None
least_purged (h ∷ hs) = least_or (told_purged h) (least_purged hs)

-- an answer that is no refusal, and gave no edits, counts as hearing nothing
abbrev pub read_cause : Heard → Cause
read_cause (Answer (reply.Refused r)) = cause.Refused r
read_cause _ = cause.Silent

abbrev pub after_or : Option ℕ → List Heard → TailEnd
after_or None told = BehindBy (map read_cause told)
after_or (Some first) told = PurgedFrom first

abbrev pub without_end : Option ℕ → Bool
without_end None = true
without_end (Some last) = false

-- of a pass in which no node gave edits
unfoldable pub pass_end : Option ℕ → List Heard → TailEnd
pass_end None told = if nat_lt (length told) (2 * count_by is_not_here told) then Caught else after_or (least_purged told) told
pass_end (Some last) told = after_or (least_purged told) told

-- no edits: the next node is asked, or the pass ends
abbrev pub no_edits : ℕ → Option ℕ → ℕ → List Heard → Holding → TailStep
no_edits nodes until node told h =
    if nat_lt node nodes then GoesOn (with_work (Tails until (node + 1) told) h) else Ends (pass_end until told) (with_work Free h)

unfoldable pub tail_hears : ℕ → Option ℕ → ℕ → List Heard → Heard → Holding → TailStep
tail_hears nodes until node told (Answer (reply.Edits batch)) h = after_applied until (applied h.position (up_to until h.position batch.bodies) h.space) h
tail_hears nodes until node told heard h = no_edits nodes until node (told ++ heard ∷ []) h

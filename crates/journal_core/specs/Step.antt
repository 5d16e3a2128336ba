-- One request at a node: the tests before all else, the front of a request with a head, and the
-- table of requests: what is refused after the front, the durable effects in order, what follows
-- them, and the reply.
use Rattle.std.specs.Prelude.{ℕ, ◌+◌, ◌==◌, ◌&&◌, ◌||◌, Bool, true, false, not, max, nat_lt, nat_le, List, [], ◌∷◌, ◌++◌, length, map, take, Option, Some, None, if◌then◌else◌}
use Rattle.std.specs.List.{filter}
use Rattle.journal_core.specs.Views.{HeadView, BatchView, last_txid}
use Rattle.journal_core.specs.declared.segment.Segment.{Segment}
use Rattle.journal_core.specs.declared.node_state.NodeState.{NodeState}
use Rattle.journal_core.specs.declared.request.Request.{Request}
use Rattle.journal_core.specs.declared.request.Request.TheVariants.{State, NewEpoch, Start, Journal, Finalize, Prepare, Fetch, Accept, Purge, Read, Manifest}
use Rattle.journal_core.specs.declared.refusal.Refusal.{Refusal}
use Rattle.journal_core.specs.declared.refusal.Refusal.TheVariants.{Down, Limit, EpochRefused, OldSerial, NotWriter, NoOpenSegment, WrongSegment}
use Rattle.journal_core.specs.declared.refusal.Refusal.TheVariants.{WrongTxid, SegmentFinal, SegmentHasEdits, NoSegment, OtherEpoch, LengthDiffers}
use Rattle.journal_core.specs.declared.refusal.Refusal.TheVariants.{NotHere}
use Rattle.journal_core.specs.declared.reply.Reply.{Reply}
use Rattle.journal_core.specs.declared.reply.Reply.TheVariants as reply
use Rattle.journal_core.specs.Segments.{find_segment, has_edit, end_of, newest}
use Rattle.journal_core.specs.Limits.{head_of, limit_of}
use Rattle.journal_core.specs.Effects.{Effect, Promise, WriterEpoch, Commit, NewSegment, Append, Replace, MakeFinal, Remove, after_effects}
use Rattle.journal_core.specs.Reads.{edits_from, manifest_of, told_of, piece_of}

pub record Stepped : Type 0 where
  pub state : NodeState
  pub reply : Reply

-- ## Before all else: a node that is down, numbers and sizes past the limits, and the front's two tests
abbrev pub front_refused : NodeState → Option HeadView → Option Refusal
front_refused s None = None
front_refused s (Some h) =
    if nat_lt h.epoch s.promised then Some (EpochRefused s.promised)
    else if (h.epoch == s.promised) && nat_le h.serial s.serial then Some (OldSerial s.serial)
    else None

abbrev pub unless_limited : Option ℕ → Option Refusal → Option Refusal
unless_limited (Some number) other = Some (Limit number)
unless_limited None other = other

-- refused before anything has changed
abbrev pub refused_at_once : NodeState → Request → Option Refusal
refused_at_once s r = if s.up then unless_limited (limit_of r) (front_refused s (head_of r)) else Some Down

-- ## The front: a raised promise, the serial, the known committed txid, and the open segment closed
abbrev pub closes_segment : Request → Bool
closes_segment (Prepare head start) = true
closes_segment (Fetch head start from) = true
closes_segment (Accept head batch) = true
closes_segment _ = false

abbrev pub front_effects : NodeState → Option HeadView → List Effect
front_effects s None = []
front_effects s (Some h) = if nat_lt s.promised h.epoch then Promise h.epoch ∷ [] else []

abbrev pub front_promised : ℕ → Option HeadView → ℕ
front_promised p None = p
front_promised p (Some h) = max p h.epoch

abbrev pub front_opened : NodeState → Request → Option HeadView → Option ℕ
front_opened s r None = s.opened
front_opened s r (Some h) = if nat_lt s.promised h.epoch || closes_segment r then None else s.opened

abbrev pub front_serial : ℕ → Option HeadView → ℕ
front_serial n None = n
front_serial n (Some h) = h.serial

abbrev pub front_known : ℕ → Option HeadView → ℕ
front_known k None = k
front_known k (Some h) = max k h.committed

-- the state after the front
abbrev pub fronted : NodeState → Request → NodeState
fronted s r =
    record s {
      promised = front_promised s.promised (head_of r);
      known = front_known s.known (head_of r);
      opened = front_opened s r (head_of r);
      serial = front_serial s.serial (head_of r);
    }

-- ## The table: what is refused after the front
abbrev pub start_refused : Option Segment → Option Refusal
start_refused None = None
start_refused (Some g) =
    if g.is_final then Some (SegmentFinal (end_of g))
    else if has_edit g then Some (SegmentHasEdits (end_of g))
    else None

abbrev pub bodies_in : Option Segment → ℕ
bodies_in None = 0
bodies_in (Some g) = length g.bodies

abbrev pub open_refused : Option ℕ → ℕ → ℕ → ℕ → Option Refusal
open_refused None start first expected = Some NoOpenSegment
open_refused (Some opened) start first expected =
    if not (opened == start) then Some (WrongSegment opened)
    else if not (first == expected) then Some (WrongTxid expected)
    else None

abbrev pub journal_refused : NodeState → HeadView → ℕ → BatchView → Option Refusal
journal_refused s h start batch =
    if s.writer == h.epoch then open_refused s.opened start batch.first (start + bodies_in (find_segment start s.segments))
    else Some (NotWriter s.writer)

abbrev pub finalize_refused : ℕ → ℕ → Option Segment → Option Refusal
finalize_refused epoch end None = Some NoSegment
finalize_refused epoch end (Some g) =
    if not (has_edit g) then Some NoSegment
    else if not g.is_final && not (g.epoch == epoch) then Some (OtherEpoch g.epoch)
    else if not (end_of g == end) then Some (LengthDiffers (end_of g))
    else None

abbrev pub fetch_refused : ℕ → Option Segment → Option Refusal
fetch_refused from None = Some NoSegment
fetch_refused from (Some g) =
    if not (has_edit g) then Some NoSegment
    else if nat_lt from g.start || nat_lt (end_of g) from then Some (NotHere (end_of g))
    else None

abbrev pub accept_refused : BatchView → Option Segment → Option Refusal
accept_refused batch None = None
accept_refused batch (Some g) = if g.is_final && not (end_of g == last_txid batch) then Some (LengthDiffers (end_of g)) else None

abbrev pub row_refused : NodeState → Request → Option Refusal
row_refused s State = None
row_refused s (NewEpoch epoch) = if nat_le epoch s.promised then Some (EpochRefused s.promised) else None
row_refused s (Start head start) = start_refused (find_segment start s.segments)
row_refused s (Journal head start batch) = journal_refused s head start batch
row_refused s (Finalize head start end) = finalize_refused head.epoch end (find_segment start s.segments)
row_refused s (Prepare head start) = None
row_refused s (Fetch head start from) = fetch_refused from (find_segment start s.segments)
row_refused s (Accept head batch) = accept_refused batch (find_segment batch.first s.segments)
row_refused s (Purge head min) = None
row_refused s (Read from) = None
row_refused s Manifest = None

-- ## The table: the durable effects in order
abbrev pub is_final_one : Option Segment → Bool
is_final_one None = false
is_final_one (Some g) = g.is_final

abbrev pub is_one : ℕ → Option ℕ → Bool
is_one start None = false
is_one start (Some other) = other == start

-- for an empty segment its start stands in place of its end
abbrev pub last_or_start : Segment → ℕ
last_or_start g = if has_edit g then end_of g else g.start

-- A purge removes what isn't open, isn't the newest that holds an edit, and ends below its minimum
-- and within its head's committed txid.
abbrev pub may_go : NodeState → ℕ → ℕ → Segment → Bool
may_go s committed min g =
    not (is_one g.start s.opened)
    && (not (has_edit g && is_one g.start (newest s.segments)) && (nat_lt (last_or_start g) min && nat_le (last_or_start g) committed))

abbrev pub start_effects : NodeState → HeadView → ℕ → List Effect
start_effects s h start = (if s.writer == h.epoch then [] else WriterEpoch h.epoch ∷ []) ++ NewSegment start h.epoch ∷ []

abbrev pub finalize_effects : NodeState → ℕ → List Effect
finalize_effects s start =
    (if is_final_one (find_segment start s.segments) then [] else MakeFinal start ∷ [])
    ++ (if nat_lt s.committed s.known then Commit s.known ∷ [] else [])

abbrev pub row_effects : NodeState → Request → List Effect
row_effects s State = []
row_effects s (NewEpoch epoch) = Promise epoch ∷ []
row_effects s (Start head start) = start_effects s head start
row_effects s (Journal head start batch) = Append start batch.bodies ∷ []
row_effects s (Finalize head start end) = finalize_effects s start
row_effects s (Prepare head start) = []
row_effects s (Fetch head start from) = []
row_effects s (Accept head batch) = if is_final_one (find_segment batch.first s.segments) then [] else Replace head.epoch batch ∷ []
row_effects s (Purge head min) = map (λ g. Remove g.start) (filter (may_go s head.committed min) s.segments)
row_effects s (Read from) = []
row_effects s Manifest = []

-- ## The table: what follows the effects, and the reply
abbrev pub opened_then : Option ℕ → Request → Option ℕ
opened_then opened (NewEpoch epoch) = None
opened_then opened (Start head start) = Some start
opened_then opened (Finalize head start end) = if is_one start opened then None else opened
opened_then opened _ = opened

abbrev pub serial_then : ℕ → Request → ℕ
serial_then serial (NewEpoch epoch) = 0
serial_then serial _ = serial

abbrev pub row_then : NodeState → Request → NodeState
row_then s r = record s { opened = opened_then s.opened r; serial = serial_then s.serial r }

abbrev pub row_reply : NodeState → Request → Reply
row_reply s State = reply.State s.promised
row_reply s (NewEpoch epoch) = reply.NewEpoch (newest s.segments)
row_reply s (Start head start) = reply.Ok
row_reply s (Journal head start batch) = reply.Ok
row_reply s (Finalize head start end) = reply.Ok
row_reply s (Prepare head start) = reply.Prepared s.writer s.known (told_of (find_segment start s.segments))
row_reply s (Fetch head start from) = reply.Edits (record { first = from; bodies = piece_of (find_segment start s.segments) from })
row_reply s (Accept head batch) = reply.Ok
row_reply s (Purge head min) = reply.Ok
row_reply s (Read from) = edits_from s from
row_reply s Manifest = reply.Segments (manifest_of s.segments)

-- ## The step
abbrev pub step_after_front : NodeState → Request → Option Refusal → Stepped
step_after_front s r (Some refusal) = record { state = s; reply = reply.Refused refusal }
step_after_front s r None = record { state = row_then (after_effects s (row_effects s r)) r; reply = row_reply s r }

abbrev pub unless_refused : NodeState → Request → Option Refusal → Stepped
unless_refused s r (Some refusal) = record { state = s; reply = reply.Refused refusal }
unless_refused s r None = step_after_front (fronted s r) r (row_refused (fronted s r) r)

-- what a node answers, and the state that it is left in
unfoldable pub node_step : NodeState → Request → Stepped
node_step s r = unless_refused s r (refused_at_once s r)

-- ## The effects of a request, and a stop after the first of them
abbrev pub effects_after : NodeState → Request → Option Refusal → List Effect
effects_after s r (Some refusal) = []
effects_after s r None = row_effects s r

abbrev pub effects_unless : NodeState → Request → Option Refusal → List Effect
effects_unless s r (Some refusal) = []
effects_unless s r None = front_effects s (head_of r) ++ effects_after (fronted s r) r (row_refused (fronted s r) r)

-- the durable effects of a request, in order
unfoldable pub effects_of : NodeState → Request → List Effect
effects_of s r = effects_unless s r (refused_at_once s r)

-- what is left of a node that goes down
abbrev pub crashed : NodeState → NodeState
crashed s = record s { known = s.committed; opened = None; serial = 0; up = false }

-- a node that was stopped after the first effects of a request
abbrev pub stopped : NodeState → Request → ℕ → NodeState
stopped s r keep = crashed (after_effects s (take keep (effects_of s r)))

abbrev pub restarted : NodeState → NodeState
restarted s = record s { known = s.committed; opened = None; serial = 0; up = true }

-- a node before its first request
abbrev pub fresh_state : NodeState
fresh_state = record { promised = 0; writer = 0; committed = 0; known = 0; segments = []; opened = None; serial = 0; up = true }

-- Laws of the node step: which refusals it has.
use Rattle.std.proofs.Common.{ℕ, ◌≡◌, ◌+◌, ◌==◌, ◌&&◌, ◌||◌, List, Option, Some, None, Bool, true, false, not, cond, nat_lt, nat_le, sym, subst, ap, ◌∙◌}
use Rattle.journal_core.specs.Views.{HeadView, BatchView, last_txid}
use Rattle.journal_core.specs.declared.segment.Segment.{Segment}
use Rattle.journal_core.specs.declared.node_state.NodeState.{NodeState}
use Rattle.journal_core.specs.declared.request.Request.{Request}
use Rattle.journal_core.specs.declared.request.Request.TheVariants.{State, NewEpoch, Start, Journal, Finalize, Prepare, Fetch, Accept, Purge, Read, Manifest}
use Rattle.journal_core.specs.declared.refusal.Refusal.{Refusal}
use Rattle.journal_core.specs.declared.refusal.Refusal.TheVariants.{Down, Limit, EpochRefused, OldSerial, NotWriter, NoOpenSegment, WrongSegment}
use Rattle.journal_core.specs.declared.refusal.Refusal.TheVariants.{WrongTxid, SegmentFinal, SegmentHasEdits, NoSegment, OtherEpoch, LengthDiffers}
use Rattle.journal_core.specs.declared.refusal.Refusal.TheVariants.{Purged, NotHere, OutOfMemory, DiskFault, BadFile}
use Rattle.journal_core.specs.declared.reply.Reply.{Reply}
use Rattle.journal_core.specs.declared.reply.Reply.TheVariants as reply
use Rattle.journal_core.specs.Segments.{find_segment, has_edit, end_of}
use Rattle.journal_core.specs.Limits.{limit_of, head_of}
use Rattle.journal_core.specs.Reads.{edits_from, answer_from, serving, least_served, last_below}
use Rattle.journal_core.specs.Step.{Stepped, node_step, unless_refused, step_after_front, refused_at_once, unless_limited, front_refused, fronted}
use Rattle.journal_core.specs.Step.{row_refused, start_refused, open_refused, finalize_refused, fetch_refused, accept_refused, row_reply, bodies_in}
use Rattle.journal_core.specs.Answers.{IsOwn, IsOwnRefusal, row}

abbrev Own : Option Refusal → Type 0
Own None = Unit {0}
Own (Some r) = IsOwnRefusal r

record Owned (o : Option Refusal) : Type 0 where
  own : Own o

none : Owned None
none = record { own = tt }

one : (r : Refusal) → IsOwnRefusal r → Owned (Some r)
one r h = record { own = h }

test : (b : Bool) (r : Refusal) (o : Option Refusal) → IsOwnRefusal r → Owned o → Owned (cond b (Some r) o)
test true r o h k = record { own = h }
test false r o h k = k

otherwise : (b : Bool) (r : Refusal) (o : Option Refusal) → IsOwnRefusal r → Owned o → Owned (cond b o (Some r))
otherwise true r o h k = k
otherwise false r o h k = record { own = h }

front_own : (s : NodeState) (h : Option HeadView) → Owned (front_refused s h)
front_own s None = none
front_own s (Some h) =
    test (nat_lt h.epoch s.promised) (EpochRefused s.promised) _ tt
    (test ((h.epoch == s.promised) && nat_le h.serial s.serial) (OldSerial s.serial) None tt none)

limited_own : (n : Option ℕ) (o : Option Refusal) → Owned o → Owned (unless_limited n o)
limited_own (Some n) o h = one (Limit n) tt
limited_own None o h = h

at_once_own : (s : NodeState) (r : Request) → Owned (refused_at_once s r)
at_once_own s r = otherwise s.up Down _ tt (limited_own (limit_of r) _ (front_own s (head_of r)))

start_own : (o : Option Segment) → Owned (start_refused o)
start_own None = none
start_own (Some g) = test g.is_final (SegmentFinal (end_of g)) _ tt (test (has_edit g) (SegmentHasEdits (end_of g)) None tt none)

open_own : (o : Option ℕ) (start first expected : ℕ) → Owned (open_refused o start first expected)
open_own None start first expected = one NoOpenSegment tt
open_own (Some opened) start first expected = test (not (opened == start)) (WrongSegment opened) _ tt (test (not (first == expected)) (WrongTxid expected) None tt none)

finalize_own : (epoch end : ℕ) (o : Option Segment) → Owned (finalize_refused epoch end o)
finalize_own epoch end None = one NoSegment tt
finalize_own epoch end (Some g) =
    test (not (has_edit g)) NoSegment _ tt
    (test (not g.is_final && not (g.epoch == epoch)) (OtherEpoch g.epoch) _ tt (test (not (end_of g == end)) (LengthDiffers (end_of g)) None tt none))

fetch_own : (from : ℕ) (o : Option Segment) → Owned (fetch_refused from o)
fetch_own from None = one NoSegment tt
fetch_own from (Some g) = test (not (has_edit g)) NoSegment _ tt (test (nat_lt from g.start || nat_lt (end_of g) from) (NotHere (end_of g)) None tt none)

accept_own : (batch : BatchView) (o : Option Segment) → Owned (accept_refused batch o)
accept_own batch None = none
accept_own batch (Some g) = test (g.is_final && not (end_of g == last_txid batch)) (LengthDiffers (end_of g)) None tt none

row_refused_own : (r : Request) (s : NodeState) → Owned (row_refused s r)
row_refused_own State s = none
row_refused_own (NewEpoch epoch) s = test (nat_le epoch s.promised) (EpochRefused s.promised) None tt none
row_refused_own (Start head start) s = start_own (find_segment start s.segments)
row_refused_own (Journal head start batch) s =
    otherwise (s.writer == head.epoch) (NotWriter s.writer) _ tt (open_own s.opened start batch.first (start + bodies_in (find_segment start s.segments)))
row_refused_own (Finalize head start end) s = finalize_own head.epoch end (find_segment start s.segments)
row_refused_own (Prepare head start) s = none
row_refused_own (Fetch head start from) s = fetch_own from (find_segment start s.segments)
row_refused_own (Accept head batch) s = accept_own batch (find_segment batch.first s.segments)
row_refused_own (Purge head min) s = none
row_refused_own (Read from) s = none
row_refused_own Manifest s = none

cond_own_refusal : (b : Bool) (o p : Refusal) → IsOwnRefusal o → IsOwnRefusal p → IsOwnRefusal (cond b o p)
cond_own_refusal true o p h k = h
cond_own_refusal false o p h k = k

answer_own : (s : NodeState) (from : ℕ) (o : Option (List (List ℕ))) → IsOwn (answer_from s from o)
answer_own s from (Some bodies) = tt
answer_own s from None = cond_own_refusal (nat_lt from (least_served s s.segments)) (Purged (least_served s s.segments)) (NotHere (last_below s from s.segments)) tt tt

reply_own : (r : Request) (s : NodeState) → IsOwn (row_reply s r)
unfolding edits_from
reply_own State s = tt
reply_own (NewEpoch epoch) s = tt
reply_own (Start head start) s = tt
reply_own (Journal head start batch) s = tt
reply_own (Finalize head start end) s = tt
reply_own (Prepare head start) s = tt
reply_own (Fetch head start from) s = tt
reply_own (Accept head batch) s = tt
reply_own (Purge head min) s = tt
reply_own (Read from) s = answer_own s from (serving s from s.segments)
reply_own Manifest s = tt

after_own : (s : NodeState) (r : Request) (o : Option Refusal) → Own o → IsOwn (step_after_front s r o).reply
after_own s r (Some refusal) h = h
after_own s r None h = reply_own r s

pub row_own : (s : NodeState) (r : Request) → IsOwn (row s r).reply
row_own s r = after_own s r (row_refused s r) (row_refused_own r s).own

unless_own : (s : NodeState) (r : Request) (o : Option Refusal) → Own o → IsOwn (unless_refused s r o).reply
unless_own s r (Some refusal) h = h
unless_own s r None h = row_own (fronted s r) r

pub step_own : (s : NodeState) (r : Request) → IsOwn (node_step s r).reply
unfolding node_step
step_own s r = unless_own s r (refused_at_once s r) (at_once_own s r).own

own_answer : (x : Stepped) (t : NodeState) (a : Reply) → IsOwn x.reply → x ≡ record { state = t; reply = a } → IsOwn a
own_answer x t a o e = let P : Stepped → Type 0 = λ y. IsOwn y.reply in subst P e o

-- the answer of a row, and of a step, is one of their own
pub row_answer : (s t : NodeState) (r : Request) (a : Reply) → row s r ≡ record { state = t; reply = a } → IsOwn a
row_answer s t r a e = own_answer (row s r) t a (row_own s r) e

pub step_answer : (s t : NodeState) (r : Request) (a : Reply) → node_step s r ≡ record { state = t; reply = a } → IsOwn a
step_answer s t r a e = own_answer (node_step s r) t a (step_own s r) e

pub own_not_memory : (a : Reply) → IsOwn a → a ≡ reply.Refused OutOfMemory → ⊥
own_not_memory a o e = subst IsOwn e o

pub at_once_not_memory : (s : NodeState) (r : Request) (refusal : Refusal) → Some refusal ≡ refused_at_once s r → reply.Refused refusal ≡ reply.Refused OutOfMemory → ⊥
at_once_not_memory s r refusal h = own_not_memory (reply.Refused refusal) (subst Own (sym h) (at_once_own s r).own)

-- what isn't refused before the front is answered by its row
pub passed_row : (s : NodeState) (r : Request) → refused_at_once s r ≡ None → node_step s r ≡ row (fronted s r) r
unfolding node_step
passed_row s r e = ap (unless_refused s r) e

-- what no step's answer is, an answer that is a step's but for lack of memory isn't
pub step_not : (s t : NodeState) (r : Request) (a : Reply) (refusal : Refusal) → (IsOwnRefusal refusal → ⊥) → (reply.Refused refusal ≡ reply.Refused OutOfMemory → ⊥)
    → ((a ≡ reply.Refused OutOfMemory → ⊥) → node_step s r ≡ record { state = t; reply = a }) → a ≡ reply.Refused refusal → ⊥
step_not s t r a refusal foreign other step e =
    let not_memory : a ≡ reply.Refused OutOfMemory → ⊥ = λ m. other (sym e ∙ m) in
    let own : IsOwn a = step_answer s t r a (step not_memory) in
    foreign (subst IsOwn e own)

-- What a node answers is the step's answer.
use Rattle.std.proofs.Common.{inl, inr, ⊎_elim, ℕ, ◌≡◌, ◌≢◌, ◌⊎◌, ◌↔◌, Bool, true, false, cond, List, [], Option, Some, None, refl, sym, ap, subst, ◌∙◌, arith}
use Rattle.std.proofs.lemmas.Bool.Decides.{nat_tests}
use Rattle.std.proofs.lemmas.Option.{same_Some}
use Rattle.base_disk.specs.Runs.{joined, weaker}
use Rattle.std.specs.Prelude.{Result, IsErrOf}
use Rattle.base_disk.specs.Files.{Files}
use Rattle.base_disk.specs.View.{View, IsSound, LeavesOnly, AllLeave}
use Rattle.base_disk.specs.Calls.{Rests, HasCause}
use Rattle.base_disk.specs.Moments.{started, goes_on}
use Rattle.base_disk.specs.declared.disk.DiskFail.{DiskFail}
use Rattle.base_disk.specs.declared.disk.DiskFail.TheVariants.{Failed}
use Rattle.journal_core.specs.Views.{HeadView, BatchView}
use Rattle.journal_core.specs.declared.segment.Segment.{Segment}
use Rattle.journal_core.specs.declared.node_state.NodeState.{NodeState}
use Rattle.journal_core.specs.declared.refusal.Refusal.{Refusal}
use Rattle.journal_core.specs.declared.refusal.Refusal.TheVariants.{DiskFault, OutOfMemory, BadFile, Down}
use Rattle.journal_core.specs.declared.reply.Reply.{Reply}
use Rattle.journal_core.specs.declared.reply.Reply.TheVariants.{Refused}
use Rattle.journal_core.specs.declared.request.Request.{Request}
use Rattle.journal_core.specs.declared.request.Request.TheVariants.{State, NewEpoch, Start, Journal, Finalize, Prepare, Fetch, Accept, Purge, Read, Manifest}
use Rattle.journal_core.specs.Limits.{head_of, limit_of}
use Rattle.journal_core.specs.Effects.{after_effects}
use Rattle.journal_core.specs.Reads.{edits_from, answer_from, serving}
use Rattle.journal_core.specs.Step.{Stepped, refused_at_once, front_refused, unless_limited, row_refused, start_refused, open_refused}
use Rattle.journal_core.specs.Step.{finalize_refused, fetch_refused, accept_refused, row_reply, fronted, effects_of, crashed, stopped}
use Rattle.journal_core.specs.Answers.{IsAnswer}
use Rattle.journal_core.proofs.NodeLaws.{idle_step, stop_nothing}
use Rattle.disk_segment.specs.Rows.{RowsRise}
use Rattle.disk_segment.specs.declared.segment_row.SegmentRow.{SegmentRow}
use Rattle.disk_files.specs.Durable.{StandsAs, number_name, number_of}
use Rattle.disk_files.specs.declared.node_number.NodeNumber.{NodeNumber}
use Rattle.disk_files.specs.declared.node_number.NodeNumber.TheVariants.{Promised, Writer, Committed}
use Rattle.base_files.specs.Records.{IsNumber}
use Rattle.journal_core.specs.Effects.{Effect}
use Rattle.journal_core.specs.Step.{effects_unless}
use Rattle.disk_effects.specs.Told.{Tells, state_with}
use Rattle.disk_node.specs.FileState.{without_segments}
use Rattle.disk_node.specs.Held.{StandsStopped}
use Rattle.disk_node.specs.Node.{IsUp, IsDown, HasState, IsNode, IsNoFault, IsCaused, IsStoppedIn, foretold, settled, state_behind}
use Rattle.disk_node.proofs.DoingRows.{tells_covers}
use Rattle.disk_node.proofs.DoingEffect.{stands_now}
use Rattle.disk_node.proofs.ActingFront.{step_done}
use Rattle.disk_node.proofs.ActingDone.{fronted_apart, has_up, has_down}

-- ## No answer of the step is a bad file
start_whole : (o : Option Segment) → start_refused o ≢ Some BadFile
start_whole None = λ e. cc
start_whole (Some x) = λ e. grind (arith, nat_tests)

open_whole : (o : Option ℕ) (start first expected : ℕ) → open_refused o start first expected ≢ Some BadFile
open_whole None start first expected = λ e. cc
open_whole (Some opened) start first expected = λ e. grind (arith, nat_tests)

finalize_whole : (epoch end : ℕ) (o : Option Segment) → finalize_refused epoch end o ≢ Some BadFile
finalize_whole epoch end None = λ e. cc
finalize_whole epoch end (Some x) = λ e. grind (arith, nat_tests)

fetch_whole : (from : ℕ) (o : Option Segment) → fetch_refused from o ≢ Some BadFile
fetch_whole from None = λ e. cc
fetch_whole from (Some x) = λ e. grind (arith, nat_tests)

accept_whole : (b : BatchView) (o : Option Segment) → accept_refused b o ≢ Some BadFile
accept_whole b None = λ e. cc
accept_whole b (Some x) = λ e. grind (arith, nat_tests)

unless_whole : (b : Bool) (o : Option Refusal) (refusal : Refusal) → o ≢ Some BadFile → refusal ≢ BadFile → cond b o (Some refusal) ≢ Some BadFile
unless_whole true o refusal h k = h
unless_whole false o refusal h k = λ e. k (same_Some refusal BadFile e)

row_whole : (s : NodeState) (r : Request) → row_refused s r ≢ Some BadFile
row_whole s State = λ e. cc
row_whole s (NewEpoch epoch) = λ e. grind (arith, nat_tests)
row_whole s (Start h start) = start_whole _
row_whole s (Journal h start b) = unless_whole _ _ _ (open_whole s.opened start b.first _) (λ e. cc)
row_whole s (Finalize h start end) = finalize_whole h.epoch end _
row_whole s (Prepare h start) = λ e. cc
row_whole s (Fetch h start from) = fetch_whole from _
row_whole s (Accept h b) = accept_whole b _
row_whole s (Purge h least) = λ e. cc
row_whole s (Read from) = λ e. cc
row_whole s Manifest = λ e. cc

read_whole : (s : NodeState) (from : ℕ) (o : Option (List (List ℕ))) → answer_from s from o ≢ Refused BadFile
read_whole s from None = λ e. grind (arith, nat_tests)
read_whole s from (Some bodies) = λ e. cc

edits_whole : (s : NodeState) (from : ℕ) → edits_from s from ≢ Refused BadFile
unfolding edits_from
edits_whole s from = read_whole s from (serving s from s.segments)

reply_whole : (s : NodeState) (r : Request) → row_reply s r ≢ Refused BadFile
reply_whole s State = λ e. cc
reply_whole s (NewEpoch epoch) = λ e. cc
reply_whole s (Start h start) = λ e. cc
reply_whole s (Journal h start b) = λ e. cc
reply_whole s (Finalize h start end) = λ e. cc
reply_whole s (Prepare h start) = λ e. cc
reply_whole s (Fetch h start from) = λ e. cc
reply_whole s (Accept h b) = λ e. cc
reply_whole s (Purge h least) = λ e. cc
reply_whole s (Read from) = edits_whole s from
reply_whole s Manifest = λ e. cc

foretold_whole : (s : NodeState) (r : Request) (o : Option Refusal) → o ≢ Some BadFile → foretold o s r ≢ Refused BadFile
foretold_whole s r None h = reply_whole s r
foretold_whole s r (Some refusal) h = λ e. h (ap (λ (x : Refusal). Some x) (refusal_is refusal BadFile e))
  where
    refusal_in : Reply → Refusal
    refusal_in (Refused x) = x
    refusal_in _ = Down

    refusal_is : (x y : Refusal) → Refused x ≡ Refused y → x ≡ y
    refusal_is x y e = ap refusal_in e

-- ## Answers
pub answer_done : (s : NodeState) (r : Request) (reply : Reply) → refused_at_once s r ≡ None → IsNoFault reply
    → reply ≡ foretold (row_refused (fronted s r) r) (fronted s r) r → IsAnswer s r reply (state_behind s r)
answer_done s r reply none own is = record {
  step = λ a b. step_done s r none ∙ ap (λ (x : Reply). let y : Stepped = record { state = state_behind s r; reply = x } in y) (sym is);
  memory = λ e. absurd (own.memory e);
  fault = λ e. absurd (own.disk e);
  whole = λ e. foretold_whole (fronted s r) r (row_refused (fronted s r) r) (row_whole (fronted s r) r) (sym is ∙ e);
}

pub answer_fault : (s : NodeState) (r : Request) (keep : ℕ) → IsAnswer s r (Refused DiskFault) (stopped s r keep)
answer_fault s r keep = record { step = λ a b. absurd (b refl); memory = λ e. absurd (cc); fault = λ e. (keep, refl); whole = λ e. cc }

pub answer_memory : (s : NodeState) (r : Request) (keep : ℕ) → IsAnswer s r (Refused OutOfMemory) (stopped s r keep)
answer_memory s r keep = record { step = λ a b. absurd (a refl); memory = λ e. inr (keep, refl); fault = λ e. absurd (cc); whole = λ e. cc }

pub answer_same : (s : NodeState) (r : Request) → IsAnswer s r (Refused OutOfMemory) s
answer_same s r = record { step = λ a b. absurd (a refl); memory = λ e. inl refl; fault = λ e. absurd (cc); whole = λ e. cc }

-- ## What is refused at once
abbrev IsPlain : Refusal → Type 0
IsPlain refusal = (refusal ≢ DiskFault) × (refusal ≢ OutOfMemory) × (refusal ≢ BadFile)

front_plain : (s : NodeState) (h : Option HeadView) (refusal : Refusal) → front_refused s h ≡ Some refusal → IsPlain refusal
front_plain s None refusal e = absurd (cc)
front_plain s (Some h) refusal e = (λ d. grind (arith, nat_tests), λ d. grind (arith, nat_tests), λ d. grind (arith, nat_tests))

limit_plain : (l : Option ℕ) (o : Option Refusal) (refusal : Refusal) → ((x : Refusal) → o ≡ Some x → IsPlain x) → unless_limited l o ≡ Some refusal → IsPlain refusal
limit_plain None o refusal plain e = plain refusal e
limit_plain (Some n) o refusal plain e = (λ d. cc, λ d. cc, λ d. cc)

once_plain : (b : Bool) (s : NodeState) (r : Request) (refusal : Refusal) → cond b (unless_limited (limit_of r) (front_refused s (head_of r))) (Some Down) ≡ Some refusal → IsPlain refusal
once_plain true s r refusal e = limit_plain (limit_of r) (front_refused s (head_of r)) refusal (front_plain s (head_of r)) e
once_plain false s r refusal e = (λ d. cc, λ d. cc, λ d. cc)

pub at_once_plain : (s : NodeState) (r : Request) (refusal : Refusal) → refused_at_once s r ≡ Some refusal → IsPlain refusal
at_once_plain s r refusal e = once_plain s.up s r refusal e

refusal_of : Reply → Refusal
refusal_of (Refused x) = x
refusal_of _ = Down

pub answer_at_once : (s : NodeState) (r : Request) (refusal : Refusal) → refused_at_once s r ≡ Some refusal → IsAnswer s r (Refused refusal) s
unfolding refusal_of
answer_at_once s r refusal e =
    let plain = at_once_plain s r refusal e in
    record {
      step = λ a b. idle_step s r refusal e;
      memory = λ same. inl refl;
      fault = λ same. absurd (plain.0 (ap refusal_of same));
      whole = λ same. plain.2 (ap refusal_of same);
    }

-- ## Nothing is done, and the node goes down
pub down_at : (v : View) (m0 m : NodeState) (rows : List SegmentRow) (s : NodeState) (r : Request) → v.may_leave v.seen → IsUp v m0 rows s
    → m ≡ crashed m0 → RowsRise rows → IsDown v m rows (stopped s r 0)
down_at v m0 m rows s r now up is rise = record {
  opened = ap (λ (x : NodeState). x.opened) is;
  serial = ap (λ (x : NodeState). x.serial) is;
  rise = rise;
  before = s;
  left = record { stands = stands_now v s up.held.files v.seen now; sound = up.held.sound; covers = tells_covers s.segments rows up.held.told };
  filled = up.held.files.filled;
  state = stop_nothing s r;
}

-- ## Moments
-- nothing was done yet
pub none_done : (s : NodeState) (v : View) (r : Request) → AllLeave v (λ (c : Files). StandsAs c s) → AllLeave v (StandsStopped s (effects_of s r))
unfolding after_effects
none_done s v r stands c now = record { count = 0; within = omega arith; stands = stands c now }

pub rests_moments : (v0 v1 : View) (s : NodeState) (r : Request) → IsSound v0 → Rests v0 v1 → AllLeave v0 (λ (c : Files). StandsAs c s) → LeavesOnly v0 v1 (StandsStopped s (effects_of s r))
rests_moments v0 v1 s r sound rests stands =
    goes_on v0 v0 v1 (StandsStopped s (effects_of s r)) (started v0 (StandsStopped s (effects_of s r)) sound (none_done s v0 r stands))
    rests.keeps.time (λ c now. none_done s v0 r stands c (rests.keeps.crash c now))

pub rests_then : (v0 v1 v2 : View) (s : NodeState) (r : Request) → IsSound v0 → Rests v0 v1 → AllLeave v0 (λ (c : Files). StandsAs c s)
    → LeavesOnly v1 v2 (StandsStopped s (effects_of s r)) → LeavesOnly v0 v2 (StandsStopped s (effects_of s r))
rests_then v0 v1 v2 s r sound rests stands later =
    let P : Files → Type 0 = StandsStopped s (effects_of s r) in
    weaker v0 v2 (λ f. P f ⊎ P f) P (λ f both. ⊎_elim (λ p. p) (λ p. p) both) (joined v0 v1 v2 P P (rests_moments v0 v1 s r sound rests stands) later)

-- ## Causes
pub caused : {T : Type 0} (f0 f1 : ℕ) (s0 s1 : Type 0) (result : Result T DiskFail) (reply : Reply)
    → (reply ≡ Refused DiskFault → IsErrOf result Failed) → HasCause f0 f1 s0 s1 result → IsCaused f0 f1 s0 s1 reply
caused f0 f1 s0 s1 result reply failed cause = record {
  later = cause.later;
  fault = λ e. cause.failed (failed e);
  steady = λ was. (cause.steady was, λ e. cause.no_fault was (failed e));
}

-- ## A node that is up, and its front
pub front_same : (m s front : NodeState) (r : Request) → m ≡ without_segments s → front ≡ state_with (fronted m r) [] → state_with front s.segments ≡ fronted s r
front_same m s front r memory front_is =
    ap (λ (x : NodeState). state_with x s.segments) front_is ∙ ap (λ (x : NodeState). state_with (fronted x r) s.segments) memory ∙ fronted_apart s r s.segments

pub foretold_by : (m : NodeState) (s : NodeState) (r : Request) (front : NodeState) (refusal : Option Refusal) (reply : Reply)
    → m ≡ without_segments s → front ≡ state_with (fronted m r) [] → refusal ≡ row_refused (state_with (fronted m r) s.segments) r
    → reply ≡ foretold refusal (state_with front s.segments) r → reply ≡ foretold (row_refused (fronted s r) r) (fronted s r) r
foretold_by m s r front refusal reply memory front_is refused is =
    let same : state_with front s.segments ≡ fronted s r = front_same m s front r memory front_is in
    is ∙ ap (λ (o : Option Refusal). foretold o (state_with front s.segments) r) (refused ∙ sym (ap (λ (x : NodeState). row_refused (state_with x s.segments) r) front_is))
    ∙ ap (λ (x : NodeState). foretold (row_refused x r) x r) same

-- a refusal by memory after the front
pub refused_by : (m front : NodeState) (r : Request) (rows : List SegmentRow) (refusal : Option Refusal) → front ≡ state_with (fronted m r) []
    → ((gs : List Segment) → Tells gs rows → refusal ≡ row_refused (state_with (fronted m r) gs) r)
    → (gs : List Segment) → Tells gs rows → refusal ≡ row_refused (state_with front gs) r
refused_by m front r rows refusal is refused gs tells = refused gs tells ∙ sym (ap (λ (x : NodeState). row_refused (state_with x gs) r) is)

pub stopped_answer : (v : View) (m : NodeState) (rows : List SegmentRow) (s : NodeState) (r : Request) (reply : Reply) → m.up ≡ false
    → ((keep : ℕ) → IsAnswer s r reply (stopped s r keep)) → IsStoppedIn v m rows s r
    → (t : NodeState) × HasState m.up v m rows t × IsAnswer s r reply t
stopped_answer v m rows s r reply down is stop = (stopped s r stop.keep, has_down v m rows (stopped s r stop.keep) down stop.down, is stop.keep)

stands_unsettled : (c : Files) (o : Option Refusal) (x front : NodeState) (r : Request) → StandsAs c (settled o x front r) → StandsAs c x
stands_unsettled c None x front r stands = record { numbers = by; segments = stands.segments }
  where
    by : (n : NodeNumber) → IsNumber (c (number_name n)) (number_of n x)
    by Promised = stands.numbers Promised
    by Writer = stands.numbers Writer
    by Committed = stands.numbers Committed
stands_unsettled c (Some refusal) x front r stands = record { numbers = by; segments = stands.segments }
  where
    by : (n : NodeNumber) → IsNumber (c (number_name n)) (number_of n x)
    by Promised = stands.numbers Promised
    by Writer = stands.numbers Writer
    by Committed = stands.numbers Committed

pub stable_behind : (v : View) (m : NodeState) (rows : List SegmentRow) (s : NodeState) (r : Request) → IsUp v m rows (state_behind s r)
    → AllLeave v (λ (c : Files). StandsAs c (after_effects s (effects_of s r)))
stable_behind v m rows s r up c now = stands_unsettled c (row_refused (fronted s r) r) (after_effects s (effects_of s r)) (fronted s r) r (stands_now v (state_behind s r) up.held.files c now)

pub up_stands : (v : View) (m : NodeState) (rows : List SegmentRow) (s : NodeState) → IsUp v m rows s → AllLeave v (λ (c : Files). StandsAs c s)
up_stands v m rows s up = stands_now v s up.held.files

-- a node that goes down with nothing done
pub node_down : (A B : Type 0) (v : View) (m0 m : NodeState) (rows : List SegmentRow) (r : Request) → A ↔ B → (gs : List Segment) × Tells gs rows
    → m ≡ crashed m0 → (A → (s : NodeState) × IsUp v m0 rows s) → (B → v.may_leave v.seen) → RowsRise rows → IsNode B v m rows
node_down A B v m0 m rows r same told is up now rise =
    let down : m.up ≡ false = ap (λ (x : NodeState). x.up) is in
    record {
      told = told;
      known = λ was. absurd (differs m.up down was);
      stands = λ t. let s = up (same.1 t) in (stopped s.0 r 0, has_down v m rows (stopped s.0 r 0) down (down_at v m0 m rows s.0 r (now t) s.1 is rise));
    }
  where
    differs : (b : Bool) → b ≡ false → b ≡ true → ⊥
    differs true f t = cc
    differs false f t = cc

pub fault_down : (v : View) (m0 m : NodeState) (rows : List SegmentRow) (s : NodeState) (r : Request) → v.may_leave v.seen → IsUp v m0 rows s → m ≡ crashed m0 → RowsRise rows
    → (t : NodeState) × HasState m.up v m rows t × IsAnswer s r (Refused DiskFault) t
fault_down v m0 m rows s r now up is rise = (stopped s r 0, has_down v m rows (stopped s r 0) (ap (λ (x : NodeState). x.up) is) (down_at v m0 m rows s r now up is rise), answer_fault s r 0)

pub memory_same : (v : View) (m : NodeState) (rows : List SegmentRow) (s : NodeState) (r : Request) → m.up ≡ true → IsUp v m rows s
    → (t : NodeState) × HasState m.up v m rows t × IsAnswer s r (Refused OutOfMemory) t
memory_same v m rows s r is up = (s, has_up v m rows s is up, answer_same s r)

-- a request that is refused at once has no effects
pub none_at_once : (s : NodeState) (r : Request) (refusal : Refusal) → refused_at_once s r ≡ Some refusal → effects_of s r ≡ []
unfolding effects_of
none_at_once s r refusal e = ap (effects_unless s r) e

pub stable_at_once : (v : View) (m : NodeState) (rows : List SegmentRow) (s : NodeState) (r : Request) (refusal : Refusal)
    → refused_at_once s r ≡ Some refusal → IsUp v m rows s → AllLeave v (λ (c : Files). StandsAs c (after_effects s (effects_of s r)))
unfolding after_effects
stable_at_once v m rows s r refusal e up c now = subst (λ (es : List Effect). StandsAs c (after_effects s es)) (sym (none_at_once s r refusal e)) (stands_now v s up.held.files c now)

pub moments_none : (v : View) (s : NodeState) (r : Request) → IsSound v → AllLeave v (λ (c : Files). StandsAs c s) → LeavesOnly v v (StandsStopped s (effects_of s r))
moments_none v s r sound stands = started v (StandsStopped s (effects_of s r)) sound (none_done s v r stands)

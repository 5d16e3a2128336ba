-- The effects of a request, done at a node that is up.
use Rattle.std.proofs.Common.{ℕ, ◌≡◌, ◌↔◌, ◌≤◌, ◌++◌, ◌==◌, Bool, true, false, cond, List, [], take, length, Option, Some, None, refl, sym, ap, subst, ◌∙◌, arith}
use Rattle.base_disk.specs.Files.{Files}
use Rattle.base_disk.specs.View.{View, LeavesOnly}
use Rattle.std.proofs.lemmas.Bool.Decides.{nat_tests}
use Rattle.journal_core.specs.Views.{HeadView, BatchView}
use Rattle.journal_core.specs.declared.segment.Segment.{Segment}
use Rattle.journal_core.specs.declared.node_state.NodeState.{NodeState}
use Rattle.journal_core.specs.declared.refusal.Refusal.{Refusal}
use Rattle.journal_core.specs.declared.refusal.Refusal.TheVariants.{Down}
use Rattle.journal_core.specs.declared.request.Request.{Request}
use Rattle.journal_core.specs.declared.request.Request.TheVariants.{State, NewEpoch, Start, Journal, Finalize, Prepare, Fetch, Accept, Purge, Read, Manifest}
use Rattle.journal_core.specs.Limits.{head_of, limit_of, max_number}
use Rattle.journal_core.specs.Effects.{Effect, after_effects}
use Rattle.journal_core.specs.Step.{refused_at_once, row_refused, fronted, front_opened, front_effects, front_known, open_refused, effects_of, effects_after, crashed, front_refused, unless_limited}
use Rattle.journal_core.proofs.Steps.{test_passed}
use Rattle.disk_segment.specs.Rows.{RowsRise}
use Rattle.disk_segment.specs.declared.segment_row.SegmentRow.{SegmentRow}
use Rattle.disk_files.specs.declared.node_number.NodeNumber.TheVariants.{Promised, Writer, Committed}
use Rattle.disk_files.specs.Durable.{HaveNumbers, HoldsState}
use Rattle.disk_effects.specs.declared.plan.RequestPlan.{RequestPlan}
use Rattle.disk_effects.specs.Told.{Tells, state_with}
use Rattle.disk_effects.specs.Decided.{effects_in}
use Rattle.disk_node.specs.FileState.{without_segments}
use Rattle.disk_effects.specs.Due.{AreDue}
use Rattle.disk_node.specs.Held.{IsHeld, OpenedAt, StandsStopped}
use Rattle.disk_node.specs.declared.readying.Ready.{Ready}
use Rattle.disk_node.specs.Done.{effects_by, CanDoAll, EndOpen, AppendWithin, append_start, LeftStopped, HasRoom}
use Rattle.disk_node.specs.Clauses.{AreEachDue, IsPlanned}
use Rattle.disk_files.specs.Durable.{AreFilled}
use Rattle.disk_node.proofs.Filled.{stopped_filled}
use Rattle.disk_node.specs.Node.{BringsEdits, IsUp, IsDown, HasState, IsNode, IsStoppedIn, settled, state_behind}
use Rattle.journal_step.specs.declared.durable_effect.DurableEffect.{DurableEffect}
use Rattle.journal_step.proofs.LimitLaws.{head_fits}
use Rattle.disk_effects.proofs.DueLaws.{known_fits}
use Rattle.disk_node.proofs.DoneAppends.{AllFit, effects_fit, front_fits, appends_within}
use Rattle.disk_node.proofs.DoneLaws.{SameRest, rest_noted}
use Rattle.disk_node.proofs.ActingFront.{effects_are, ends_open}

-- ## An append goes to the open segment
opened_is : (o : Option ℕ) (start first expected : ℕ) → open_refused o start first expected ≡ None → o ≡ Some start
opened_is None start first expected none = absurd (cc)
opened_is (Some opened) start first expected none = by (opened == start) refl none
  where
    use_none : (refusal : Refusal) → Some refusal ≡ None → ⊥
    use_none refusal e = cc

    by : (b : Bool) → opened == start ≡ b → open_refused (Some opened) start first expected ≡ None → Some opened ≡ Some start
    by b is n = ap (λ (x : ℕ). Some x) (grind (arith, nat_tests))

was_open : (s : NodeState) (r : Request) (h : HeadView) (start : ℕ) → front_opened s r (Some h) ≡ Some start → s.opened ≡ Some start
was_open s r h start is = by (cond_of (front_opened s r (Some h)) refl) is
  where
    cond_of : (o : Option ℕ) → front_opened s r (Some h) ≡ o → Option ℕ
    cond_of o e = o

    by : Option ℕ → front_opened s r (Some h) ≡ Some start → s.opened ≡ Some start
    by o e = grind (arith, nat_tests)

-- the segment to which the request appends is open, or nothing is appended
data Appends (s : NodeState) (r : Request) : Type 0 where
  to_none : AllFit None (effects_of s r) → Appends s r
  to_open : (start : ℕ) → append_start r ≡ Some start → s.opened ≡ Some start → Appends s r

journal_appends : (s : NodeState) (h : HeadView) (start : ℕ) (b : BatchView) → refused_at_once s (Journal h start b) ≡ None → Appends s (Journal h start b)
journal_appends s h start b none = by (row_refused (fronted s (Journal h start b)) (Journal h start b)) refl
  where
    by : (o : Option Refusal) → row_refused (fronted s (Journal h start b)) (Journal h start b) ≡ o → Appends s (Journal h start b)
    by None row = to_open start refl (was_open s (Journal h start b) h start (opened_is (front_opened s (Journal h start b) (Some h)) start b.first _ (test_passed _ _ _ row)))
    by (Some refusal) row = to_none (subst (λ (es : List Effect). AllFit None es)
        (sym (effects_are s (Journal h start b) none ∙ ap (λ (o : Option Refusal).
        front_effects s (Some h) ++ effects_after (fronted s (Journal h start b)) (Journal h start b) o) row)) (front_fits None s (Some h) [] tt))

module _ (v : View) (m : NodeState) (rows : List SegmentRow) (s : NodeState) (r : Request) (ds : List DurableEffect) (up : IsUp v m rows s)
    (due : AreDue s.segments rows r ds) (are : effects_by r ds ≡ effects_of s r) where
  can_none : append_start r ≡ None → CanDoAll v m rows s r ds
  can_none nowhere = record { held = up.held; due = due; open_ = None; is_open = tt; within = subst (λ (o : Option ℕ). AppendWithin o ds) nowhere (appends_within s r ds are) }

  can_by : Appends s r → CanDoAll v m rows s r ds
  can_by (to_none fit) = record { held = up.held; due = due; open_ = None; is_open = tt; within = effects_fit r None ds (subst (λ (es : List Effect). AllFit None es) (sym are) fit) }
  can_by (to_open start to opened) = record {
    held = up.held;
    due = due;
    open_ = Some start;
    is_open = subst (λ (o : Option ℕ). OpenedAt v s.segments rows o) opened up.opened;
    within = subst (λ (o : Option ℕ). AppendWithin o ds) to (appends_within s r ds are);
  }

pub can_all : (v : View) (m : NodeState) (rows : List SegmentRow) (s : NodeState) (r : Request) (ds : List DurableEffect) → IsUp v m rows s
    → AreDue s.segments rows r ds → effects_by r ds ≡ effects_of s r → refused_at_once s r ≡ None → CanDoAll v m rows s r ds
can_all v m rows s State ds up due are none = can_none v m rows s State ds up due are refl
can_all v m rows s (NewEpoch epoch) ds up due are none = can_none v m rows s (NewEpoch epoch) ds up due are refl
can_all v m rows s (Start h start) ds up due are none = can_none v m rows s (Start h start) ds up due are refl
can_all v m rows s (Journal h start b) ds up due are none = can_by v m rows s (Journal h start b) ds up due are (journal_appends s h start b none)
can_all v m rows s (Finalize h start end) ds up due are none = can_none v m rows s (Finalize h start end) ds up due are refl
can_all v m rows s (Prepare h start) ds up due are none = can_none v m rows s (Prepare h start) ds up due are refl
can_all v m rows s (Fetch h start from) ds up due are none = can_none v m rows s (Fetch h start from) ds up due are refl
can_all v m rows s (Accept h b) ds up due are none = can_none v m rows s (Accept h b) ds up due are refl
can_all v m rows s (Purge h least) ds up due are none = can_none v m rows s (Purge h least) ds up due are refl
can_all v m rows s (Read from) ds up due are none = can_none v m rows s (Read from) ds up due are refl
can_all v m rows s Manifest ds up due are none = can_none v m rows s Manifest ds up due are refl

-- ## Memory without segments
opened_same : (s : NodeState) (r : Request) (h : Option HeadView) → front_opened (without_segments s) r h ≡ front_opened s r h
opened_same s r None = refl
opened_same s r (Some h) = refl

pub fronted_apart : (s : NodeState) (r : Request) (gs : List Segment) → state_with (fronted (without_segments s) r) gs ≡ record (fronted s r) { segments = gs }
fronted_apart s r gs = ap (λ (o : Option ℕ). record (fronted s r) { segments = gs; opened = o }) (opened_same s r (head_of r))

settled_front : (o : Option Refusal) (x a b : NodeState) (r : Request) → a ≡ b → settled o x a r ≡ settled o x b r
settled_front o x a b r same = ap (λ (f : NodeState). settled o x f r) same

settled_bare : (o : Option Refusal) (x front : NodeState) (gs : List Segment) (r : Request) → settled o x (record front { segments = gs }) r ≡ settled o x front r
settled_bare None x front gs r = refl
settled_bare (Some refusal) x front gs r = refl

-- ## What isn't durable
volatile : (v : View) (x : NodeState) (known : ℕ) (opened : Option ℕ) (serial : ℕ) → HoldsState v x → HoldsState v (record x { known = known; opened = opened; serial = serial })
volatile v x known opened serial holds = record {
  numbers = λ c now. numbers c (holds.numbers c now);
  segments = holds.segments;
  starts = holds.starts;
  filled = holds.filled;
  records = holds.records;
  none_temporary = holds.none_temporary;
  none_fresh_record = holds.none_fresh_record;
}
  where
    numbers : (c : Files) → HaveNumbers c x → HaveNumbers c (record x { known = known; opened = opened; serial = serial })
    numbers c have Promised = have Promised
    numbers c have Writer = have Writer
    numbers c have Committed = have Committed

-- the fields that it leaves
held_settled : (v : View) (m1 m2 front : NodeState) (rows : List SegmentRow) (x : NodeState) (o : Option Refusal) (r : Request) → IsHeld v m1 rows x
    → m2 ≡ settled o (without_segments x) front r → IsHeld v m2 rows (settled o x front r)
held_settled v m1 m2 front rows x None r held is = record {
  memory = is;
  files = volatile v x _ _ _ held.files;
  told = held.told;
  sound = held.sound;
}
held_settled v m1 m2 front rows x (Some refusal) r held is = record {
  memory = is;
  files = volatile v x _ _ _ held.files;
  told = held.told;
  sound = held.sound;
}

pub settled_segments : (o : Option Refusal) (x front : NodeState) (r : Request) → (settled o x front r).segments ≡ x.segments
settled_segments None x front r = refl
settled_segments (Some refusal) x front r = refl

-- ## After the effects
pub up_behind : (v0 v1 : View) (m0 m1 m2 front : NodeState) (rows0 rows1 : List SegmentRow) (s : NodeState) (r : Request) (ds : List DurableEffect)
    (refusal : Option Refusal) → IsUp v0 m0 rows0 s → refused_at_once s r ≡ None
    → effects_by r ds ≡ effects_of s r → refusal ≡ row_refused (state_with (fronted m0 r) s.segments) r → front ≡ state_with (fronted m0 r) [] → m2 ≡ settled refusal m1 front r
    → IsHeld v1 m1 rows1 (after_effects s (effects_by r ds))
    → ((o : Option ℕ) → EndOpen (OpenedAt v0 s.segments rows0 o) o ds → OpenedAt v1 (after_effects s (effects_by r ds)).segments rows1 o)
    → IsUp v1 m2 rows1 (state_behind s r)
up_behind v0 v1 m0 m1 m2 front rows0 rows1 s r ds refusal up none are refused front_is settles held opens =
    let x : NodeState = after_effects s (effects_of s r) in
    let F : NodeState = fronted s r in
    let held_x : IsHeld v1 m1 rows1 x = subst (λ (es : List Effect). IsHeld v1 m1 rows1 (after_effects s es)) are held in
    let apart : (gs : List Segment) → state_with (fronted m0 r) gs ≡ record F { segments = gs } = λ gs. ap (λ (m : NodeState). state_with (fronted m r) gs) up.held.memory ∙ fronted_apart s r gs in
    let refusal_is : refusal ≡ row_refused F r = refused ∙ ap (λ (t : NodeState). row_refused t r) (apart s.segments) in
    let memory_is : m2 ≡ settled (row_refused F r) (without_segments x) F r =
    settles ∙ ap (λ (o : Option Refusal). settled o m1 front r) refusal_is ∙ ap (λ (m : NodeState). settled (row_refused F r) m front r) held_x.memory
    ∙ settled_front (row_refused F r) (without_segments x) front (record F { segments = [] }) r (front_is ∙ apart []) ∙ settled_bare (row_refused F r) (without_segments x) F [] r in
    record {
      held = held_settled v1 m1 m2 F rows1 x (row_refused F r) r held_x memory_is;
      opened = subst (λ (gs : List Segment). OpenedAt v1 gs rows1 (state_behind s r).opened)
          (ap (λ (es : List Effect). (after_effects s es).segments) are ∙ sym (settled_segments (row_refused F r) x F r))
          (opens (state_behind s r).opened (ends_open s r ds (OpenedAt v0 s.segments rows0) none are tt up.opened));
    }

pub stopped_in : (v : View) (m0 m : NodeState) (rows : List SegmentRow) (s : NodeState) (r : Request) (ds : List DurableEffect) → BringsEdits r
    → AreFilled s.segments → effects_by r ds ≡ effects_of s r → m ≡ crashed m0 → RowsRise rows → LeftStopped v.seen rows s (effects_by r ds)
    → IsStoppedIn v m rows s r
stopped_in v m0 m rows s r ds brings filled are is rise left = record {
  keep = left.count;
  down = record {
    opened = ap (λ (x : NodeState). x.opened) is;
    serial = ap (λ (x : NodeState). x.serial) is;
    rise = rise;
    before = after_effects s (take left.count (effects_by r ds));
    left = left.left;
    filled = subst (λ (es : List Effect). AreFilled (after_effects s (take left.count es)).segments) (sym are) (stopped_filled s r left.count brings filled);
    state = ap (λ (es : List Effect). crashed (after_effects s (take left.count es))) (sym are);
  };
}

pub stopped_moments : (v0 v1 : View) (s : NodeState) (r : Request) (ds : List DurableEffect) → effects_by r ds ≡ effects_of s r
    → LeavesOnly v0 v1 (StandsStopped s (effects_by r ds)) → LeavesOnly v0 v1 (StandsStopped s (effects_of s r))
stopped_moments v0 v1 s r ds are leaves = subst (λ (es : List Effect). LeavesOnly v0 v1 (StandsStopped s es)) are leaves

-- ## A node of any disk
settled_known : (o : Option Refusal) (x front : NodeState) (r : Request) → (settled o x front r).known ≡ front.known
settled_known None x front r = refl
settled_known (Some refusal) x front r = refl

settled_up : (o : Option Refusal) (x front : NodeState) (r : Request) → (settled o x front r).up ≡ x.up
settled_up None x front r = refl
settled_up (Some refusal) x front r = refl

pub is_up : (m : NodeState) (r : Request) → refused_at_once m r ≡ None → m.up ≡ true
is_up m r none = by m.up refl
  where
    by : (b : Bool) → m.up ≡ b → m.up ≡ true
    by true is = is
    by false is = grind (arith, nat_tests)

-- a state that stands at a node that is up
pub up_of : (v : View) (m : NodeState) (rows : List SegmentRow) (s : NodeState) → m.up ≡ true → HasState m.up v m rows s → IsUp v m rows s
up_of v m rows s up has = subst (λ (b : Bool). HasState b v m rows s) up has

pub has_up : (v : View) (m : NodeState) (rows : List SegmentRow) (s : NodeState) → m.up ≡ true → IsUp v m rows s → HasState m.up v m rows s
has_up v m rows s up is = subst (λ (b : Bool). HasState b v m rows s) (sym up) is

pub has_down : (v : View) (m : NodeState) (rows : List SegmentRow) (s : NodeState) → m.up ≡ false → IsDown v m rows s → HasState m.up v m rows s
has_down v m rows s down is = subst (λ (b : Bool). HasState b v m rows s) (sym down) is

pub node_behind : (A B : Type 0) (v0 v1 : View) (m0 m1 m2 front : NodeState) (rows0 rows1 : List SegmentRow) (r : Request) (es : List Effect)
    (refusal : Option Refusal) → A ↔ B → IsNode A v0 m0 rows0 → refused_at_once m0 r ≡ None → limit_of r ≡ None
    → front ≡ state_with (fronted m0 r) [] → m1 ≡ state_with (after_effects m0 es) m0.segments → m2 ≡ settled refusal m1 front r → (gs : List Segment) × Tells gs rows1
    → (A → (s : NodeState) → IsUp v0 m0 rows0 s → IsUp v1 m2 rows1 (state_behind s r)) → IsNode B v1 m2 rows1 × (m2.up ≡ true)
node_behind A B v0 v1 m0 m1 m2 front rows0 rows1 r es refusal same node none limits front_is done settles told next =
    let rest : SameRest m0 m1 = rest_noted m0 m1 es done in
    let was_up : m0.up ≡ true = is_up m0 r none in
    let up : m2.up ≡ true = ap (λ (x : NodeState). x.up) settles ∙ settled_up refusal m1 front r ∙ rest.up ∙ was_up in
    let known : m2.known ≡ front_known m0.known (head_of r) = ap (λ (x : NodeState). x.known) settles ∙ settled_known refusal m1 front r ∙ ap (λ (x : NodeState). x.known) front_is in (
      record {
        told = told;
        known = λ now. subst (λ (n : ℕ). n ≤ max_number) (sym known) (known_fits m0.known (head_of r) (head_fits r limits) (node.known was_up));
        stands = λ t. let s = node.stands (same.1 t) in (state_behind s.0 r, has_up v1 m2 rows1 (state_behind s.0 r) up (next (same.1 t) s.0 (up_of v0 m0 rows0 s.0 was_up s.1)));
      },
      up,
    )

pub node_stopped : (A B : Type 0) (v0 v1 : View) (m0 m1 m2 : NodeState) (rows0 rows1 : List SegmentRow) (r : Request) → A ↔ B → IsNode A v0 m0 rows0 → refused_at_once m0 r ≡ None → m2 ≡ crashed m1
    → (gs : List Segment) × Tells gs rows1 → (A → (s : NodeState) → IsUp v0 m0 rows0 s → IsStoppedIn v1 m2 rows1 s r) → IsNode B v1 m2 rows1
node_stopped A B v0 v1 m0 m1 m2 rows0 rows1 r same node none is told next =
    let down : m2.up ≡ false = ap (λ (x : NodeState). x.up) is in
    record {
      told = told;
      known = λ up. absurd (differs m2.up down up);
      stands = λ t. let s = node.stands (same.1 t) in let stop = next (same.1 t) s.0 (up_of v0 m0 rows0 s.0 (is_up m0 r none) s.1) in (_, has_down v1 m2 rows1 _ down stop.down);
    }
  where
    differs : (b : Bool) → b ≡ false → b ≡ true → ⊥
    differs true f t = cc
    differs false f t = cc

-- ## A request by the state that stands
front_refused_apart : (s : NodeState) (h : Option HeadView) → front_refused (without_segments s) h ≡ front_refused s h
front_refused_apart s None = refl
front_refused_apart s (Some h) = refl

once_apart : (s : NodeState) (r : Request) → refused_at_once (without_segments s) r ≡ refused_at_once s r
once_apart s r = ap (λ (o : Option Refusal). cond s.up (unless_limited (limit_of r) o) (Some Down)) (front_refused_apart s (head_of r))

once_down : (s : NodeState) (r : Request) → s.up ≡ false → refused_at_once s r ≡ Some Down
once_down s r down = ap (λ (b : Bool). cond b (unless_limited (limit_of r) (front_refused s (head_of r))) (Some Down)) down

pub once_same : (b : Bool) (v : View) (m : NodeState) (rows : List SegmentRow) (s : NodeState) (r : Request) → m.up ≡ b → HasState b v m rows s → refused_at_once m r ≡ refused_at_once s r
once_same true v m rows s r is up = ap (λ (x : NodeState). refused_at_once x r) up.held.memory ∙ once_apart s r
once_same false v m rows s r is down = once_down m r is ∙ sym (once_down s r (ap (λ (x : NodeState). x.up) down.state))

pub once_up : (v : View) (m : NodeState) (rows : List SegmentRow) (s : NodeState) (r : Request) → IsUp v m rows s → refused_at_once m r ≡ refused_at_once s r
once_up v m rows s r up = ap (λ (x : NodeState). refused_at_once x r) up.held.memory ∙ once_apart s r

-- what is planned, said of the effects as they are given
module _ {m : NodeState} {rows : List SegmentRow} {r : Request} {plan : RequestPlan} {ready : Ready} (p : IsPlanned m rows r plan ready)
    {ds : List DurableEffect} (given : ds ≡ effects_in plan.effects) where
  pub due_of : AreEachDue rows r ds
  due_of gs told = subst (λ (es : List DurableEffect). AreDue gs rows r es) (sym given) (p.due gs told)

  pub room_of : (gs : List Segment) → Tells gs rows → HasRoom ds (length rows) ready.room
  room_of gs told = subst (λ (es : List DurableEffect). HasRoom es (length rows) ready.room) (sym given) (p.room gs told)

  module _ {v : View} {s : NodeState} (up : IsUp v m rows s) where
    pub once_of : refused_at_once s r ≡ None
    once_of = sym (ap (λ (x : NodeState). refused_at_once x r) up.held.memory ∙ once_apart s r) ∙ p.at_once

    pub are_of : effects_by r ds ≡ effects_of s r
    are_of = ap (λ (es : List DurableEffect). effects_by r es) given ∙ p.effects s.segments up.held.told ∙ ap (λ (x : NodeState). effects_of (state_with x s.segments) r) up.held.memory

    pub can_of : CanDoAll v m rows s r ds
    can_of = can_all v m rows s r ds up (due_of s.segments up.held.told) are_of once_of

-- A request of which the first effects are done.
use Rattle.std.proofs.Common.{inr, ℕ, ◌≡◌, ◌↔◌, ◌≤◌, min, Bool, true, false, cond, List, [], ◌∷◌, take, length, Option, Some, None, zero, suc, refl, sym, ap, subst, ◌∙◌, arith}
use Rattle.std.specs.Prelude.{Result, Ok, Err, OnOk, OnErr}
use Rattle.std.specs.List.{take-map}
use Rattle.std.proofs.lemmas.List.{length-map}
use Rattle.base_disk.specs.Files.{Files}
use Rattle.base_disk.specs.View.{View, IsSound, LeavesOnly, AllLeave}
use Rattle.base_disk.specs.Moments.{started}
use Rattle.base_disk.specs.declared.disk.DiskFail.{DiskFail}
use Rattle.journal_core.specs.declared.segment.Segment.{Segment}
use Rattle.journal_core.specs.declared.node_state.NodeState.{NodeState}
use Rattle.journal_core.specs.declared.node_fail.NodeFail.TheVariants.{DiskFault, OutOfMemory}
use Rattle.journal_core.specs.declared.refusal.Refusal.{Refusal}
use Rattle.journal_core.specs.declared.request.Request.{Request}
use Rattle.journal_core.specs.Effects.{Effect, segments_after, after_effects}
use Rattle.journal_core.specs.Step.{refused_at_once, effects_of, crashed, stopped}
use Rattle.journal_core.specs.Stops.{Stops, Kills}
use Rattle.disk_segment.specs.Rows.{RowsRise}
use Rattle.disk_segment.specs.declared.segment_row.SegmentRow.{SegmentRow}
use Rattle.disk_effects.specs.Told.{Tells}
use Rattle.disk_effects.specs.Due.{effect_of, AreDue, rows_after}
use Rattle.disk_node.specs.Held.{IsHeld, StandsStopped}
use Rattle.disk_node.specs.Done.{effects_by, CanDoAll, AppendWithin, LeftStopped}
use Rattle.disk_files.specs.Durable.{AreFilled, StandsAs}
use Rattle.disk_node.proofs.Filled.{stopped_filled}
use Rattle.disk_node.specs.Node.{BringsEdits, IsUp, IsDown, HasState, IsNode, IsStoppedIn}
use Rattle.journal_step.specs.declared.durable_effect.DurableEffect.{DurableEffect}
use Rattle.disk_node.proofs.DoingRows.{tells_covers}
use Rattle.disk_node.proofs.DoingEffect.{stands_now}
use Rattle.disk_node.proofs.ActingDone.{has_down, up_of, is_up}
use Rattle.disk_node.proofs.ActingAnswer.{none_at_once}

-- ## The first effects
pub due_first : (n : ℕ) (gs : List Segment) (rows : List SegmentRow) (r : Request) (ds : List DurableEffect) → AreDue gs rows r ds → AreDue gs rows r (take n ds)
due_first zero gs rows r [] due = tt
due_first zero gs rows r (d ∷ ds) due = tt
due_first (suc n) gs rows r [] due = tt
due_first (suc n) gs rows r (d ∷ ds) due = (due.0, λ place. due_first n (segments_after gs (effect_of r d)) (rows_after r d place rows) r ds (due.1 place))

within_first : (n : ℕ) (o : Option ℕ) (ds : List DurableEffect) → AppendWithin o ds → AppendWithin o (take n ds)
within_first zero o [] within = tt
within_first zero o (d ∷ ds) within = tt
within_first (suc n) o [] within = tt
within_first (suc n) o (d ∷ ds) within = (within.0, within.1, within_first n o ds within.2)

pub can_first : (v : View) (m : NodeState) (rows : List SegmentRow) (s : NodeState) (r : Request) (ds : List DurableEffect) (n : ℕ) → CanDoAll v m rows s r ds → CanDoAll v m rows s r (take n ds)
can_first v m rows s r ds n can = record { held = can.held; due = due_first n s.segments rows r ds can.due; open_ = can.open_; is_open = can.is_open; within = within_first n can.open_ ds can.within }

first_effects : (s : NodeState) (r : Request) (ds : List DurableEffect) (n : ℕ) → effects_by r ds ≡ effects_of s r → effects_by r (take n ds) ≡ take n (effects_of s r)
first_effects s r ds n are = sym (take-map (effect_of r) n ds) ∙ ap (take n) are

-- at every moment
pub first_moments : (v0 v1 : View) (s : NodeState) (r : Request) (ds : List DurableEffect) (n : ℕ) → effects_by r ds ≡ effects_of s r
    → LeavesOnly v0 v1 (StandsStopped s (effects_by r (take n ds))) → LeavesOnly v0 v1 (StandsStopped s (take n (effects_of s r)))
first_moments v0 v1 s r ds n are leaves = subst (λ (es : List Effect). LeavesOnly v0 v1 (StandsStopped s es)) (first_effects s r ds n are) leaves

-- ## The node goes down
pub held_down : (v : View) (m0 m1 m : NodeState) (rows : List SegmentRow) (s : NodeState) (r : Request) (ds : List DurableEffect) (n : ℕ)
    → v.may_leave v.seen → effects_by r ds ≡ effects_of s r → m ≡ crashed m1 → RowsRise rows
    → IsHeld v m0 rows (after_effects s (effects_by r (take n ds))) → IsDown v m rows (stopped s r n)
held_down v m0 m1 m rows s r ds n now are is rise held = record {
  opened = ap (λ (x : NodeState). x.opened) is;
  serial = ap (λ (x : NodeState). x.serial) is;
  rise = rise;
  before = after_effects s (effects_by r (take n ds));
  left = record { stands = stands_now v (after_effects s (effects_by r (take n ds))) held.files v.seen now; sound = held.sound; covers = tells_covers _ rows held.told };
  filled = held.files.filled;
  state = sym (ap (λ (es : List Effect). crashed (after_effects s es)) (first_effects s r ds n are));
}

pub left_down : (v : View) (m1 m : NodeState) (rows : List SegmentRow) (s : NodeState) (r : Request) (ds : List DurableEffect) (n : ℕ) → BringsEdits r
    → AreFilled s.segments → n ≤ length ds → effects_by r ds ≡ effects_of s r → m ≡ crashed m1 → RowsRise rows
    → LeftStopped v.seen rows s (effects_by r (take n ds)) → IsStoppedIn v m rows s r
left_down v m1 m rows s r ds n brings filled short are is rise left = record {
  keep = min left.count n;
  down = record {
    opened = ap (λ (x : NodeState). x.opened) is;
    serial = ap (λ (x : NodeState). x.serial) is;
    rise = rise;
    before = after_effects s (take left.count (effects_by r (take n ds)));
    left = left.left;
    filled = subst (λ (es : List Effect). AreFilled (after_effects s es).segments)
        (sym (ap (take left.count) (first_effects s r ds n are) ∙ twice left.count n (effects_of s r)))
        (stopped_filled s r (min left.count n) brings filled);
    state = sym (ap (λ (es : List Effect). crashed (after_effects s es)) (ap (take left.count) (first_effects s r ds n are) ∙ twice left.count n (effects_of s r)));
  };
}
  where
    twice : (a b : ℕ) (es : List Effect) → take a (take b es) ≡ take (min a b) es
    twice zero b es = let k : min zero b ≡ zero = omega arith in sym (ap (λ (n : ℕ). take n es) k)
    twice (suc a) zero [] = let k : min (suc a) zero ≡ zero = omega arith in sym (ap (λ (n : ℕ). take n []) k)
    twice (suc a) zero (e ∷ es) = let k : min (suc a) zero ≡ zero = omega arith in sym (ap (λ (n : ℕ). take n (e ∷ es)) k)
    twice (suc a) (suc b) [] = let k : min (suc a) (suc b) ≡ suc (min a b) = omega arith in sym (ap (λ (n : ℕ). take n []) k)
    twice (suc a) (suc b) (e ∷ es) = let k : min (suc a) (suc b) ≡ suc (min a b) = omega arith in ap (λ (xs : List Effect). e ∷ xs) (twice a b es) ∙ sym (ap (λ (n : ℕ). take n (e ∷ es)) k)

differs : (b : Bool) → b ≡ false → b ≡ true → ⊥
differs true f t = cc
differs false f t = cc

-- where the files stand for what is left, the node that went down is one
pub node_stops : (A B : Type 0) (v0 v1 : View) (m0 m : NodeState) (rows0 rows1 : List SegmentRow) (r : Request) (result : Result (Unit {0}) DiskFail)
    (n : ℕ) → A ↔ B → IsNode A v0 m0 rows0 → refused_at_once m0 r ≡ None → m.up ≡ false → (gs : List Segment) × Tells gs rows1
    → (A → (s : NodeState) → IsUp v0 m0 rows0 s → OnOk result (IsDown v1 m rows1 (stopped s r n)))
    → (A → (s : NodeState) → IsUp v0 m0 rows0 s → OnErr result (IsStoppedIn v1 m rows1 s r)) → IsNode B v1 m rows1
node_stops A B v0 v1 m0 m rows0 rows1 r result n same node none down told done stop = record {
  told = told;
  known = λ up. absurd (differs m.up down up);
  stands = λ t. let s = node.stands (same.1 t) in by result s.0 (done (same.1 t) s.0 (up_of v0 m0 rows0 s.0 (is_up m0 r none) s.1)) (stop (same.1 t) s.0 (up_of v0 m0 rows0 s.0 (is_up m0 r none) s.1));
}
  where
    by : (q : Result (Unit {0}) DiskFail) (s : NodeState) → OnOk q (IsDown v1 m rows1 (stopped s r n)) → OnErr q (IsStoppedIn v1 m rows1 s r) → (t : NodeState) × HasState m.up v1 m rows1 t
    by (Ok x) s ok err = (stopped s r n, has_down v1 m rows1 (stopped s r n) down ok)
    by (Err e) s ok err = (stopped s r err.keep, has_down v1 m rows1 (stopped s r err.keep) down err.down)

-- ## What a stop answers
all_taken : (keep : ℕ) (n : ℕ) (es : List Effect) → n ≡ min keep (length es) → take n es ≡ take keep es
all_taken zero n es is = let e : n ≡ 0 = omega (arith, is) in ap (λ (k : ℕ). take k es) e
all_taken (suc keep) n [] is = let e : n ≡ 0 = omega (arith, is) in ap (λ (k : ℕ). take k []) e
all_taken (suc keep) n (e ∷ es) is = let k : n ≡ suc (min keep (length es)) = omega (arith, is) in ap (λ (j : ℕ). take j (e ∷ es)) k
    ∙ ap (λ (xs : List Effect). e ∷ xs) (all_taken keep (min keep (length es)) es refl)

pub stops_done : (v : View) (m : NodeState) (rows : List SegmentRow) (s : NodeState) (r : Request) (ds : List DurableEffect) (keep n : ℕ)
    → m.up ≡ false → effects_by r ds ≡ effects_of s r → n ≡ min keep (length ds) → IsDown v m rows (stopped s r n)
    → (t : NodeState) × HasState m.up v m rows t × Stops (Some s) r keep (Ok n) (Some t)
stops_done v m rows s r ds keep n down are is stop =
    let count : n ≡ min keep (length (effects_of s r)) = is ∙ ap (min keep) (sym (length-map ds (effect_of r)) ∙ ap length are) in
    (stopped s r n, has_down v m rows (stopped s r n) down stop, record { count = count; state = ap (λ (es : List Effect). crashed (after_effects s es)) (all_taken keep n (effects_of s r) count) })

pub kept_moments : (v0 v1 : View) (s : NodeState) (r : Request) (ds : List DurableEffect) (keep n : ℕ) → effects_by r ds ≡ effects_of s r
    → n ≡ min keep (length ds) → LeavesOnly v0 v1 (StandsStopped s (take n (effects_of s r)))
    → LeavesOnly v0 v1 (StandsStopped s (take keep (effects_of s r)))
kept_moments v0 v1 s r ds keep n are is leaves =
    let count : n ≡ min keep (length (effects_of s r)) = is ∙ ap (min keep) (sym (length-map ds (effect_of r)) ∙ ap length are) in
    subst (λ (es : List Effect). LeavesOnly v0 v1 (StandsStopped s es)) (all_taken keep n (effects_of s r) count) leaves

-- nothing was done
pub no_moments : (v : View) (s : NodeState) (r : Request) (keep : ℕ) → IsSound v → AllLeave v (λ (c : Files). StandsAs c s) → LeavesOnly v v (StandsStopped s (take keep (effects_of s r)))
unfolding after_effects
no_moments v s r keep sound stands = started v (StandsStopped s (take keep (effects_of s r))) sound (λ c now. record { count = 0; within = omega arith; stands = stands c now })

pub stops_fault : (v : View) (m : NodeState) (rows : List SegmentRow) (s : NodeState) (r : Request) (keep : ℕ) → m.up ≡ false
    → IsStoppedIn v m rows s r → (t : NodeState) × HasState m.up v m rows t × Stops (Some s) r keep (Err DiskFault) (Some t)
stops_fault v m rows s r keep down stop = (stopped s r stop.keep, has_down v m rows (stopped s r stop.keep) down stop.down, (stop.keep, refl))

pub stops_memory : (v : View) (m : NodeState) (rows : List SegmentRow) (s : NodeState) (r : Request) (keep : ℕ) → m.up ≡ false
    → IsStoppedIn v m rows s r → (t : NodeState) × HasState m.up v m rows t × Stops (Some s) r keep (Err OutOfMemory) (Some t)
stops_memory v m rows s r keep down stop = (stopped s r stop.keep, has_down v m rows (stopped s r stop.keep) down stop.down, inr (stop.keep, refl))

-- ## Nothing is done
-- a node goes down, whatever it was
pub goes_down : (b : Bool) (v : View) (m0 m : NodeState) (rows : List SegmentRow) (s : NodeState) → v.may_leave v.seen → HasState b v m0 rows s
    → m ≡ crashed m0 → RowsRise rows → IsDown v m rows (crashed s)
goes_down true v m0 m rows s now up is rise = record {
  opened = ap (λ (x : NodeState). x.opened) is;
  serial = ap (λ (x : NodeState). x.serial) is;
  rise = rise;
  before = s;
  left = record { stands = stands_now v s up.held.files v.seen now; sound = up.held.sound; covers = tells_covers s.segments rows up.held.told };
  filled = up.held.files.filled;
  state = refl;
}
goes_down false v m0 m rows s now down is rise = record {
  opened = ap (λ (x : NodeState). x.opened) is;
  serial = ap (λ (x : NodeState). x.serial) is;
  rise = rise;
  before = down.before;
  left = down.left;
  filled = down.filled;
  state = ap crashed down.state;
}

pub node_goes_down : (A : Type 0) (v : View) (m0 m : NodeState) (rows : List SegmentRow) → (A → v.may_leave v.seen) → IsNode A v m0 rows → m ≡ crashed m0 → RowsRise rows → IsNode A v m rows
node_goes_down A v m0 m rows now node is rise =
    let down : m.up ≡ false = ap (λ (x : NodeState). x.up) is in
    record {
      told = node.told;
      known = λ up. absurd (differs m.up down up);
      stands = λ t. let s = node.stands t in (crashed s.0, has_down v m rows (crashed s.0) down (goes_down m0.up v m0 m rows s.0 (now t) s.1 is rise));
    }

take_nothing : (keep : ℕ) (es : List Effect) → es ≡ [] → take keep es ≡ []
take_nothing zero es e = refl
take_nothing (suc keep) es e = ap (take (suc keep)) e

stopped_at_once : (s : NodeState) (r : Request) (refusal : Refusal) (keep : ℕ) → refused_at_once s r ≡ Some refusal → stopped s r keep ≡ crashed s
unfolding after_effects
stopped_at_once s r refusal keep e = ap (λ (es : List Effect). crashed (after_effects s es)) (take_nothing keep (effects_of s r) (none_at_once s r refusal e))

pub stops_at_once : (v : View) (m0 m : NodeState) (rows : List SegmentRow) (s : NodeState) (r : Request) (refusal : Refusal) (keep : ℕ)
    → v.may_leave v.seen → HasState m0.up v m0 rows s → m ≡ crashed m0 → RowsRise rows → refused_at_once s r ≡ Some refusal
    → (t : NodeState) × HasState m.up v m rows t × Stops (Some s) r keep (Ok 0) (Some t)
stops_at_once v m0 m rows s r refusal keep now has is rise e =
    let none : length (effects_of s r) ≡ 0 = ap length (none_at_once s r refusal e) in (
      crashed s,
      has_down v m rows (crashed s) (ap (λ (x : NodeState). x.up) is) (goes_down m0.up v m0 m rows s now has is rise),
      record { count = omega (arith, none); state = sym (stopped_at_once s r refusal keep e) },
    )

-- ## Kills
pub was_up : (b : Bool) (v : View) (m : NodeState) (rows : List SegmentRow) (s : NodeState) → m.up ≡ b → HasState b v m rows s → s.up ≡ b
was_up true v m rows s is up = ap (λ (k : NodeState). k.up) (sym up.held.memory) ∙ is
was_up false v m rows s is down = ap (λ (k : NodeState). k.up) down.state

pub kills_up : (v : View) (m0 m : NodeState) (rows : List SegmentRow) (s : NodeState) → v.may_leave v.seen → m0.up ≡ true → HasState m0.up v m0 rows s
    → m ≡ crashed m0 → RowsRise rows → (t : NodeState) × HasState m.up v m rows t × Kills (Some s) true (Some t)
kills_up v m0 m rows s now up has is rise =
    let s_up : s.up ≡ true = was_up m0.up v m0 rows s refl has ∙ up in (
      crashed s,
      has_down v m rows (crashed s) (ap (λ (x : NodeState). x.up) is) (goes_down m0.up v m0 m rows s now has is rise),
      record { told = sym s_up; state = sym (ap (λ (b : Bool). cond b (crashed s) s) s_up) },
    )

pub kills_down : (v : View) (m : NodeState) (rows : List SegmentRow) (s : NodeState) → m.up ≡ false → HasState m.up v m rows s
    → (t : NodeState) × HasState m.up v m rows t × Kills (Some s) false (Some t)
kills_down v m rows s down has =
    let s_down : s.up ≡ false = was_up m.up v m rows s refl has ∙ down in
    (s, has, record { told = sym s_down; state = sym (ap (λ (b : Bool). cond b (crashed s) s) s_down) })

pub ok_to : {T E : Type 0} (result : Result T E) (P Q : Type 0) → (P → Q) → OnOk result P → OnOk result Q
ok_to (Ok x) P Q f p = f p
ok_to (Err e) P Q f p = tt

pub err_to : {T E : Type 0} (result : Result T E) (P Q : Type 0) → (P → Q) → OnErr result P → OnErr result Q
err_to (Ok x) P Q f p = tt
err_to (Err e) P Q f p = f p

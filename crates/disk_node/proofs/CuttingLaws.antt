-- A node is cut between two disk calls of a request.
use Rattle.std.proofs.Common.{ℕ, ◌≡◌, ◌≢◌, ◌<◌, ◌≤◌, ◌+◌, ◌-◌, Bool, true, false, List, [], ◌∷◌, ◌++◌, map, take, get_or, length, Option, Some, None}
use Rattle.std.proofs.Common.{suc, refl, sym, ap, subst, ◌∙◌, append_assoc, append-nil, arith, lit≤}
use Rattle.std.specs.Prelude.{Result, Ok, Err, OnOk, OnErr}
use Rattle.std.proofs.lemmas.List.{take_all, take_more, map-append}
use Rattle.base_disk.specs.Files.{Files}
use Rattle.base_disk.specs.View.{View, AllLeave}
use Rattle.base_disk.specs.MemDisk.{disk_view, IsSameBut}
use Rattle.base_disk.specs.Timeline.{view_of}
use Rattle.base_disk.specs.declared.mem_disk.MemDisk.{MemDisk}
use Rattle.base_disk.specs.declared.disk.DiskFail.{DiskFail}
use Rattle.base_disk.specs.declared.disk.DiskFail.TheVariants.{Failed, OutOfMemory}
use Rattle.journal_core.specs.declared.cut.Cut.{Cut}
use Rattle.journal_core.specs.declared.cut.Cut.TheVariants as cuts
use Rattle.journal_core.specs.declared.segment.Segment.{Segment}
use Rattle.journal_core.specs.declared.segment_info.SegmentInfo.{SegmentInfo}
use Rattle.journal_core.specs.Segments.{AreSound}
use Rattle.journal_core.specs.declared.node_state.NodeState.{NodeState}
use Rattle.journal_core.specs.declared.refusal.Refusal.{Refusal}
use Rattle.journal_core.specs.declared.request.Request.{Request}
use Rattle.journal_core.specs.Effects.{Effect, Promise, WriterEpoch, Commit, NewSegment, Append, Replace, MakeFinal, Remove, segments_after, after_effects}
use Rattle.journal_core.specs.Step.{refused_at_once, effects_of, crashed, stopped}
use Rattle.journal_core.specs.Cuts.{Cost, number_cost, append_cost, accept_cost, name_cost, has_record, cost_of, standing, effects_standing, IsCut}
use Rattle.journal_core.proofs.CutLaws.{cut_refused, standing_one}
use Rattle.journal_core.proofs.NodeLaws.{stop_nothing}
use Rattle.disk_segment.specs.Effects.{choice_of, IsCounted}
use Rattle.disk_segment.specs.Effects as effects
use Rattle.disk_segment.specs.Rows.{RowsRise}
use Rattle.disk_segment.specs.declared.segment_row.SegmentRow.{SegmentRow}
use Rattle.disk_files.specs.Durable.{AreFilled}
use Rattle.disk_effects.specs.Told.{Tells, state_with}
use Rattle.disk_effects.specs.Due.{effect_of, IsDue, AreDue, rows_after}
use Rattle.journal_step.specs.declared.durable_effect.DurableEffect.{DurableEffect}
use Rattle.journal_step.specs.declared.durable_effect.DurableEffect.TheVariants as durable
use Rattle.disk_node.specs.Held.{IsHeld, IsLeft}
use Rattle.disk_node.specs.Done.{effects_by, CanDoAll, KeepCosts, calls_of, IsCutAmong, LeftStopped}
use Rattle.disk_node.specs.Node.{BringsEdits, IsUp, IsDown, HasState, IsNode, IsStoppedIn}
use Rattle.journal_step.specs.declared.budget.Budget.{Budget}
use Rattle.journal_step.specs.Budgets.{count_on, SpendsTo}
use Rattle.journal_step.specs.Durable.{effect_cost}
use Rattle.disk_node.proofs.DoingEffect.{stands_now}
use Rattle.disk_node.proofs.DoingRows.{tells_covers}
use Rattle.disk_node.proofs.DoneCosts.{costs_kept}
use Rattle.disk_node.proofs.Filled.{stopped_filled}
use Rattle.disk_node.proofs.ActingDone.{stopped_in, up_of, has_down, node_stopped}

-- ## The costs of the effects are those of the segments
cost_is : (cut : Cut) (gs : List Segment) (rows : List SegmentRow) (r : Request) (d : DurableEffect) → IsDue gs rows r d → effect_cost cut d ≡ cost_of cut gs (effect_of r d)
cost_is cut gs rows r (durable.Promise epoch) due = refl
cost_is cut gs rows r (durable.WriterEpoch epoch) due = refl
cost_is cut gs rows r (durable.Commit txid) due = refl
cost_is cut gs rows r (durable.NewSegment start epoch) due = refl
cost_is cut gs rows r (durable.Append start at) due = refl
cost_is cut gs rows r (durable.Replace epoch again) due = ap accept_cost due.record_is
cost_is cut gs rows r (durable.MakeFinal start end accepted) due = ap name_cost (sym (ap has_record due.known ∙ due.accepted_is))
cost_is cut gs rows r (durable.Remove info) due = ap name_cost (ap (λ (i : SegmentInfo). i.accepted) due.info_is ∙ sym (ap has_record due.known))

costs_are : (cut : Cut) (gs : List Segment) (rows : List SegmentRow) (r : Request) (ds : List DurableEffect) → AreDue gs rows r ds
    → KeepCosts gs (effects_by r ds) → map (effect_cost cut) ds ≡ map (cost_of cut gs) (effects_by r ds)
costs_are cut gs rows r [] due keep = refl
costs_are cut gs rows r (d ∷ ds) due keep =
    let first : effect_cost cut d ≡ cost_of cut gs (effect_of r d) = cost_is cut gs rows r d due.0 in
    let rest : map (effect_cost cut) ds ≡ map (cost_of cut gs) (effects_by r ds) = costs_are cut (segments_after gs (effect_of r d)) (rows_after r d 0 rows) r ds (due.1 0) keep.1 ∙ keep.0 cut in
    λ i. first i ∷ rest i

-- each effect of the request leaves the costs of those after it
pub kept_of : (s : NodeState) (r : Request) (ds : List DurableEffect) → AreSound s.segments → effects_by r ds ≡ effects_of s r → KeepCosts s.segments (effects_by r ds)
kept_of s r ds sound are = subst (λ (es : List Effect). KeepCosts s.segments es) (sym are) (costs_kept s r sound)

-- as many stand as of the effects of the request
pub count_is : (cut : Cut) (s : NodeState) (rows : List SegmentRow) (r : Request) (ds : List DurableEffect) (calls : ℕ) → AreDue s.segments rows r ds
    → AreSound s.segments → effects_by r ds ≡ effects_of s r
    → standing calls (map (effect_cost cut) ds) ≡ effects_standing cut s r calls
count_is cut s rows r ds calls due sound are = ap (standing calls) (costs_are cut s.segments rows r ds due (kept_of s r ds sound are) ∙ ap (map (cost_of cut s.segments)) are)

-- ## A count of the effects, one by one
abbrev pub IsCountedTo : Cut → List DurableEffect → ℕ → ℕ → Budget → Type 0
IsCountedTo cut ds calls i budget = (rest : List Cost) → standing calls (map (effect_cost cut) (take i ds) ++ rest) ≡ count_on budget rest

pub count_goes : (cut : Cut) (ds : List DurableEffect) (calls i : ℕ) (d : DurableEffect) (old new : Budget) → i < length ds
    → IsCountedTo cut ds calls i old → SpendsTo old (effect_cost cut (get_or ds i d) ∷ []) new
    → IsCountedTo cut ds calls (i + 1) new
count_goes cut ds calls i d old new within before one rest =
    let cost : Cost = effect_cost cut (get_or ds i d) in
    ap (λ (xs : List DurableEffect). standing calls (map (effect_cost cut) xs ++ rest)) (take_more ds i d within)
    ∙ ap (λ (cs : List Cost). standing calls (cs ++ rest)) (map-append (effect_cost cut) (take i ds) (get_or ds i d ∷ []))
    ∙ ap (standing calls) (append_assoc (map (effect_cost cut) (take i ds)) (cost ∷ []) rest) ∙ before (cost ∷ rest) ∙ one.spent rest

pub count_ends : (cut : Cut) (ds : List DurableEffect) (calls i : ℕ) (budget : Budget) → length ds ≤ i → IsCountedTo cut ds calls i budget
    → count_on budget [] ≡ standing calls (map (effect_cost cut) ds)
count_ends cut ds calls i budget end counted =
    sym (counted []) ∙ ap (standing calls) (append-nil (map (effect_cost cut) (take i ds)) ∙ ap (map (effect_cost cut)) (take_all i ds end))

-- ## With enough calls all effects stand
append_decides : (cut : Cut) → (append_cost cut).decides ≤ (append_cost cut).calls
append_decides cuts.Old = lit≤ tt
append_decides cuts.New = lit≤ tt
append_decides cuts.A5 = lit≤ tt

accept_decides : (again : Bool) → (accept_cost again).decides ≤ (accept_cost again).calls
accept_decides true = lit≤ tt
accept_decides false = lit≤ tt

name_decides : (accepted : Bool) → (name_cost accepted).decides ≤ (name_cost accepted).calls
name_decides true = lit≤ tt
name_decides false = lit≤ tt

decides : (cut : Cut) (gs : List Segment) (e : Effect) → (cost_of cut gs e).decides ≤ (cost_of cut gs e).calls
decides cut gs (Promise epoch) = lit≤ tt
decides cut gs (WriterEpoch epoch) = lit≤ tt
decides cut gs (Commit txid) = lit≤ tt
decides cut gs (NewSegment start epoch) = lit≤ tt
decides cut gs (Append start bodies) = append_decides cut
decides cut gs (Replace epoch batch) = accept_decides _
decides cut gs (MakeFinal start) = name_decides _
decides cut gs (Remove start) = name_decides _

all_stand : (cut : Cut) (gs : List Segment) (es : List Effect) (calls : ℕ) → calls_of (map (cost_of cut gs) es) ≤ calls → standing calls (map (cost_of cut gs) es) ≡ length es
unfolding standing
all_stand cut gs [] calls enough = refl
all_stand cut gs (e ∷ es) calls enough =
    let c : Cost = cost_of cut gs e in
    let first : c.decides ≤ c.calls = decides cut gs e in
    let here : c.decides ≤ calls = omega arith in
    let rest : calls_of (map (cost_of cut gs) es) ≤ calls - c.calls = omega arith in
    standing_one calls c (map (cost_of cut gs) es) here ∙ ap suc (all_stand cut gs es (calls - c.calls) rest)

-- ## The node is down
pub view_same : (a b : MemDisk) → IsSameBut a b → disk_view b ≡ disk_view a
view_same a b same = λ i. view_of (same.past i).items (same.files i)

held_left : (v : View) (m : NodeState) (rows : List SegmentRow) (s : NodeState) (c : Files) → v.may_leave c → IsHeld v m rows s → IsLeft c rows s
held_left v m rows s c now held = record { stands = stands_now v s held.files c now; sound = held.sound; covers = tells_covers s.segments rows held.told }

left_is_down : (v : View) (m1 m : NodeState) (rows : List SegmentRow) (s : NodeState) (r : Request) (n : ℕ) → BringsEdits r → AreFilled s.segments → m ≡ crashed m1 → RowsRise rows
    → IsLeft v.seen rows (after_effects s (take n (effects_of s r))) → IsDown v m rows (stopped s r n)
left_is_down v m1 m rows s r n brings filled is rise left = record {
  opened = ap (λ (x : NodeState). x.opened) is;
  serial = ap (λ (x : NodeState). x.serial) is;
  rise = rise;
  before = after_effects s (take n (effects_of s r));
  left = left;
  filled = stopped_filled s r n brings filled;
  state = refl;
}

-- A request that is done with so many calls left had enough of them.
no_less : (A : Type 0) (calls all : ℕ) (before left : Option ℕ) (x : A) → before ≡ Some calls → IsCounted {T = A} all before left (Ok x) → all ≤ calls
no_less A calls all before left x set counted =
    let less : calls < all → ⊥ = λ l. let p : false ≡ true = counted.stops calls set l in absurd (cc) in
    omega arith

left_by : (done : Result (Unit {0}) DiskFail) (P : Type 0) → done ≡ Err OutOfMemory → OnErr done P → P
left_by (Ok x) P is p = absurd (cc)
left_by (Err e) P is p = p

module _ (v1 v2 : View) (m1 m : NodeState) (rows1 : List SegmentRow) (s : NodeState) (r : Request) (ds : List DurableEffect) (calls : ℕ) (cut : Cut) (before left : Option ℕ)
    (set : before ≡ Some calls) (brings : BringsEdits r) (filled : AreFilled s.segments) (are : effects_by r ds ≡ effects_of s r)
    (is : m ≡ crashed m1) (rise : RowsRise rows1) (crash : effects.IsLeft (choice_of cut) v1 v2.seen) where
  done_cut : IsHeld v1 m1 rows1 (after_effects s (effects_by r ds)) → calls_of (map (cost_of cut s.segments) (effects_by r ds)) ≤ calls
      → IsDown v2 m rows1 (stopped s r (effects_standing cut s r calls))
  done_cut held enough =
      let es : List Effect = effects_of s r in
      let n : ℕ = effects_standing cut s r calls in
      let many : calls_of (map (cost_of cut s.segments) es) ≤ calls = subst (λ (xs : List Effect). calls_of (map (cost_of cut s.segments) xs) ≤ calls) are enough in
      let whole : n ≡ length es = all_stand cut s.segments es calls many in
      let all : take n es ≡ es = take_all n es (omega arith) in
      left_is_down v2 m1 m rows1 s r n brings filled is rise (subst (λ (xs : List Effect). IsLeft v2.seen rows1 (after_effects s xs)) (are ∙ sym all) (held_left v1 m1 rows1 _ v2.seen crash.0 held))

  failed_cut : IsCutAmong {T = Unit {0}} s (effects_by r ds) before (Err Failed) v1 rows1 → IsDown v2 m rows1 (stopped s r (effects_standing cut s r calls))
  failed_cut among =
      left_is_down v2 m1 m rows1 s r (effects_standing cut s r calls) brings filled is rise
      (subst (λ (xs : List Effect). IsLeft v2.seen rows1 (after_effects s (take (standing calls (map (cost_of cut s.segments) xs)) xs))) are (among.stands calls set refl cut v2.seen crash))

  -- all is done, or the disk failed at the cut
  pub cut_ends : (done : Result (Unit {0}) DiskFail) → OnOk done (IsHeld v1 m1 rows1 (after_effects s (effects_by r ds)))
      → IsCounted (calls_of (map (cost_of cut s.segments) (effects_by r ds))) before left done
      → IsCutAmong s (effects_by r ds) before done v1 rows1 → (done ≢ Err OutOfMemory) → IsDown v2 m rows1 (stopped s r (effects_standing cut s r calls))
  cut_ends (Ok x) held counted among not = done_cut held (no_less (Unit {0}) calls _ before left x set counted)
  cut_ends (Err Failed) held counted among not = failed_cut among
  cut_ends (Err OutOfMemory) held counted among not = absurd (not refl)

  -- memory was wanted
  pub cut_stops : (done : Result (Unit {0}) DiskFail) → OnErr done (AllLeave v1 (λ c. LeftStopped c rows1 s (effects_by r ds))) → done ≡ Err OutOfMemory → IsStoppedIn v2 m rows1 s r
  cut_stops done leaves fail = stopped_in v2 m1 m rows1 s r ds brings filled are is rise (left_by done (AllLeave v1 (λ c. LeftStopped c rows1 s (effects_by r ds))) fail leaves v2.seen crash.0)

pub node_cut : {E : Type 0} (short : Result (Unit {0}) E) (v0 v2 : View) (m0 m1 m : NodeState) (rows0 rows1 : List SegmentRow) (r : Request)
    (calls : ℕ) (cut : Cut) → IsNode (Unit {0}) v0 m0 rows0 → refused_at_once m0 r ≡ None → m ≡ crashed m1 → (gs : List Segment) × Tells gs rows1
    → ((s : NodeState) → IsUp v0 m0 rows0 s → OnOk short (IsDown v2 m rows1 (stopped s r (effects_standing cut s r calls))))
    → ((s : NodeState) → IsUp v0 m0 rows0 s → OnErr short (IsStoppedIn v2 m rows1 s r)) → IsNode (Unit {0}) v2 m rows1
node_cut short v0 v2 m0 m1 m rows0 rows1 r calls cut node none is told done stop =
    node_stopped (Unit {0}) (Unit {0}) v0 v2 m0 m1 m rows0 rows1 r (λ t. t, λ t. t) node none is told (λ t s up. by short s (done s up) (stop s up))
  where
    by : {E : Type 0} (q : Result (Unit {0}) E) (s : NodeState) → OnOk q (IsDown v2 m rows1 (stopped s r (effects_standing cut s r calls)))
        → OnErr q (IsStoppedIn v2 m rows1 s r) → IsStoppedIn v2 m rows1 s r
    by (Ok x) s ok err = record { keep = effects_standing cut s r calls; down = ok }
    by (Err e) s ok err = err

-- the disk that stops later holds what it held
pub can_stopped : {m : NodeState} {rows : List SegmentRow} {s : NodeState} {r : Request} {ds : List DurableEffect} (a b : MemDisk) → IsSameBut a b
    → CanDoAll (disk_view a) m rows s r ds → CanDoAll (disk_view b) m rows s r ds
can_stopped {m = m} {rows = rows} {s = s} {r = r} {ds = ds} a b same can = subst (λ (v : View). CanDoAll v m rows s r ds) (sym (view_same a b same)) can

pub cut_down : (v : View) (m : NodeState) (rows : List SegmentRow) (s : NodeState) (r : Request) (calls done : ℕ) (cut : Cut) → m.up ≡ false
    → done ≡ effects_standing cut s r calls → IsDown v m rows (stopped s r (effects_standing cut s r calls))
    → (t : NodeState) × HasState m.up v m rows t × IsCut s r calls cut done t
cut_down v m rows s r calls done cut down count is =
    let n : ℕ = effects_standing cut s r calls in
    (stopped s r n, has_down v m rows (stopped s r n) down is, record { count = count; state = ap (stopped s r) (sym count) })

-- ## Nothing is done
crash_left : (v0 v : View) (m0 m : NodeState) (rows : List SegmentRow) (s : NodeState) → v0.may_leave v.seen → IsUp v0 m0 rows s → m ≡ crashed m0 → RowsRise rows → IsDown v m rows (crashed s)
crash_left v0 v m0 m rows s now up is rise = record {
  opened = ap (λ (x : NodeState). x.opened) is;
  serial = ap (λ (x : NodeState). x.serial) is;
  rise = rise;
  before = s;
  left = held_left v0 m0 rows s v.seen now up.held;
  filled = up.held.files.filled;
  state = refl;
}

pub cut_at_once : (v0 v : View) (m0 m : NodeState) (rows : List SegmentRow) (s : NodeState) (r : Request) (refusal : Refusal) (calls : ℕ) (cut : Cut)
    → v0.may_leave v.seen → IsUp v0 m0 rows s → m ≡ crashed m0 → RowsRise rows → refused_at_once s r ≡ Some refusal
    → (t : NodeState) × HasState m.up v m rows t × IsCut s r calls cut 0 t
cut_at_once v0 v m0 m rows s r refusal calls cut now up is rise e = (
  crashed s,
  has_down v m rows (crashed s) (ap (λ (x : NodeState). x.up) is) (crash_left v0 v m0 m rows s now up is rise),
  record { count = cut_refused cut s r calls refusal e; state = sym (stop_nothing s r) },
)

pub node_at_once : (v0 v : View) (m0 m : NodeState) (rows : List SegmentRow) → v0.may_leave v.seen → m0.up ≡ true → IsNode (Unit {0}) v0 m0 rows
    → m ≡ crashed m0 → RowsRise rows → IsNode (Unit {0}) v m rows
node_at_once v0 v m0 m rows now was node is rise =
    let down : m.up ≡ false = ap (λ (x : NodeState). x.up) is in
    record {
      told = node.told;
      known = λ up. let p : false ≡ true = sym down ∙ up in absurd (cc);
      stands = λ t. let s = node.stands t in (crashed s.0, has_down v m rows (crashed s.0) down (crash_left v0 v m0 m rows s.0 now (up_of v0 m0 rows s.0 was s.1) is rise));
    }

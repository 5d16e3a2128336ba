-- A run of effects that failed at one of them, and one that ended.
use Rattle.std.proofs.Common.{inl, inr, ⊎_elim, ◌≡◌, ◌⊎◌, ℕ, suc, ◌≤◌, ◌<◌, ◌+◌, ◌-◌, ◌++◌, Bool, true, false, List, [], ◌∷◌, length, take, map}
use Rattle.std.proofs.Common.{Option, Some, refl, sym, ap, subst, ◌∙◌, arith, length-append, append_assoc, append-nil}
use Rattle.std.specs.Prelude.{Result, Ok, Err, OnErr, IsErr, IsErrOf, nat_le, if◌then◌else◌}
use Rattle.std.proofs.lemmas.Bool.{cases_lt, le-leb}
use Rattle.base_disk.specs.Files.{Files}
use Rattle.base_disk.specs.View.{View, LeavesOnly, AllLeave}
use Rattle.base_disk.specs.declared.disk.DiskFail.{DiskFail}
use Rattle.base_disk.specs.declared.disk.DiskFail.TheVariants.{Failed}
use Rattle.journal_core.specs.declared.cut.Cut.{Cut}
use Rattle.journal_core.specs.declared.cut.Cut.TheVariants as cuts
use Rattle.journal_core.specs.declared.segment.Segment.{Segment}
use Rattle.journal_core.specs.declared.node_state.NodeState.{NodeState}
use Rattle.journal_core.specs.declared.request.Request.{Request}
use Rattle.journal_core.specs.Segments.{find_segment, AreSound}
use Rattle.journal_core.specs.Effects.{Effect, Promise, WriterEpoch, Commit, NewSegment, Append, Replace, MakeFinal, Remove, after_effect, after_effects, segments_after}
use Rattle.journal_core.specs.Cuts.{Cost, accept_cost, name_cost, has_record, has_record_of, cost_of, standing}
use Rattle.disk_segment.specs.Effects.{IsCounted}
use Rattle.disk_segment.specs.declared.segment_row.SegmentRow.{SegmentRow}
use Rattle.disk_segment.proofs.Counts.{counted_off}
use Rattle.disk_files.specs.Durable.{StandsAs}
use Rattle.disk_files.specs.EffectCalls.{Does, IsCutAt}
use Rattle.disk_effects.specs.Told.{Tells, state_with}
use Rattle.disk_effects.specs.Due.{effect_of, IsDue}
use Rattle.disk_node.specs.Held as held
use Rattle.disk_node.specs.Held.{IsHeld, OpenedAt, StandsStopped, MayLeave}
use Rattle.disk_node.specs.FileState.{Covers}
use Rattle.disk_node.specs.Doing.{CanDo}
use Rattle.disk_node.specs.Done.{effects_by, CanDoAll, EndOpen, LeftStopped, KeepCosts, calls_of, IsCutAmong}
use Rattle.journal_step.specs.declared.durable_effect.DurableEffect.{DurableEffect}
use Rattle.disk_node.proofs.DoingRows.{sound_after}
use Rattle.disk_node.proofs.DoneLaws.{SoFar, CostSoFar, IsUnderWay, front_is, front_within, rest_noted, behind_next, can_now, next_all, next_is, moments_then, head_cost}

-- ## Results
pub on_err_always : {T E : Type 0} (r : Result T E) (P : Type 0) → P → OnErr r P
on_err_always (Ok x) P fact = tt
on_err_always (Err e) P fact = fact

pub among_carried : {S T : Type 0} (s : NodeState) (es : List Effect) (left : Option ℕ) (inner : Result S DiskFail) (outer : Result T DiskFail)
    (v : View) (rows : List SegmentRow) → (IsErrOf outer Failed → IsErrOf inner Failed) → IsCutAmong s es left inner v rows
    → IsCutAmong s es left outer v rows
among_carried s es left inner outer v rows carry cut = record { stands = λ k is failed. cut.stands k is (carry failed) }

-- ## Costs
abbrev IsBounded : Cost → Type 0
IsBounded c = (1 ≤ c.decides) × (c.decides ≤ c.calls)

accept_bounded : (again : Bool) → IsBounded (accept_cost again)
accept_bounded true = (omega arith, omega arith)
accept_bounded false = (omega arith, omega arith)

name_bounded : (accepted : Bool) → IsBounded (name_cost accepted)
name_bounded true = (omega arith, omega arith)
name_bounded false = (omega arith, omega arith)

append_bounded : (cut : Cut) (gs : List Segment) (start : ℕ) (bodies : List (List ℕ)) → IsBounded (cost_of cut gs (Append start bodies))
append_bounded cuts.Old gs start bodies = (omega arith, omega arith)
append_bounded cuts.New gs start bodies = (omega arith, omega arith)
append_bounded cuts.A5 gs start bodies = (omega arith, omega arith)

-- an effect is decided by one of its calls
bounded : (cut : Cut) (gs : List Segment) (e : Effect) → IsBounded (cost_of cut gs e)
bounded cut gs (Promise epoch) = (omega arith, omega arith)
bounded cut gs (WriterEpoch epoch) = (omega arith, omega arith)
bounded cut gs (Commit txid) = (omega arith, omega arith)
bounded cut gs (NewSegment start epoch) = (omega arith, omega arith)
bounded cut gs (Append start bodies) = append_bounded cut gs start bodies
bounded cut gs (Replace epoch batch) = accept_bounded (has_record_of epoch (find_segment batch.first gs))
bounded cut gs (MakeFinal start) = name_bounded (has_record (find_segment start gs))
bounded cut gs (Remove start) = name_bounded (has_record (find_segment start gs))

calls_front : (f : Effect → Cost) (r : Request) (done : List DurableEffect) (d : DurableEffect) (later : List DurableEffect)
    → calls_of (map f (effects_by r (done ++ d ∷ later))) ≡ calls_of (map f (effects_by r done)) + ((f (effect_of r d)).calls + calls_of (map f (effects_by r later)))
calls_front f r [] d later = omega arith
calls_front f r (x ∷ done) d later = omega (arith, calls_front f r done d later)

abbrev one_if : Bool → ℕ
one_if true = 1
one_if false = 0

-- no call was made for these
none_stand : (f : Effect → Cost) → ((e : Effect) → IsBounded (f e)) → (es : List Effect) → standing 0 (map f es) ≡ 0
unfolding standing
none_stand f all [] = refl
none_stand f all (e ∷ es) = by (nat_le (f e).decides 0) refl
  where
    by : (b : Bool) → nat_le (f e).decides 0 ≡ b → (if b then suc (standing (0 - (f e).calls) (map f es)) else 0) ≡ 0
    by true is = absurd (let le : (f e).decides ≤ 0 = grind arith in omega (arith, le, (all e).0))
    by false is = refl

standing_first : (c : Cost) (cs : List Cost) (j : ℕ) → j < c.calls → standing 0 cs ≡ 0 → standing j (c ∷ cs) ≡ one_if (nat_le c.decides j)
unfolding standing
standing_first c cs j few none = by (nat_le c.decides j)
  where
    by : (b : Bool) → (if b then suc (standing (j - c.calls) cs) else 0) ≡ one_if b
    by true = let zero_left : j - c.calls ≡ 0 = omega (arith, few) in ap (λ (n : ℕ). suc (standing n cs)) zero_left ∙ ap (λ (n : ℕ). suc n) none
    by false = refl

standing_more : (c : Cost) (cs : List Cost) (j : ℕ) → c.decides ≤ c.calls → standing (c.calls + j) (c ∷ cs) ≡ suc (standing j cs)
unfolding standing
standing_more c cs j le =
    let yes_ : nat_le c.decides (c.calls + j) ≡ true = le-leb c.decides (c.calls + j) (omega (arith, le)) in
    let rest : c.calls + j - c.calls ≡ j = omega arith in
    ap (λ (b : Bool). if b then suc (standing (c.calls + j - c.calls) cs) else 0) yes_ ∙ ap (λ (n : ℕ). suc (standing n cs)) rest

standing_front : (f : Effect → Cost) → ((e : Effect) → IsBounded (f e))
    → (r : Request) (done : List DurableEffect) (d : DurableEffect) (later : List DurableEffect) (j : ℕ) → j < (f (effect_of r d)).calls
    → standing (calls_of (map f (effects_by r done)) + j) (map f (effects_by r (done ++ d ∷ later))) ≡ length done + one_if (nat_le (f (effect_of r d)).decides j)
standing_front f all r [] d later j few =
    ap (λ (n : ℕ). standing n (map f (effects_by r (d ∷ later)))) (let e : 0 + j ≡ j = omega arith in e)
    ∙ standing_first (f (effect_of r d)) (map f (effects_by r later)) j few (none_stand f all (effects_by r later))
    ∙ (let e : one_if (nat_le (f (effect_of r d)).decides j) ≡ 0 + one_if (nat_le (f (effect_of r d)).decides j) = omega arith in e)
standing_front f all r (x ∷ done) d later j few =
    let c = f (effect_of r x) in
    let so_far = calls_of (map f (effects_by r done)) in
    ap (λ (n : ℕ). standing n (map f (effects_by r (x ∷ (done ++ d ∷ later))))) (let e : c.calls + so_far + j ≡ c.calls + (so_far + j) = omega arith in e)
    ∙ standing_more c (map f (effects_by r (done ++ d ∷ later))) (so_far + j) (all (effect_of r x)).1
    ∙ ap (λ (n : ℕ). suc n) (standing_front f all r done d later j few)
    ∙ (let e : suc (length done + one_if (nat_le (f (effect_of r d)).decides j)) ≡ suc (length done) + one_if (nat_le (f (effect_of r d)).decides j) = omega arith in e)

-- the state after the effects that are done, or after one more
either_front : (P : NodeState → Type 0) (s : NodeState) (r : Request) (ds done : List DurableEffect) (d : DurableEffect) (later : List DurableEffect)
    → ds ≡ done ++ (d ∷ later) → (t : NodeState) → t ≡ after_effects s (effects_by r done) → (b : Bool)
    → P (if b then after_effect t (effect_of r d) else t) → P (after_effects s (take (length done + one_if b) (effects_by r ds)))
either_front P s r ds done d later all t is true p =
    let next : ds ≡ (done ++ d ∷ []) ++ later = all ∙ sym (append_assoc done (d ∷ []) later) in
    let more : length (done ++ d ∷ []) ≡ length done + 1 = length-append done (d ∷ []) in
    subst P (behind_next s r done d t is ∙ ap (after_effects s) (sym (front_is r ds (done ++ d ∷ []) later next)) ∙ ap (λ (n : ℕ). after_effects s (take n (effects_by r ds))) more) p
either_front P s r ds done d later all t is false p =
    let same : length done ≡ length done + 0 = omega arith in
    subst P (is ∙ ap (after_effects s) (sym (front_is r ds done (d ∷ later) all)) ∙ ap (λ (n : ℕ). after_effects s (take n (effects_by r ds))) same) p

either_left : (c : Files) (rows : List SegmentRow) (t u : NodeState) (b : Bool) → AreSound t.segments → AreSound u.segments
    → Covers rows t.segments × Covers rows u.segments → StandsAs c (if b then u else t) → held.IsLeft c rows (if b then u else t)
either_left c rows t u true soundt soundu covers stands = record { stands = stands; sound = soundu; covers = covers.1 }
either_left c rows t u false soundt soundu covers stands = record { stands = stands; sound = soundt; covers = covers.0 }

-- ## At an effect that failed
module _ {told tells : Type 0} {v0 v : View} {m0 m : NodeState} {rows0 rows : List SegmentRow} {r : Request} {ds done : List DurableEffect} {d : DurableEffect} {later : List DurableEffect}
    {f0 f : ℕ} {was_steady is_steady : Type 0} {left0 left : Option ℕ}
    (way : IsUnderWay told tells v0 v m0 m rows0 rows r ds done (d ∷ later) f0 f was_steady is_steady left0 left) where
  pub failed_rows : (rows1 : List SegmentRow) → ((gs : List Segment) → Tells gs rows → IsDue gs rows r d
      → Tells gs rows1 ⊎ Tells (segments_after gs (effect_of r d)) rows1) → (gs : List Segment) × Tells gs rows1
  failed_rows rows1 either = by (either way.noted.0 way.noted.1 way.noted.2.0)
    where
      by : Tells way.noted.0 rows1 ⊎ Tells (segments_after way.noted.0 (effect_of r d)) rows1 → (gs : List Segment) × Tells gs rows1
      by (inl was) = (way.noted.0, was)
      by (inr is) = (segments_after way.noted.0 (effect_of r d), is)

  pub failed_rest : (m1 : NodeState) → m1 ≡ m → (m1.known ≡ m0.known) × (m1.opened ≡ m0.opened) × (m1.serial ≡ m0.serial) × (m1.up ≡ m0.up)
  failed_rest m1 same = let rest = rest_noted m0 m1 (effects_by r done) (same ∙ way.memory) in (rest.known, rest.opened, rest.serial, rest.up)

  pub can_here : (t : told) (s : NodeState) (can : CanDoAll v0 m0 rows0 s r ds) → CanDo v m rows (way.so_far t s can).state r d
  can_here t s can = can_now v0 v m rows0 rows s r ds done d later can.open_ left0 left way.all (way.so_far t s can)

  module _ (v1 : View) (rows1 : List SegmentRow) (left1 : Option ℕ) (result : Result (Unit {0}) DiskFail) where
    pub run_moments : (tells → (t : NodeState) → CanDo v m rows t r d → Does t (after_effect t (effect_of r d)) result v v1) → told → (s : NodeState)
        → CanDoAll v0 m0 rows0 s r ds → LeavesOnly v0 v1 (StandsStopped s (effects_by r ds))
    run_moments effect t s can = moments_then v0 v m rows0 rows s r ds done d later can.open_ left0 left way.all (way.so_far t s can) result v1
        (effect (way.tells_on.0 t) (way.so_far t s can).state (can_here t s can))

    pub failed_leaves : (tells → (t : NodeState) → CanDo v m rows t r d → AllLeave v1 (MayLeave rows1 t (after_effect t (effect_of r d)))) → told → (s : NodeState) → CanDoAll v0 m0 rows0 s r ds
        → AllLeave v1 (λ c. LeftStopped c rows1 s (effects_by r ds))
    failed_leaves leaves t s can c now = by (leaves (way.tells_on.0 t) (way.so_far t s can).state (can_here t s can) c now)
      where
        next : ds ≡ (done ++ d ∷ []) ++ later
        next = next_all v0 v m rows0 rows s r ds done d later can.open_ left0 left way.all (way.so_far t s can)

        by : MayLeave rows1 (way.so_far t s can).state (after_effect (way.so_far t s can).state (effect_of r d)) c → LeftStopped c rows1 s (effects_by r ds)
        by (inl was) = record {
          count = length done;
          within = front_within r ds done (d ∷ later) way.all;
          left = subst (λ (x : NodeState). held.IsLeft c rows1 x) ((way.so_far t s can).state_is ∙ ap (after_effects s) (sym (front_is r ds done (d ∷ later) way.all))) was;
        }
        by (inr is) = record {
          count = length (done ++ d ∷ []);
          within = front_within r ds (done ++ d ∷ []) later next;
          left = subst (λ (x : NodeState). held.IsLeft c rows1 x) (next_is v0 v m rows0 rows s r ds done d later can.open_ left0 left way.all
              (way.so_far t s can) ∙ ap (after_effects s) (sym (front_is r ds (done ++ d ∷ []) later next))) is;
        }

    module _ (effect : tells → (t : NodeState) → CanDo v m rows t r d → Does t (after_effect t (effect_of r d)) result v v1)
        (counts : tells → (t : NodeState) → CanDo v m rows t r d → (cut : Cut) → IsCounted (cost_of cut t.segments (effect_of r d)).calls left left1 result)
        (t : told) (s : NodeState) (can : CanDoAll v0 m0 rows0 s r ds) (keep : KeepCosts s.segments (effects_by r ds)) (cut : Cut) where
      abbrev here : SoFar v0 v m rows0 rows s r ds done (d ∷ later) can.open_ left0 left
      here = way.so_far t s can

      abbrev cost : CostSoFar s here.state r done (d ∷ later) left0 left
      cost = here.costs keep

      count : IsCounted (cost_of cut here.state.segments (effect_of r d)).calls left left1 result
      count = counts (way.tells_on.0 t) here.state (can_here t s can) cut

      same_cost : cost_of cut here.state.segments (effect_of r d) ≡ cost_of cut s.segments (effect_of r d)
      same_cost = head_cost v0 v m rows0 rows s r ds done d later can.open_ left0 left way.all here result v1
          (effect (way.tells_on.0 t) here.state (can_here t s can)) left1 (counts (way.tells_on.0 t) here.state (can_here t s can)) cost cut

      pub failed_counts : IsErr result → IsCounted (calls_of (map (cost_of cut s.segments) (effects_by r ds))) left0 left1 result
      failed_counts err =
          let total = ap (λ (xs : List DurableEffect). calls_of (map (cost_of cut s.segments) (effects_by r xs))) way.all ∙ calls_front (cost_of cut s.segments) r done d later in
          let calls = ap (λ (c : Cost). c.calls) same_cost in
          counted_off (cost_of cut here.state.segments (effect_of r d)).calls (calls_of (map (cost_of cut s.segments) (effects_by r done))) left0 left left1 result (cost.passed cut) count
          (calls_of (map (cost_of cut s.segments) (effects_by r ds))) (omega (arith, total, calls)) err

      -- fewer calls were left than the effect has
      few_left : (j : ℕ) → left ≡ Some j → IsErrOf result Failed → j < (cost_of cut s.segments (effect_of r d)).calls
      few_left j is failed = subst (λ (c : Cost). j < c.calls) same_cost (⊎_elim (λ few. few)
          (λ enough. absurd ((count.counts (j - n) (is ∙ ap (λ (x : ℕ). Some x) (let e : j ≡ n + (j - n) = omega (arith, enough) in e))).0 failed)) (cases_lt j n))
        where
          n : ℕ
          n = (cost_of cut here.state.segments (effect_of r d)).calls

    pub failed_cut : (tells → (t : NodeState) → CanDo v m rows t r d → Does t (after_effect t (effect_of r d)) result v v1)
        → (tells → (t : NodeState) → CanDo v m rows t r d → (cut : Cut) → IsCounted (cost_of cut t.segments (effect_of r d)).calls left left1 result)
        → (tells → (t : NodeState) → CanDo v m rows t r d → IsCutAt (λ cut. cost_of cut t.segments (effect_of r d)) t (after_effect t (effect_of r d)) left result v1)
        → ((gs : List Segment) → Tells gs rows → IsDue gs rows r d → IsErrOf result Failed → Covers rows1 gs × Covers rows1 (segments_after gs (effect_of r d)))
        → told → (s : NodeState) → CanDoAll v0 m0 rows0 s r ds → KeepCosts s.segments (effects_by r ds) → IsCutAmong s (effects_by r ds) left0 result v1 rows1
    failed_cut effect counts at_cut covers t s can keep = record {
      stands = λ k is failed cut c chosen.
          let so = way.so_far t s can in
          let passed = ((so.costs keep).passed cut).each k is in
          let few : passed.0 < (cost_of cut s.segments (effect_of r d)).calls = few_left effect counts t s can keep cut passed.0 passed.2 failed in
          let here = subst (λ (x : Cost). StandsAs c (if nat_le x.decides passed.0 then after_effect so.state (effect_of r d) else so.state)) (same_cost effect counts t s can keep cut)
          ((at_cut (way.tells_on.0 t) so.state (can_here t s can)).stands passed.0 passed.2 failed cut c chosen) in
          let count : standing k (map (cost_of cut s.segments) (effects_by r ds)) ≡ length done + one_if (nat_le (cost_of cut s.segments (effect_of r d)).decides passed.0) =
          ap (λ (n : ℕ). standing n (map (cost_of cut s.segments) (effects_by r ds))) passed.1
          ∙ ap (λ (xs : List DurableEffect). standing (calls_of (map (cost_of cut s.segments) (effects_by r done)) + passed.0) (map (cost_of cut s.segments) (effects_by r xs))) way.all
          ∙ standing_front (cost_of cut s.segments) (bounded cut s.segments) r done d later passed.0 few in
          let both : Bool = nat_le (cost_of cut s.segments (effect_of r d)).decides passed.0 in
          let is_left = either_left c rows1 so.state (after_effect so.state (effect_of r d)) both so.held.sound
          (sound_after r d so.state.segments rows so.held.sound so.due.0) (covers so.state.segments so.held.told so.due.0 failed) here in
          subst (λ (n : ℕ). held.IsLeft c rows1 (after_effects s (take n (effects_by r ds)))) (sym count)
          (either_front (λ (x : NodeState). held.IsLeft c rows1 x) s r ds done d later way.all so.state so.state_is both is_left);
    }

-- ## After the last
module _ {told tells : Type 0} {v0 v : View} {m0 m : NodeState} {rows0 rows : List SegmentRow} {r : Request} {ds done later : List DurableEffect}
    {f0 f : ℕ} {was_steady is_steady : Type 0} {left0 left : Option ℕ}
    (way : IsUnderWay told tells v0 v m0 m rows0 rows r ds done later f0 f was_steady is_steady left0 left) (none : later ≡ []) where
  done_all : done ≡ ds
  done_all = sym (append-nil done) ∙ ap (λ (xs : List DurableEffect). done ++ xs) (sym none) ∙ sym way.all

  pub ended_memory : m ≡ state_with (after_effects m0 (effects_by r ds)) m0.segments
  ended_memory = way.memory ∙ ap (λ (xs : List DurableEffect). state_with (after_effects m0 (effects_by r xs)) m0.segments) done_all

  pub ended_rest : (m.known ≡ m0.known) × (m.opened ≡ m0.opened) × (m.serial ≡ m0.serial) × (m.up ≡ m0.up)
  ended_rest = let rest = rest_noted m0 m (effects_by r done) way.memory in (rest.known, rest.opened, rest.serial, rest.up)

  module _ (t : told) (s : NodeState) (can : CanDoAll v0 m0 rows0 s r ds) where
    abbrev so : SoFar v0 v m rows0 rows s r ds done later can.open_ left0 left
    so = way.so_far t s can

    state_then : so.state ≡ after_effects s (effects_by r ds)
    state_then = so.state_is ∙ ap (λ (xs : List DurableEffect). after_effects s (effects_by r xs)) done_all

    pub ended_moments : LeavesOnly v0 v (StandsStopped s (effects_by r ds))
    ended_moments = so.moments

    pub ended_held : IsHeld v m rows (after_effects s (effects_by r ds))
    ended_held = subst (λ (x : NodeState). IsHeld v m rows x) state_then so.held

    pub ended_opened : (o : Option ℕ) → EndOpen (OpenedAt v0 s.segments rows0 o) o ds → OpenedAt v (after_effects s (effects_by r ds)).segments rows o
    ended_opened o ends =
        subst (λ (x : NodeState). OpenedAt v x.segments rows o) state_then
        (subst (λ (xs : List DurableEffect). EndOpen (OpenedAt v so.state.segments rows o) o xs) none (so.opened o ends))

    pub ended_counts : KeepCosts s.segments (effects_by r ds) → (cut : Cut) (result : Result (Unit {0}) DiskFail) → result ≡ Ok tt
        → IsCounted (calls_of (map (cost_of cut s.segments) (effects_by r ds))) left0 left result
    ended_counts keep cut result ok =
        let total = ap (λ (xs : List DurableEffect). calls_of (map (cost_of cut s.segments) (effects_by r xs))) done_all in
        subst (λ (x : Result (Unit {0}) DiskFail). IsCounted (calls_of (map (cost_of cut s.segments) (effects_by r ds))) left0 left x) (sym ok) record {
          stops = λ k is few. let passed = ((so.costs keep).passed cut).each k is in absurd (omega (arith, passed.1, few, total));
          counts = λ k is.
              let passed = ((so.costs keep).passed cut).each (calls_of (map (cost_of cut s.segments) (effects_by r ds)) + k) is in
              (λ failed. absurd (cc), passed.2 ∙ ap (λ (n : ℕ). Some n) (let e : passed.0 ≡ k = omega (arith, passed.1, total) in e));
        }

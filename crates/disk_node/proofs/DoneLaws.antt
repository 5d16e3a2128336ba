-- Effects done one after the other, as far as they are done.
use Rattle.std.proofs.Common.{inl, inr, ⊎_elim, ◌≡◌, ◌⊎◌, ◌↔◌, ℕ, ◌≤◌, ◌<◌, ◌+◌, ◌++◌, List, [], ◌∷◌, length, take, drop, map, Option, refl, sym, ap}
use Rattle.std.proofs.Common.{subst, ◌∙◌, arith, get_or, length-append, append_assoc}
use Rattle.std.specs.Prelude.{Result, IsOk}
use Rattle.std.specs.List.{take-map}
use Rattle.std.proofs.Math.Seq.{take-append_seam}
use Rattle.std.proofs.lemmas.List.{length-map, map-append, take_more, drop_more}
use Rattle.base_disk.specs.Files.{Files}
use Rattle.base_disk.specs.View.{View, IsSound, LeavesOnly}
use Rattle.base_disk.specs.Calls.{HasCause}
use Rattle.base_disk.specs.Runs.{joined, weaker}
use Rattle.base_disk.specs.Moments.{started}
use Rattle.base_disk.specs.declared.disk.DiskFail.{DiskFail}
use Rattle.base_disk.proofs.Causes.{none_at_ok}
use Rattle.journal_core.specs.declared.cut.Cut.{Cut}
use Rattle.journal_core.specs.declared.segment.Segment.{Segment}
use Rattle.journal_core.specs.declared.node_state.NodeState.{NodeState}
use Rattle.journal_core.specs.declared.request.Request.{Request}
use Rattle.journal_core.specs.Effects.{Effect, after_effect, after_effects, segments_after}
use Rattle.journal_core.specs.Cuts.{Cost, cost_of}
use Rattle.journal_core.proofs.NodeLaws.{after-append}
use Rattle.disk_segment.specs.Effects.{IsCounted}
use Rattle.disk_segment.specs.declared.segment_row.SegmentRow.{SegmentRow}
use Rattle.disk_segment.proofs.SealLemmas.{Passed, passed_none}
use Rattle.disk_segment.proofs.Counts.{passed_on}
use Rattle.disk_files.specs.Durable.{StandsAs}
use Rattle.disk_files.specs.EffectCalls.{Does}
use Rattle.disk_effects.specs.Told.{Tells, state_with}
use Rattle.disk_effects.specs.Due.{effect_of, IsDue, AreDue, rows_after}
use Rattle.disk_node.specs.Held.{IsHeld, OpenedAt, StandsStopped, numbers_after, Opens, Spares}
use Rattle.disk_node.specs.Doing.{place_after, HasPlace, CanDo}
use Rattle.disk_node.specs.Done.{effects_by, GoesTo, AppendWithin, CanDoAll, EndOpen, KeepCosts, calls_of}
use Rattle.journal_step.specs.declared.durable_effect.DurableEffect.{DurableEffect}
use Rattle.journal_step.specs.declared.durable_effect.DurableEffect.TheVariants as durable
use Rattle.disk_node.proofs.DoingEffect.{stands_now}

-- the calls of the effects that are done, and the costs of the others
pub record CostSoFar (s t : NodeState) (r : Request) (done later : List DurableEffect) (left0 left : Option ℕ) : Type 0 where
  pub keep : KeepCosts t.segments (effects_by r later)
  pub same : (cut : Cut) → map (cost_of cut t.segments) (effects_by r later) ≡ map (cost_of cut s.segments) (effects_by r later)
  pub passed : (cut : Cut) → Passed (calls_of (map (cost_of cut s.segments) (effects_by r done))) left0 left

-- a disk that tells its bytes, after the effects that are done
pub record SoFar (v0 v : View) (m : NodeState) (rows0 rows : List SegmentRow) (s : NodeState) (r : Request) (ds done later : List DurableEffect)
    (open_ : Option ℕ) (left0 left : Option ℕ) : Type 0 where
  pub state : NodeState
  pub state_is : state ≡ after_effects s (effects_by r done)
  pub held : IsHeld v m rows state
  pub due : AreDue state.segments rows r later
  pub is_open : OpenedAt v state.segments rows open_
  pub within : AppendWithin open_ later
  pub moments : LeavesOnly v0 v (StandsStopped s (effects_by r ds))
  pub opened : (o : Option ℕ) → EndOpen (OpenedAt v0 s.segments rows0 o) o ds → EndOpen (OpenedAt v state.segments rows o) o later
  pub costs : KeepCosts s.segments (effects_by r ds) → CostSoFar s state r done later left0 left

pub record IsUnderWay (told tells : Type 0) (v0 v : View) (m0 m : NodeState) (rows0 rows : List SegmentRow) (r : Request)
    (ds done later : List DurableEffect) (f0 f : ℕ) (was_steady is_steady : Type 0) (left0 left : Option ℕ) : Type 0 where
  pub all : ds ≡ done ++ later
  pub tells_on : told ↔ tells
  pub noted : (gs : List Segment) × Tells gs rows × AreDue gs rows r later
  pub memory : m ≡ state_with (after_effects m0 (effects_by r done)) m0.segments
  pub so_far : told → (s : NodeState) (can : CanDoAll v0 m0 rows0 s r ds) → SoFar v0 v m rows0 rows s r ds done later can.open_ left0 left
  pub same : f ≡ f0
  pub steady : was_steady → is_steady

-- ## The first effects
pub front_is : (r : Request) (ds done later : List DurableEffect) → ds ≡ done ++ later → take (length done) (effects_by r ds) ≡ effects_by r done
front_is r ds done later all = take-map (effect_of r) (length done) ds ∙ ap (map (effect_of r)) (ap (take (length done)) all ∙ take-append_seam done later)

pub front_within : (r : Request) (ds done later : List DurableEffect) → ds ≡ done ++ later → length done ≤ length (effects_by r ds)
front_within r ds done later all = omega (arith, length-map ds (effect_of r), length-append done later, ap length all)

pub stopped_at : (s : NodeState) (r : Request) (ds done later : List DurableEffect) → ds ≡ done ++ later → (t : NodeState)
    → t ≡ after_effects s (effects_by r done) → (c : Files) → StandsAs c t → StandsStopped s (effects_by r ds) c
stopped_at s r ds done later all t is c stands = record {
  count = length done;
  within = front_within r ds done later all;
  stands = subst (λ (x : NodeState). StandsAs c x) (is ∙ ap (after_effects s) (sym (front_is r ds done later all))) stands;
}

pub behind_next : (s : NodeState) (r : Request) (done : List DurableEffect) (d : DurableEffect) (t : NodeState)
    → t ≡ after_effects s (effects_by r done) → after_effect t (effect_of r d) ≡ after_effects s (effects_by r (done ++ d ∷ []))
unfolding after_effects
behind_next s r done d t is =
    ap (λ (x : NodeState). after_effect x (effect_of r d)) is
    ∙ sym (after-append (effects_by r done) (effect_of r d ∷ []) s)
    ∙ ap (after_effects s) (sym (map-append (effect_of r) done (d ∷ [])))

-- what no effect changes
pub record SameRest (m0 m : NodeState) : Type 0 where
  pub known : m.known ≡ m0.known
  pub opened : m.opened ≡ m0.opened
  pub serial : m.serial ≡ m0.serial
  pub up : m.up ≡ m0.up

rest_same : (es : List Effect) (m : NodeState) → SameRest m (after_effects m es)
unfolding after_effects
rest_same [] m = record { known = refl; opened = refl; serial = refl; up = refl }
rest_same (e ∷ es) m = let more = rest_same es (after_effect m e) in record { known = more.known; opened = more.opened; serial = more.serial; up = more.up }

pub rest_noted : (m0 m : NodeState) (es : List Effect) → m ≡ state_with (after_effects m0 es) m0.segments → SameRest m0 m
rest_noted m0 m es is = let rest = rest_same es m0 in record {
  known = ap (λ (x : NodeState). x.known) is ∙ rest.known;
  opened = ap (λ (x : NodeState). x.opened) is ∙ rest.opened;
  serial = ap (λ (x : NodeState). x.serial) is ∙ rest.serial;
  up = ap (λ (x : NodeState). x.up) is ∙ rest.up;
}

-- ## The open segment
pub end_weaker : (A B : Type 0) → (A → B) → (o : Option ℕ) (ds : List DurableEffect) → EndOpen A o ds → EndOpen B o ds
end_weaker A B f o [] is = f is
end_weaker A B f o (d ∷ ds) is = end_weaker (Opens o d ⊎ (Spares o d × A)) (Opens o d ⊎ (Spares o d × B)) (λ how. ⊎_elim (λ opens. inl opens) (λ kept. inr (kept.0, f kept.1)) how) o ds is

place_of : (v : View) (gs : List Segment) (rows : List SegmentRow) (open_ : Option ℕ) (d : DurableEffect) → OpenedAt v gs rows open_ → GoesTo open_ d → HasPlace v gs rows d
place_of v gs rows open_ (durable.Promise epoch) is goes = tt
place_of v gs rows open_ (durable.WriterEpoch epoch) is goes = tt
place_of v gs rows open_ (durable.Commit txid) is goes = tt
place_of v gs rows open_ (durable.NewSegment start epoch) is goes = tt
place_of v gs rows open_ (durable.Append start at) is goes = subst (λ (o : Option ℕ). OpenedAt v gs rows o) goes is
place_of v gs rows open_ (durable.Replace epoch again) is goes = tt
place_of v gs rows open_ (durable.MakeFinal start end accepted) is goes = tt
place_of v gs rows open_ (durable.Remove info) is goes = tt

-- ## Costs
pub calls_snoc : (f : Effect → Cost) (r : Request) (done : List DurableEffect) (d : DurableEffect)
    → calls_of (map f (effects_by r (done ++ d ∷ []))) ≡ calls_of (map f (effects_by r done)) + (f (effect_of r d)).calls
calls_snoc f r [] d = omega arith
calls_snoc f r (x ∷ done) d = omega (arith, calls_snoc f r done d)

-- ## Before the first
module _ {told : Type 0} {v0 : View} {m0 : NodeState} {rows0 : List SegmentRow} {r : Request} {ds : List DurableEffect} {f0 : ℕ} {was_steady : Type 0} {left0 : Option ℕ}
    (sound0 : told → IsSound v0) where
  pub begun : (gs : List Segment) × Tells gs rows0 × AreDue gs rows0 r ds → IsUnderWay told told v0 v0 m0 m0 rows0 rows0 r ds [] ds f0 f0 was_steady was_steady left0 left0
  unfolding after_effects
  begun noted = record {
    all = refl;
    tells_on = (λ t. t, λ t. t);
    noted = noted;
    memory = refl;
    so_far = λ t s can. record {
      state = s;
      state_is = refl;
      held = can.held;
      due = can.due;
      is_open = can.is_open;
      within = can.within;
      moments = started v0 (StandsStopped s (effects_by r ds)) (sound0 t) (λ c now. stopped_at s r ds [] ds refl s refl c (stands_now v0 s can.held.files c now));
      opened = λ o is. is;
      costs = λ keep. record { keep = keep; same = λ cut. refl; passed = λ cut. passed_none left0 };
    };
    same = refl;
    steady = λ is. is;
  }

-- ## One more
module _ (v0 v : View) (m : NodeState) (rows0 rows : List SegmentRow) (s : NodeState) (r : Request) (ds done : List DurableEffect) (d : DurableEffect)
    (later : List DurableEffect) (open_ : Option ℕ) (left0 left : Option ℕ) (all : ds ≡ done ++ (d ∷ later))
    (so : SoFar v0 v m rows0 rows s r ds done (d ∷ later) open_ left0 left) where
  pub can_now : CanDo v m rows so.state r d
  can_now = record { held = so.held; due = so.due.0; place = place_of v so.state.segments rows open_ d so.is_open so.within.0 }

  pub next_all : ds ≡ (done ++ d ∷ []) ++ later
  next_all = all ∙ sym (append_assoc done (d ∷ []) later)

  pub next_is : after_effect so.state (effect_of r d) ≡ after_effects s (effects_by r (done ++ d ∷ []))
  next_is = behind_next s r done d so.state so.state_is

  module _ (result : Result (Unit {0}) DiskFail) (v1 : View) (does : Does so.state (after_effect so.state (effect_of r d)) result v v1) where
    pub moments_then : LeavesOnly v0 v1 (StandsStopped s (effects_by r ds))
    moments_then =
        let either : Files → Type 0 = λ c. StandsAs c so.state ⊎ StandsAs c (after_effect so.state (effect_of r d)) in
        weaker v0 v1 (λ c. StandsStopped s (effects_by r ds) c ⊎ either c) (StandsStopped s (effects_by r ds))
        (λ c how. ⊎_elim (λ before. before)
        (λ now. ⊎_elim (λ was. stopped_at s r ds done (d ∷ later) all so.state so.state_is c was)
        (λ is. stopped_at s r ds (done ++ d ∷ []) later next_all (after_effect so.state (effect_of r d)) next_is c is) now) how)
        (joined v0 v v1 (StandsStopped s (effects_by r ds)) either so.moments does.any_moment)

    module _ (left1 : Option ℕ) (counts : (cut : Cut) → IsCounted (cost_of cut so.state.segments (effect_of r d)).calls left left1 result) where
      pub head_cost : (cost : CostSoFar s so.state r done (d ∷ later) left0 left) (cut : Cut) → cost_of cut so.state.segments (effect_of r d) ≡ cost_of cut s.segments (effect_of r d)
      head_cost cost cut = let p = cost.same cut in cc

      cost_then : IsOk result → CostSoFar s so.state r done (d ∷ later) left0 left → CostSoFar s (after_effect so.state (effect_of r d)) r (done ++ d ∷ []) later left0 left1
      cost_then ok cost = record {
        keep = cost.keep.1;
        same = λ cut. cost.keep.0 cut ∙ ap (drop 1) (cost.same cut);
        passed = λ cut. subst (λ (n : ℕ). Passed n left0 left1)
            (ap (λ (c : Cost). calls_of (map (cost_of cut s.segments) (effects_by r done)) + c.calls) (head_cost cost cut) ∙ sym (calls_snoc (cost_of cut s.segments) r done d))
            (passed_on (cost_of cut so.state.segments (effect_of r d)).calls (calls_of (map (cost_of cut s.segments) (effects_by r done))) left0 left left1 result (cost.passed cut) (counts cut) ok);
      }

      pub one_more : IsOk result → (m1 : NodeState) (rows1 : List SegmentRow) → rows1 ≡ rows_after r d (place_after r d) rows → IsHeld v1 m1 rows1 (after_effect so.state (effect_of r d))
          → ((o : Option ℕ) → Opens o d ⊎ (Spares o d × OpenedAt v so.state.segments rows o) → OpenedAt v1 (segments_after so.state.segments (effect_of r d)) rows1 o)
          → SoFar v0 v1 m1 rows0 rows1 s r ds (done ++ d ∷ []) later open_ left0 left1
      one_more ok m1 rows1 is held opened = record {
        state = after_effect so.state (effect_of r d);
        state_is = next_is;
        held = held;
        due = subst (λ (xs : List SegmentRow). AreDue (segments_after so.state.segments (effect_of r d)) xs r later) (sym is) (so.due.1 (place_after r d));
        is_open = opened open_ (inr (so.within.1, so.is_open));
        within = so.within.2;
        moments = moments_then;
        opened = λ o ends. end_weaker (Opens o d ⊎ (Spares o d × OpenedAt v so.state.segments rows o))
            (OpenedAt v1 (segments_after so.state.segments (effect_of r d)) rows1 o) (opened o) o later (so.opened o ends);
        costs = λ keep. cost_then ok (so.costs keep);
      }

-- ## The effects of a run
module _ {told tells : Type 0} {v0 v : View} {m0 m : NodeState} {rows0 rows : List SegmentRow} {r : Request} {ds done : List DurableEffect} {d : DurableEffect} {later : List DurableEffect}
    {f0 f : ℕ} {was_steady is_steady : Type 0} {left0 left : Option ℕ}
    (way : IsUnderWay told tells v0 v m0 m rows0 rows r ds done (d ∷ later) f0 f was_steady is_steady left0 left)
    {tells1 : Type 0} {v1 : View} {m1 : NodeState} {rows1 : List SegmentRow} {f1 : ℕ} {steady1 : Type 0} {left1 : Option ℕ} {result : Result (Unit {0}) DiskFail} (on : tells ↔ tells1)
    (effect : tells → (t : NodeState) → CanDo v m rows t r d → Does t (after_effect t (effect_of r d)) result v v1)
    (counts : tells → (t : NodeState) → CanDo v m rows t r d → (cut : Cut) → IsCounted (cost_of cut t.segments (effect_of r d)).calls left left1 result)
    (cause : HasCause f f1 is_steady steady1 result) where
  pub next_way : IsOk result → rows1 ≡ rows_after r d (place_after r d) rows
      → ((gs : List Segment) → Tells gs rows → IsDue gs rows r d → Tells (segments_after gs (effect_of r d)) rows1)
      → m1 ≡ numbers_after m (effect_of r d)
      → (tells → (t : NodeState) → CanDo v m rows t r d → IsHeld v1 m1 rows1 (after_effect t (effect_of r d)))
      → (tells → (t : NodeState) (o : Option ℕ) → CanDo v m rows t r d → Opens o d ⊎ (Spares o d × OpenedAt v t.segments rows o) → OpenedAt v1 (segments_after t.segments (effect_of r d)) rows1 o)
      → IsUnderWay told tells1 v0 v1 m0 m1 rows0 rows1 r ds (done ++ d ∷ []) later f0 f1 was_steady steady1 left0 left1
  next_way ok is rows_told numbers held opened = record {
    all = way.all ∙ sym (append_assoc done (d ∷ []) later);
    tells_on = (λ t. on.0 (way.tells_on.0 t), λ t. way.tells_on.1 (on.1 t));
    noted = (
      segments_after way.noted.0 (effect_of r d),
      rows_told way.noted.0 way.noted.1 way.noted.2.0,
      subst (λ (xs : List SegmentRow). AreDue (segments_after way.noted.0 (effect_of r d)) xs r later) (sym is) (way.noted.2.1 (place_after r d)),
    );
    memory = numbers ∙ ap (λ (x : NodeState). numbers_after x (effect_of r d)) way.memory
        ∙ ap (λ (x : NodeState). state_with x m0.segments) (behind_next m0 r done d (after_effects m0 (effects_by r done)) refl);
    so_far = λ t s can.
        let so = way.so_far t s can in
        let now = way.tells_on.0 t in
        let able = can_now v0 v m rows0 rows s r ds done d later can.open_ left0 left way.all so in
        one_more v0 v m rows0 rows s r ds done d later can.open_ left0 left way.all so result v1 (effect now so.state able) left1 (counts now so.state able) ok m1 rows1 is
        (held now so.state able) (λ o. opened now so.state o able);
    same = none_at_ok f f1 is_steady steady1 result cause ok ∙ way.same;
    steady = λ was. cause.steady (way.steady was);
  }

-- ## The place of a loop
module _ {told tells : Type 0} {v0 v : View} {m0 m : NodeState} {rows0 rows : List SegmentRow} {r : Request} {ds : List DurableEffect} {i : ℕ}
    {f0 f : ℕ} {was_steady is_steady : Type 0} {left0 left : Option ℕ} (d : DurableEffect) (lt : i < length ds) where
  pub way_here : IsUnderWay told tells v0 v m0 m rows0 rows r ds (take i ds) (drop i ds) f0 f was_steady is_steady left0 left
      → IsUnderWay told tells v0 v m0 m rows0 rows r ds (take i ds) (get_or ds i d ∷ drop (i + 1) ds) f0 f was_steady is_steady left0 left
  way_here way = subst (λ (xs : List DurableEffect). IsUnderWay told tells v0 v m0 m rows0 rows r ds (take i ds) xs f0 f was_steady is_steady left0 left) (drop_more ds i d lt) way

  pub way_next : IsUnderWay told tells v0 v m0 m rows0 rows r ds (take i ds ++ get_or ds i d ∷ []) (drop (i + 1) ds) f0 f was_steady is_steady left0 left
      → IsUnderWay told tells v0 v m0 m rows0 rows r ds (take (i + 1) ds) (drop (i + 1) ds) f0 f was_steady is_steady left0 left
  way_next way = subst (λ (xs : List DurableEffect). IsUnderWay told tells v0 v m0 m rows0 rows r ds xs (drop (i + 1) ds) f0 f was_steady is_steady left0 left) (sym (take_more ds i d lt)) way

-- What each call of the repair makes of all that a crash may leave.
use Rattle.std.proofs.Common.{inl, inr, ◌⊎◌, ◌≡◌, ◌≢◌, ℕ, ◌≤◌, ◌^◌, List, ap, sym, ◌∙◌, refl, subst, arith}
use Rattle.std.specs.Prelude.{Option, IsSome, Contains, Result, OnOk}
use Rattle.std.proofs.lemmas.Result.{on_ok_weaker}
use Rattle.base_disk.specs.Files.{Files, ChangesOnly, IsGone, Moves}
use Rattle.base_disk.specs.View.{View, IsSound, IsStable}
use Rattle.base_disk.specs.Calls.{Keeps, Rests, Atomic, Happens}
use Rattle.base_disk.specs.declared.disk.DiskFail.{DiskFail}
use Rattle.base_disk.specs.Runs.{quiet_start, quiet_call, quiet_keeps, joined, weaker}
use Rattle.disk_segment.specs.Names.{Kind, InProgress, Final, Record, UnderWay, name_of, IsKind, IsLasting}
use Rattle.disk_opening.specs.Kinds.{IsNamed}
use Rattle.disk_segment.specs.Stands.{HasEpoch}
use Rattle.disk_opening.specs.Opening.{Settled, SegmentsStable}
use Rattle.disk_opening.specs.Completing.{Mends, Cleans, HasFinal, AreFinals, IsWay, IsProgress, IsLeftOver, NoName, Clears}
use Rattle.disk_segment.proofs.Frame.{kinds_apart}
use Rattle.disk_segment.proofs.NamesLemmas.{same_start, same_kind}
use Rattle.disk_opening.proofs.RepairLemmas.{names_cases, cleans_none, cleans_then, renamed, FinalThere, way_gone, way_moved, left_gone}

-- a file that counts is stable
pub stable_file : (v : View) → SegmentsStable v → (start : ℕ) (kind : Kind) → 1 ≤ start → start ≤ 2 ^ 62 → IsKind start kind → IsLasting kind → IsStable (name_of start kind) v
stable_file v all start kind first small ok lasts = all.each (name_of start kind)
    record { start = start; kind = kind; named = record { first = first; small = small; valid = ok; spelled = refl }; lasting = lasts }

same_settled : (v w : View) (name : List ℕ) → Settled v name → ((c : Files) → IsStable name v → w.may_leave c → c name ≡ w.seen name) → Settled w name
same_settled v w name settled stays = λ own c left. stays c (settled own) left

pub keeps_stable : (v w : View) → Keeps v w → SegmentsStable v → SegmentsStable w
keeps_stable v w keeps all = record { each = λ name. same_settled v w name (all.each name) (λ c stable left. stable c (keeps.crash c left) ∙ sym (ap (λ (f : Files). f name) keeps.seen)) }

pub gone_stable : (v w : View) (name : List ℕ) → Happens (ChangesOnly name IsGone) v w → SegmentsStable v → SegmentsStable w
gone_stable v w name happens all = record { each = λ other. by other (names_cases other name) }
  where
    by : (other : List ℕ) → (other ≡ name) ⊎ (other ≢ name) → Settled w other
    by other (inl is) = λ own c left. let from = happens.crash c left in ap c is ∙ from.2.here ∙ sym (ap w.seen is ∙ happens.seen.here)
    by other (inr ne) = same_settled v w other (all.each other) (λ c stable left. let from = happens.crash c left in from.2.others other ne ∙ stable from.0 from.1 ∙ sym (happens.seen.others other ne))

moved_stable : (v w : View) (from to : List ℕ) → from ≢ to → IsStable from v → Happens (Moves from to) v w → SegmentsStable v → SegmentsStable w
moved_stable v w from to apart stable_from happens all = record { each = λ other. by other (names_cases other from) (names_cases other to) }
  where
    by : (other : List ℕ) → (other ≡ from) ⊎ (other ≢ from) → (other ≡ to) ⊎ (other ≢ to) → Settled w other
    by other (inl is) to_is = λ own c left. let step = happens.crash c left in ap c is ∙ step.2.gone apart ∙ sym (ap w.seen is ∙ happens.seen.gone apart)
    by other (inr ne) (inl is) = λ own c left. let step = happens.crash c left in ap c is ∙ step.2.moved ∙ stable_from step.0 step.1 ∙ sym (ap w.seen is ∙ happens.seen.moved)
    by other (inr ne) (inr ne_to) = same_settled v w other (all.each other)
        (λ c stable left. let step = happens.crash c left in step.2.others other ne ne_to ∙ stable step.0 step.1
        ∙ sym (happens.seen.others other ne ne_to))

pub mends_keeps : (v w : View) → IsSound v → Keeps v w → SegmentsStable v → Mends v w
mends_keeps v w sound keeps all = record {
  quiet = quiet_keeps Cleans v v w (quiet_start Cleans v sound (λ c now. cleans_none c)) keeps;
  stable = keeps_stable v w keeps all;
}

-- one repair after another
pub mends_then : (u v w : View) → Mends u v → Mends v w → Mends u w
mends_then u v w one two = record {
  quiet = record {
    moments = weaker u w (λ c. ((d : Files) × u.may_leave d × Cleans d c) ⊎ ((d : Files) × v.may_leave d × Cleans d c)) (λ c. (d : Files) × u.may_leave d × Cleans d c)
        (λ c either. by c either)
        (joined u v w (λ c. (d : Files) × u.may_leave d × Cleans d c) (λ c. (d : Files) × v.may_leave d × Cleans d c) one.quiet.moments two.quiet.moments);
    now = λ c left. let from = two.quiet.now c left in back c from.0 from.1 from.2;
    seen = cleans_then u.seen v.seen w.seen one.quiet.seen two.quiet.seen;
  };
  stable = two.stable;
}
  where
    back : (c d : Files) → v.may_leave d → Cleans d c → (e : Files) × u.may_leave e × Cleans e c
    back c d left repairs = let from = one.quiet.now d left in (from.0, from.1, cleans_then from.0 d c from.2 repairs)

    by : (c : Files) → ((d : Files) × u.may_leave d × Cleans d c) ⊎ ((d : Files) × v.may_leave d × Cleans d c) → (d : Files) × u.may_leave d × Cleans d c
    by c (inl from) = from
    by c (inr from) = back c from.0 from.1 from.2

-- a call that is all or nothing
mends_by : (step : Files → Files → Type 0) {T : Type 0} (r : Result T DiskFail) (v w : View) → IsSound v → SegmentsStable v → Atomic step r v w
    → ((d c : Files) → v.may_leave d → step d c → Cleans d c) → (Happens step v w → SegmentsStable w) → Mends v w
mends_by step r v w sound all atomic repairs stable = by atomic.failed
  where
    by : Happens step v w ⊎ Keeps v w → Mends v w
    by (inl happens) = record {
      quiet = quiet_call Cleans v v w step sound sound (quiet_start Cleans v sound (λ c now. cleans_none c)) atomic.time happens.crash happens.seen
          (λ d e c from mid so_far step. cleans_then d e c so_far (repairs e c mid step));
      stable = stable happens;
    }
    by (inr keeps) = mends_keeps v w sound keeps all

-- a final file that is read is there after each crash
final_there : (v : View) → SegmentsStable v → (start : ℕ) → HasFinal start v.seen → (d : Files) → v.may_leave d → FinalThere start d
final_there v all start final d left = record {
  last = final.is.last;
  valid = final.is.named.valid;
  there = subst IsSome (sym (stable_file v all start (Final final.is.last) final.is.named.first final.is.named.small final.is.named.valid tt d left))
      (subst (λ (name : List ℕ). IsSome (v.seen name)) final.is.named.spelled final.there);
}

-- a name has one meaning
pub one_start : (name : List ℕ) (s t : ℕ) (j k : Kind) → IsNamed name s j → IsNamed name t k → s ≡ t
one_start name s t j k one two = same_start s t j k one.small two.small (sym one.spelled ∙ two.spelled)

pub one_kind : (name : List ℕ) (s t : ℕ) (j k : Kind) → IsNamed name s j → IsNamed name t k → j ≡ k
one_kind name s t j k one two =
    let at_t : IsNamed name t j = subst (λ (n : ℕ). IsNamed name n j) (one_start name s t j k one two) one in
    same_kind t j k at_t.valid two.valid (sym at_t.spelled ∙ two.spelled)

-- the content of an acceptance is handled, after calls that only read
module _ (v0 v1 w : View) (sound0 : IsSound v0) (sound1 : IsSound v1) (rests : Rests v0 v1) (way : List ℕ) (start epoch : ℕ)
    (named : IsNamed way start (UnderWay epoch)) {T : Type 0} (r : Result T DiskFail) where
  first_mends : SegmentsStable v0 → Mends v0 v1
  first_mends all = mends_keeps v0 v1 sound0 rests.keeps all

  at_read : (P : Files → Type 0) → P v0.seen → P v1.seen
  at_read P is = subst P (sym rests.keeps.seen) is

  epoch_left : SegmentsStable v1 → (d : Files) → v1.may_leave d → d (name_of start Record) ≡ v1.seen (name_of start Record)
  epoch_left all d left = stable_file v1 all start Record named.first named.small tt tt d left

  way_left : SegmentsStable v1 → (d : Files) → v1.may_leave d → d way ≡ v1.seen way
  way_left all d left = ap d named.spelled ∙ stable_file v1 all start (UnderWay epoch) named.first named.small named.valid tt d left ∙ sym (ap v1.seen named.spelled)

  way_apart : way ≢ name_of start InProgress
  way_apart same = kinds_apart start InProgress (UnderWay epoch) tt named.valid (λ is. absurd (cc)) (sym named.spelled ∙ same)

  module _ (moves : Atomic (Moves way (name_of start InProgress)) r v1 w) where
    pub put_mends : SegmentsStable v0 → HasEpoch (v0.seen (name_of start Record)) epoch → IsSome (v0.seen way) → Mends v0 w
    put_mends all counts there =
        let first = first_mends all in
        mends_then v0 v1 w first (mends_by (Moves way (name_of start InProgress)) r v1 w sound1 first.stable moves
        (λ d c left step. way_moved start epoch named.first named.small named.valid d c
        (subst (λ (f : Option (List ℕ)). HasEpoch f epoch) (sym (epoch_left first.stable d left)) (at_read (λ f. HasEpoch (f (name_of start Record)) epoch) counts))
        (subst (λ (n : List ℕ). IsSome (d n)) named.spelled (subst IsSome (sym (way_left first.stable d left)) (at_read (λ f. IsSome (f way)) there)))
        (renamed (λ n. Moves n (name_of start InProgress)) way (name_of start (UnderWay epoch)) d c named.spelled step))
        (λ happens. moved_stable v1 w way (name_of start InProgress) way_apart (λ c left. way_left first.stable c left) happens first.stable))

    pub put_clears : OnOk r (Clears IsWay IsProgress way v0.seen w.seen)
    put_clears = on_ok_weaker r (λ (happens : Happens (Moves way (name_of start InProgress)) v1 w). subst (λ (f : Files). Clears IsWay IsProgress way f w.seen) rests.keeps.seen record {
      here = inl (record { start = start; epoch = epoch; named = named }, happens.seen.gone way_apart);
      others = λ other ne free. happens.seen.others other ne (λ same. free record { start = start; named = record { first = named.first; small = named.small; valid = tt; spelled = same } });
    }) moves.done

  module _ (removes : Atomic (ChangesOnly way IsGone) r v1 w) where
    pub drop_mends : SegmentsStable v0 → (finals : List ℕ) → AreFinals finals v0.seen → ((HasEpoch (v0.seen (name_of start Record)) epoch → ⊥) ⊎ Contains finals start) → Mends v0 w
    drop_mends all finals are why =
        let first = first_mends all in
        mends_then v0 v1 w first (mends_by (ChangesOnly way IsGone) r v1 w sound1 first.stable removes
        (λ d c left step. way_gone start epoch named.first named.small named.valid d c (by first.stable d left why)
        (renamed (λ n. ChangesOnly n IsGone) way (name_of start (UnderWay epoch)) d c named.spelled step))
        (λ happens. gone_stable v1 w way happens first.stable))
      where
        by : SegmentsStable v1 → (d : Files) → v1.may_leave d → ((HasEpoch (v0.seen (name_of start Record)) epoch → ⊥) ⊎ Contains finals start)
            → ((HasEpoch (d (name_of start Record)) epoch → ⊥) ⊎ FinalThere start d)
        by all1 d left (inl lacks) = inl (λ has. lacks (subst (λ (f : Option (List ℕ)). HasEpoch f epoch) (epoch_left all1 d left ∙ ap (λ (f : Files). f (name_of start Record)) rests.keeps.seen) has))
        by all1 d left (inr is) = inr (final_there v1 all1 start (at_read (λ f. HasFinal start f) (are.there start is)) d left)

    pub drop_clears : OnOk r (Clears IsWay IsProgress way v0.seen w.seen)
    drop_clears = on_ok_weaker r (λ (happens : Happens (ChangesOnly way IsGone) v1 w). subst (λ (f : Files). Clears IsWay IsProgress way f w.seen) rests.keeps.seen record {
      here = inl (record { start = start; epoch = epoch; named = named }, happens.seen.here);
      others = λ other ne free. happens.seen.others other ne;
    }) removes.done

-- what is left over is removed
module _ (v w : View) (sound : IsSound v) (finals name : List ℕ) (is : IsLeftOver finals name) {T : Type 0} (r : Result T DiskFail) (removes : Atomic (ChangesOnly name IsGone) r v w) where
  pub sweep_mends : SegmentsStable v → AreFinals finals v.seen → Mends v w
  sweep_mends all are = mends_by (ChangesOnly name IsGone) r v w sound all removes
      (λ d c left step. left_gone finals name is d c (λ start among. final_there v all start (are.there start among) d left) step)
      (λ happens. gone_stable v w name happens all)

  pub sweep_clears : OnOk r (Clears (IsLeftOver finals) NoName name v.seen w.seen)
  sweep_clears = on_ok_weaker r (λ (happens : Happens (ChangesOnly name IsGone) v w).
      record { here = inl (is, happens.seen.here); others = λ other ne free. happens.seen.others other ne }) removes.done

-- The loop that removes records.
use Rattle.std.proofs.Common.{◌≡◌, ◌↔◌, ℕ, ◌+◌, ◌<◌, ◌≤◌, List, length, refl, sym, ◌∙◌, subst}
use Rattle.std.specs.Prelude.{IsSome, IsOk, Result, slice_index_or}
use Rattle.base_disk.specs.View.{View, IsSound}
use Rattle.base_disk.specs.Calls.{Lists, HasCause}
use Rattle.base_disk.specs.Runs.{Quiet}
use Rattle.base_disk.specs.declared.disk.DiskFail.{DiskFail}
use Rattle.disk_opening.specs.Opening.{SegmentsStable, Repairs, IsRepaired}
use Rattle.disk_opening.specs.Opened.{AreOpened}
use Rattle.disk_segment.specs.declared.segment_row.SegmentRow.{SegmentRow}
use Rattle.disk_opening.specs.OpenSteps.{RemovesIdle, AreRead}
use Rattle.disk_opening.proofs.OpenRemoves.{IsLess, less_repaired, IsRemovedTo, nothing_removed, removed_more, next_there, all_opened, step_less, step_stable, step_quiet, repairs_nothing}
use Rattle.base_disk.proofs.Causes.{none_at_ok}

pub record IsRemoving (told tells : Type 0) (v0 v : View) (rows : List SegmentRow) (names : List (List ℕ)) (i : ℕ) (f0 f : ℕ) (was_steady is_steady : Type 0) : Type 0 where
  pub tells_on : told ↔ tells
  pub removed : told → Lists names v0.seen → IsRemovedTo rows v0.seen v.seen names i
  pub less : told → IsLess rows v0.seen v.seen
  pub stable : told → SegmentsStable v0 → SegmentsStable v
  pub quiet : told → SegmentsStable v0 → IsRepaired v0.seen → AreRead v0.seen rows → Quiet Repairs v0 v
  pub same : f ≡ f0
  pub steady : was_steady → is_steady

module _ (told : Type 0) (v0 : View) (sound0 : told → IsSound v0) (rows : List SegmentRow) (names : List (List ℕ)) (f0 : ℕ) (was_steady : Type 0) where
  pub begun : IsRemoving told told v0 v0 rows names 0 f0 f0 was_steady was_steady
  begun = record {
    tells_on = (λ t. t, λ t. t);
    removed = λ t lists. nothing_removed rows v0.seen names;
    less = λ t. (nothing_removed rows v0.seen names).less;
    stable = λ t stable. stable;
    quiet = λ t stable repaired read. repairs_nothing v0 (sound0 t);
    same = refl;
    steady = λ s. s;
  }

  module _ (tells : Type 0) (v : View) (sound : tells → IsSound v) (i : ℕ) (f : ℕ) (is_steady : Type 0) (so_far : IsRemoving told tells v0 v rows names i f0 f was_steady is_steady) where
    module _ (within : i < length names) (name bytes : List ℕ) (at : slice_index_or names i name ≡ name) (bytes_are : bytes ≡ name) where
      pub there : tells → (told → Lists names v0.seen) → IsSome (v.seen bytes)
      there t lists =
          let t0 = so_far.tells_on.1 t in
          subst (λ (n : List ℕ). IsSome (v.seen n)) (sym bytes_are) (next_there rows v0.seen names (lists t0) i within name at v.seen (so_far.removed t0 (lists t0)))

      module _ {T : Type 0} (tells1 : Type 0) (v1 : View) (f1 : ℕ) (steady1 : Type 0) (r : Result T DiskFail) (on : tells ↔ tells1)
          (does : tells → RemovesIdle rows bytes r v v1) (cause : HasCause f f1 is_steady steady1 r) where
        does_at : told → RemovesIdle rows name r v v1
        does_at t = subst (λ (n : List ℕ). RemovesIdle rows n r v v1) bytes_are (does (so_far.tells_on.0 t))

        pub tells_still : told ↔ tells1
        tells_still = (λ t. on.0 (so_far.tells_on.0 t), λ t. so_far.tells_on.1 (on.1 t))

        less_still : told → IsLess rows v0.seen v1.seen
        less_still t = step_less rows name r v v1 (does_at t) v0.seen (so_far.less t)

        pub stable_still : told → SegmentsStable v0 → SegmentsStable v1
        stable_still t stable = step_stable rows name r v v1 (does_at t) (so_far.stable t stable)

        pub repaired_still : told → IsRepaired v0.seen → IsRepaired v1.seen
        repaired_still t repaired = less_repaired rows v0.seen v1.seen (less_still t) repaired

        pub quiet_still : told → SegmentsStable v0 → IsRepaired v0.seen → AreRead v0.seen rows → Quiet Repairs v0 v1
        quiet_still t stable repaired read =
            step_quiet rows name r v v1 (does_at t) v0 (sound0 t) (sound (so_far.tells_on.0 t)) (so_far.stable t stable)
            (less_repaired rows v0.seen v.seen (so_far.less t) repaired).tidy read (so_far.quiet t stable repaired read)

        pub one_more : IsOk r → IsRemoving told tells1 v0 v1 rows names (i + 1) f0 f1 was_steady steady1
        one_more ok = record {
          tells_on = tells_still;
          removed = λ t lists. removed_more rows v0.seen names lists i within name at r v v1 (so_far.removed t lists) (does_at t) ok;
          less = less_still;
          stable = stable_still;
          quiet = quiet_still;
          same = none_at_ok f f1 is_steady steady1 r cause ok ∙ so_far.same;
          steady = λ s. cause.steady (so_far.steady s);
        }

    pub repaired_so_far : told → IsRepaired v0.seen → IsRepaired v.seen
    repaired_so_far t repaired = less_repaired rows v0.seen v.seen (so_far.less t) repaired

    pub opened : length names ≤ i → told → SegmentsStable v0 → IsRepaired v0.seen → Lists names v0.seen → AreRead v0.seen rows → AreOpened v0.seen v rows
    opened all t stable repaired lists read =
        all_opened rows v0.seen names lists i all v (so_far.removed t lists) read (so_far.stable t stable) (repaired_so_far t repaired).tidy
        ((so_far.quiet t stable repaired read).seen.segments read.segments read.stands)

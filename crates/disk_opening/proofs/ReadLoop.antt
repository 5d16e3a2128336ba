-- The loop that reads the files of segments.
use Rattle.std.proofs.Common.{inl, inr, ◌⊎◌, ◌≡◌, ◌↔◌, ℕ, ◌+◌, ◌<◌, ◌≤◌, List, [], length, refl, sym, ◌∙◌, subst, arith}
use Rattle.std.specs.Prelude.{Option, Some, None, Result, IsOk, slice_index_or, map}
use Rattle.std.proofs.lemmas.List.{length-map}
use Rattle.base_disk.specs.Files.{Files}
use Rattle.base_disk.specs.View.{View, IsSound}
use Rattle.base_disk.specs.Calls.{Rests, Lists, HasCause}
use Rattle.base_disk.specs.declared.disk.DiskFail.{DiskFail}
use Rattle.disk_opening.specs.Opening.{IsRepaired}
use Rattle.disk_segment.specs.Rows.{put_row}
use Rattle.disk_segment.specs.declared.segment_row.SegmentRow.{SegmentRow}
use Rattle.disk_opening.specs.declared.opened.Opened.{Opened}
use Rattle.disk_opening.specs.declared.opened.Opened.TheVariants as opened
use Rattle.disk_opening.specs.OpenSteps.{IsNoSegment, IsNewRow, IsAdded, IsStep, AreRead, IsReadWhole, step_result}
use Rattle.base_disk.proofs.Keeping.{rests_same, rests_then}
use Rattle.disk_opening.proofs.OpenReads.{IsReadTo, begun as read_nothing, skipped, added, refused, all_read}
use Rattle.base_disk.proofs.Causes.{none_at_ok}

-- the files of the first i names are read, and nothing changed
pub record IsReading (told tells : Type 0) (v0 v : View) (names : List (List ℕ)) (i : ℕ) (rows : List SegmentRow) (f0 f : ℕ) (was_steady is_steady : Type 0) : Type 0 where
  pub tells_on : told ↔ tells
  pub rests : told → Rests v0 v
  pub read : told → IsRepaired v0.seen → Lists names v0.seen → IsReadTo v0.seen names i rows
  pub same : f ≡ f0
  pub steady : was_steady → is_steady

pub begun : (told : Type 0) (v0 : View) (names : List (List ℕ)) (rows : List SegmentRow) (f0 : ℕ) (was_steady : Type 0) → rows ≡ [] → IsReading told told v0 v0 names 0 rows f0 f0 was_steady was_steady
begun told v0 names rows f0 was_steady none = record {
  tells_on = (λ t. t, λ t. t);
  rests = λ t. rests_same v0;
  read = λ t repaired lists. subst (λ (r : List SegmentRow). IsReadTo v0.seen names 0 r) (sym none) (read_nothing v0.seen names);
  same = refl;
  steady = λ s. s;
}

-- a step after which reading goes on
pub step_goes : (answer : Option Opened) → answer ≡ None → IsOk (step_result answer)
step_goes None goes = refl
step_goes (Some o) goes = absurd (cc)

module _ (told : Type 0) (v0 : View) (sound : told → IsSound v0) (names : List (List ℕ)) (f0 : ℕ) (was_steady : Type 0)
    (tells : Type 0) (v : View) (i : ℕ) (rows : List SegmentRow) (f : ℕ) (is_steady : Type 0) (so_far : IsReading told tells v0 v names i rows f0 f was_steady is_steady) where
  module _ (within : i < length names) (name bytes : List ℕ) (at : slice_index_or names i name ≡ name) (bytes_are : bytes ≡ name) {T : Type 0}
      (tells1 : Type 0) (v1 : View) (f1 : ℕ) (steady1 : Type 0) (r : Result T DiskFail)
      (on : tells ↔ tells1) (rests : tells → Rests v v1) (cause : HasCause f f1 is_steady steady1 r) where
    pub still_tells : told ↔ tells1
    still_tells = (λ t. on.0 (so_far.tells_on.0 t), λ t. so_far.tells_on.1 (on.1 t))

    pub still_rests : told → Rests v0 v1
    still_rests t = rests_then v0 v v1 (sound t) (so_far.rests t) (rests (so_far.tells_on.0 t))

    seen_same : told → v.seen ≡ v0.seen
    seen_same t = (so_far.rests t).keeps.seen

    module _ (new : List SegmentRow) (answer : Option Opened) (step : tells → IsStep v.seen bytes rows new answer) where
      step_at : told → IsStep v0.seen name rows new answer
      step_at t = subst (λ (n : List ℕ). IsStep v0.seen n rows new answer) bytes_are (subst (λ (files : Files). IsStep files bytes rows new answer) (seen_same t) (step (so_far.tells_on.0 t)))

      added_at : told → IsAdded v0.seen name rows new → IsRepaired v0.seen → Lists names v0.seen → IsReadTo v0.seen names (i + 1) new
      added_at t is repaired lists = by is.either
        where
          read : IsReadTo v0.seen names i rows
          read = so_far.read t repaired lists

          by : (IsNoSegment name × (new ≡ rows)) ⊎ ((row : SegmentRow) × IsNewRow v0.seen name rows row × (new ≡ put_row row rows)) → IsReadTo v0.seen names (i + 1) new
          by (inl none) = subst (λ (l : List SegmentRow). IsReadTo v0.seen names (i + 1) l) (sym none.1) (skipped v0.seen names lists repaired i within rows read name at none.0)
          by (inr more) = subst (λ (l : List SegmentRow). IsReadTo v0.seen names (i + 1) l) (sym more.2) (added v0.seen names lists repaired i within rows read name at more.0 more.1)

      pub one_more : IsOk r → answer ≡ None → IsReading told tells1 v0 v1 names (i + 1) new f0 f1 was_steady steady1
      one_more ok goes = record {
        tells_on = still_tells;
        rests = still_rests;
        read = λ t repaired lists. added_at t (subst (λ (o : Option Opened). IsStep v0.seen name rows new o) goes (step_at t)) repaired lists;
        same = none_at_ok f f1 is_steady steady1 r cause ok ∙ so_far.same;
        steady = λ s. cause.steady (so_far.steady s);
      }

      pub ended_with : (o : Opened) → answer ≡ Some o → told → IsRepaired v0.seen → Lists names v0.seen → IsReadWhole v0.seen o
      ended_with o is t repaired lists = by o (subst (λ (a : Option Opened). IsStep v0.seen name rows new a) is (step_at t))
        where
          by : (o : Opened) → IsStep v0.seen name rows new (Some o) → IsReadWhole v0.seen o
          by (opened.Segments others) none = absurd none
          by (opened.BadFile bad) is = refused v0.seen names lists repaired i within rows (so_far.read t repaired lists) name at bad is
          by opened.DiskFault is = tt
          by opened.OutOfMemory is = tt

  pub read_whole : length names ≤ i → told → IsRepaired v0.seen → Lists names v0.seen → AreRead v0.seen rows
  read_whole all t repaired lists = all_read v0.seen names lists repaired i all rows (so_far.read t repaired lists)

pub inside_map : {X : Type 0} (f : X → List ℕ) (xs : List X) (i : ℕ) → i < length xs → i < length (map f xs)
inside_map f xs i lt = omega (arith, lt, length-map xs f)

pub past_map : {X : Type 0} (f : X → List ℕ) (xs : List X) (i : ℕ) → length xs ≤ i → length (map f xs) ≤ i
past_map f xs i le = omega (arith, le, length-map xs f)

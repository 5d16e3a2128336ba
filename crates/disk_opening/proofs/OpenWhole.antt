-- Opening, after calls that only read.
use Rattle.std.proofs.Common.{⊎_elim, ◌⊎◌, List, sym, ◌∙◌, subst}
use Rattle.base_disk.specs.Files.{Files}
use Rattle.base_disk.specs.View.{View, IsSound}
use Rattle.base_disk.specs.Calls.{Rests}
use Rattle.base_disk.specs.Runs.{Quiet, quiet_keeps, joined, weaker}
use Rattle.disk_opening.specs.Opening.{SegmentsStable, Repairs, IsRepaired, IsFirst}
use Rattle.disk_opening.specs.Opened.{AreOpened, IsOpened, IsBadSegmentFile}
use Rattle.disk_segment.specs.declared.segment_row.SegmentRow.{SegmentRow}
use Rattle.disk_opening.specs.declared.opened.Opened.{Opened}
use Rattle.disk_opening.specs.declared.opened.Opened.TheVariants as opened
use Rattle.disk_opening.specs.OpenSteps.{AreRead}
use Rattle.disk_opening.proofs.MendLemmas.{keeps_stable}
use Rattle.disk_opening.proofs.OpenRemoves.{repairs_nothing}

-- a crash left such an outcome, or one that was repaired
abbrev Left : View → Files → Type 0
Left v c = (d : Files) × v.may_leave d × Repairs d c

module _ (v0 v1 : View) (rests : Rests v0 v1) where
  pub stable_after : SegmentsStable v0 → SegmentsStable v1
  stable_after stable = keeps_stable v0 v1 rests.keeps stable

  pub repaired_after : IsRepaired v0.seen → IsRepaired v1.seen
  repaired_after is = subst IsRepaired (sym rests.keeps.seen) is

  pub read_after : (rows : List SegmentRow) → AreRead v0.seen rows → AreRead v1.seen rows
  read_after rows is = subst (λ (files : Files). AreRead files rows) (sym rests.keeps.seen) is

  pub quiet_read : IsSound v0 → Quiet Repairs v0 v1
  quiet_read sound = quiet_keeps Repairs v0 v0 v1 (repairs_nothing v0 sound) rests.keeps

  pub quiet_after : IsSound v0 → (v2 : View) → Quiet Repairs v1 v2 → Quiet Repairs v0 v2
  quiet_after sound v2 quiet = record {
    moments = weaker v0 v2 (λ c. Left v0 c ⊎ Left v1 c) (λ c. Left v0 c)
        (λ c from. ⊎_elim (λ p. p) (λ q. (q.0, rests.keeps.crash q.0 q.1, q.2)) from)
        (joined v0 v1 v2 (λ c. Left v0 c) (λ c. Left v1 c) (quiet_read sound).moments quiet.moments);
    now = λ c left. let from = quiet.now c left in (from.0, rests.keeps.crash from.0 from.1, from.2);
    seen = subst (λ (files : Files). Repairs files v2.seen) rests.keeps.seen quiet.seen;
  }

  pub opened_after : (v2 : View) (o : Opened) → IsOpened v1 v2 o → IsOpened v0 v2 o
  opened_after v2 (opened.Segments rows) is = (
    subst (λ (files : Files). AreOpened files v2 rows) rests.keeps.seen is.0,
    λ name bad. is.1 name (subst (λ (files : Files). IsBadSegmentFile files name) (sym rests.keeps.seen) bad),
  )
  opened_after v2 (opened.BadFile name) is = (subst (λ (files : Files). IsFirst (IsBadSegmentFile files) name) rests.keeps.seen is.0, is.1 ∙ rests.keeps.seen)
  opened_after v2 opened.DiskFault is = tt
  opened_after v2 opened.OutOfMemory is = tt

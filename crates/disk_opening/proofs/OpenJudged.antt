-- What a name and a file's bytes make of a judgement.
use Rattle.std.proofs.Common.{inl, inr, ◌≡◌, ◌≢◌, ℕ, List, Bool, true, false, refl, sym, ◌∙◌, ap, subst}
use Rattle.std.specs.Prelude.{Option, Some, None, IsSome, MatchBool}
use Rattle.std.specs.Option.{option_copied, is_some}
use Rattle.std.specs.Borrow.{Bor}
use Rattle.base_disk.specs.Files.{Files}
use Rattle.journal_core.specs.declared.segment.Segment.{Segment}
use Rattle.journal_core.specs.declared.segment_info.SegmentInfo.{SegmentInfo}
use Rattle.disk_segment.specs.Names.{Kind, Record, name_of, IsKind}
use Rattle.disk_opening.specs.Kinds.{IsNamed, kind_told}
use Rattle.disk_opening.specs.declared.file_kind.FileKind.{FileKind}
use Rattle.disk_opening.specs.declared.file_kind.FileKind.TheVariants as told
use Rattle.disk_segment.specs.Rows.{find_row}
use Rattle.disk_segment.specs.declared.segment_row.SegmentRow.{SegmentRow}
use Rattle.disk_opening.specs.declared.judged.Judgment.{Judgment}
use Rattle.disk_opening.specs.declared.judged.Judgment.TheVariants as judged
use Rattle.disk_opening.specs.Opened.{HoldsSegment, IsGoodFile}
use Rattle.disk_opening.specs.OpenSteps.{kind_by, IsRowIn, IsMarkedBy, IsBadAt, IsJudged, IsJudgedName, IsJudgedBeside, IsSegmentName, IsNoSegment, IsReadAs, IsIdle, IsFree}
use Rattle.disk_segment.proofs.NamesLemmas.{same_start, same_kind}
use Rattle.disk_opening.proofs.OpenFiles.{read_as}

-- a name is that of one file
pub same_named : (name : List ℕ) (s t : ℕ) (j k : Kind) → IsNamed name s j → IsNamed name t k → (s ≡ t) × (j ≡ k)
same_named name s t j k a b =
    let starts : s ≡ t = same_start s t j k a.small b.small (sym a.spelled ∙ b.spelled) in
    (starts, same_kind t j k (subst (λ (n : ℕ). IsKind n j) starts a.valid) b.valid (ap (λ (n : ℕ). name_of n j) (sym starts) ∙ sym a.spelled ∙ b.spelled))

pub no_segment : (name : List ℕ) (s : ℕ) (k : Kind) → IsNamed name s k → (HoldsSegment k → ⊥) → IsNoSegment name
no_segment name s k named none start kind is = none (subst HoldsSegment (same_named name start s kind k is.named named).1 is.holds)

pub not_idle : (name : List ℕ) (s : ℕ) (k : Kind) (rows : List SegmentRow) → IsNamed name s k → k ≢ Record → IsIdle rows name → ⊥
not_idle name s k rows named ne idle = ne (same_named name s idle.start k Record named idle.named).1

pub idle_or_not : (name : List ℕ) (start : ℕ) (rows : List SegmentRow) (b : Bool) → IsNamed name start Record
    → MatchBool b (IsFree (find_row start rows)) (IsFree (find_row start rows) → ⊥) → MatchBool b (IsIdle rows name) (IsIdle rows name → ⊥)
idle_or_not name start rows true named free = record { start = start; named = named; free = free }
idle_or_not name start rows false named taken = λ idle. taken (subst (λ (n : ℕ). IsFree (find_row n rows)) (same_named name idle.start start Record Record idle.named named).0 idle.free)

module _ (seen : Files) (start : ℕ) where
  pub bad_judged : (kind : Kind) (name : List ℕ) (j : Judgment) → name ≡ name_of start kind → (IsGoodFile seen start kind → ⊥) → IsBadAt name j → IsJudged seen start kind j
  bad_judged kind name judged.Other named bad is = is
  bad_judged kind name (judged.Row row) named bad is = absurd is
  bad_judged kind name (judged.BadFile other) named bad is = inl (is ∙ named, bad)
  bad_judged kind name judged.DiskFault named bad is = tt
  bad_judged kind name judged.OutOfMemory named bad is = tt

  module _ (last : Option ℕ) (bytes : List ℕ) (g : Segment) (row : SegmentRow) (there : seen (name_of start (kind_by last)) ≡ Some bytes) (is : IsRowIn start last bytes g row) where
    marked_at : (j : Judgment) → IsMarkedBy start (seen (name_of start Record)) row j → IsJudged seen start (kind_by last) j
    marked_at judged.Other marked = marked
    marked_at (judged.Row new) marked = (record g { accepted = new.info.accepted }, read_as seen start last bytes g row new there is marked)
    marked_at (judged.BadFile bad) marked = inr (marked.0, marked.1)
    marked_at judged.DiskFault marked = tt
    marked_at judged.OutOfMemory marked = tt

    pub judged_by : (mid : Files) (j : Judgment) → mid ≡ seen → IsMarkedBy row.info.start (mid (name_of row.info.start Record)) row j → IsJudged seen start (kind_by last) j
    judged_by mid j same marked =
        let at : row.info.start ≡ start = ap (λ (i : SegmentInfo). i.start) is.info ∙ is.start_is in
        marked_at j (subst (λ (n : ℕ). IsMarkedBy n (seen (name_of n Record)) row j) at
        (subst (λ (files : Files). IsMarkedBy row.info.start (files (name_of row.info.start Record)) row j) same marked))

module _ (seen : Files) (name : List ℕ) (rows : List SegmentRow) (start : ℕ) (kind : Kind) (named : IsSegmentName name start kind) where
  pub second_refused : (j : Judgment) → IsBadAt name j → IsSome (find_row start rows) → IsJudgedBeside seen name rows j
  second_refused judged.Other is there = absurd is
  second_refused (judged.Row row) is there = absurd is
  second_refused (judged.BadFile bad) is there = record { start = start; kind = kind; named = named; why = inr (is, there) }
  second_refused judged.DiskFault is there = tt
  second_refused judged.OutOfMemory is there = tt

pub told_other : (bytes name : List ℕ) (s : ℕ) (k j : FileKind) → bytes ≡ name → k ≡ j → IsNamed bytes s (kind_told k) → (HoldsSegment (kind_told j) → ⊥) → IsNoSegment name
told_other bytes name s k j same is named none =
    no_segment name s (kind_told j) (subst (λ (n : List ℕ). IsNamed n s (kind_told j)) same (subst (λ (l : FileKind). IsNamed bytes s (kind_told l)) is named)) none

pub told_not_idle : (bytes name : List ℕ) (s : ℕ) (k j : FileKind) (rows : List SegmentRow) → bytes ≡ name → k ≡ j → IsNamed bytes s (kind_told k) → kind_told j ≢ Record → IsIdle rows name → ⊥
told_not_idle bytes name s k j rows same is named ne =
    not_idle name s (kind_told j) rows (subst (λ (n : List ℕ). IsNamed n s (kind_told j)) same (subst (λ (l : FileKind). IsNamed bytes s (kind_told l)) is named)) ne

pub told_idle : (bytes name : List ℕ) (s : ℕ) (k : FileKind) (rows : List SegmentRow) (b : Bool) → bytes ≡ name → k ≡ told.Record → IsNamed bytes s (kind_told k)
    → MatchBool b (IsFree (find_row s rows)) (IsFree (find_row s rows) → ⊥) → MatchBool b (IsIdle rows name) (IsIdle rows name → ⊥)
told_idle bytes name s k rows b same is named free =
    idle_or_not name s rows b (subst (λ (n : List ℕ). IsNamed n s Record) same (subst (λ (l : FileKind). IsNamed bytes s (kind_told l)) is named)) free

-- a reference that was found
pub some_found : (o : Option (Bor SegmentRow)) (p : Option SegmentRow) → option_copied o ≡ p → is_some o ≡ true → IsSome p
some_found None p same found = absurd (cc)
some_found (Some r) p same found = subst IsSome same refl

pub read_start : (seen : Files) (start : ℕ) (kind : Kind) (g : Segment) (row : SegmentRow) → IsReadAs seen start kind g row → row.info.start ≡ start
read_start seen start kind g row is = ap (λ (i : SegmentInfo). i.start) is.info ∙ is.start_is

-- What the bytes of a segment's file, and those of its record, say of the segment.
use Rattle.std.proofs.Common.{inl, inr, ◌≡◌, ℕ, ◌+◌, ◌-◌, ◌≤◌, List, [], ◌∷◌, length, Bool, true, false, ◌==◌, refl, sym, ◌∙◌, ap, subst, arith, length-append}
use Rattle.std.specs.Prelude.{Option, Some, None, MatchOption}
use Rattle.std.specs.Bool.{Decides}
use Rattle.std.proofs.lemmas.Option.{same_Some}
use Rattle.std.proofs.lemmas.Bool.Decides.{nat_tests}
use Rattle.base_disk.specs.Files.{Files}
use Rattle.base_files.specs.Records.{IsRecord}
use Rattle.base_files.specs.Answers.{FoundIn}
use Rattle.base_files.specs.declared.answers.GotRecord.TheVariants as got
use Rattle.journal_core.specs.Views.{BatchView}
use Rattle.journal_core.specs.declared.segment.Segment.{Segment}
use Rattle.journal_core.specs.declared.segment_info.SegmentInfo.{SegmentInfo}
use Rattle.journal_core.specs.Segments.{end_of, IsWithin}
use Rattle.disk_frame.specs.Frames.{AreInOrder}
use Rattle.disk_frame.specs.Segments.{IsSegmentFile}
use Rattle.disk_frame.proofs.RuleLaws.{next_within}
use Rattle.disk_frame.proofs.SegmentLaws.{one_segment}
use Rattle.disk_segment.specs.Names.{Kind, Final, Record as record_kind, name_of, kind_of}
use Rattle.disk_segment.specs.Stands.{HasEpoch, IsRecordFile, IsAccepted}
use Rattle.disk_segment.specs.declared.file_scan.FileScan.{FileScan}
use Rattle.disk_segment.specs.Scans.{IsFileScan, ScansFile}
use Rattle.disk_segment.specs.Rows.{IsRowWithin}
use Rattle.disk_segment.specs.declared.segment_row.SegmentRow.{SegmentRow}
use Rattle.disk_opening.specs.Opened.{EndsAt, IsGoodFile}
use Rattle.disk_opening.specs.OpenSteps.{kind_by, is_final_by, segment_in, row_in, IsRowIn, IsRowFound, IsAcceptedAs, IsMarked, IsReadAs}
use Rattle.disk_segment.proofs.OneEpoch.{one_epoch}
use Rattle.disk_segment.proofs.FileBytes.{split, all_bodies}

-- ## The bytes of a segment's file
in_order_within : (next : ℕ) (bs : List BatchView) → next ≤ 4611686018427387905 → AreInOrder next bs → next + length (all_bodies bs) ≤ 4611686018427387905
in_order_within next [] small in_order = omega (arith, small)
in_order_within next (b ∷ bs) small in_order =
    omega (arith, in_order_within (next + length b.bodies) bs (next_within next b in_order.0) in_order.1, length-append b.bodies (all_bodies bs))

-- its txids are at most 2^62
pub file_within : (bytes : List ℕ) (start epoch : ℕ) (bodies : List (List ℕ)) (whole : ℕ) → IsSegmentFile bytes start epoch bodies whole → start + length bodies ≤ 4611686018427387905
file_within bytes start epoch bodies whole is =
    let parts = split bytes start epoch bodies whole is in
    omega (arith, in_order_within start parts.batches (omega (arith, parts.range.start_within)) parts.in_order, ap length parts.bodies_are)

module _ (start : ℕ) (bytes : List ℕ) (f : FileScan) (is : IsFileScan start bytes 0 0 f) where
  pub row_found : (last : Option ℕ) (found : Option SegmentRow)
      → MatchOption found (EndsAt (kind_by last) (start + f.scan.count) → ⊥)
      (λ row. EndsAt (kind_by last) (start + f.scan.count) × (row ≡ row_in start f (is_final_by last))) → IsRowFound start last bytes found
  row_found last None no_end = λ epoch whole bodies file ends.
      no_end (subst (λ (n : ℕ). EndsAt (kind_by last) (start + n)) (ap length
      (one_segment bytes start start epoch f.epoch bodies is.bodies whole (24 + f.scan.whole_length) file is.file).2 ∙ sym is.count) ends)
  row_found last (Some row) told = (
    segment_in start f.epoch is.bodies (is_final_by last),
    record {
      start_is = refl;
      final_is = refl;
      accepted = refl;
      edits = subst (λ (r : SegmentRow). IsSegmentFile bytes start f.epoch is.bodies r.whole_length) (sym told.1) is.file;
      ends = subst (λ (n : ℕ). EndsAt (kind_by last) (start + n)) is.count told.0;
      info = ap (λ (r : SegmentRow). r.info) told.1 ∙ ap (λ (n : ℕ). record { start = start; end = start + n - 1; epoch = f.epoch; is_final = is_final_by last; accepted = false }) is.count;
    },
  )

-- a file that isn't that of a segment with the start isn't good
pub no_scan : (seen : Files) (start : ℕ) (kind : Kind) → ScansFile start (seen (name_of start kind)) 0 0 None → IsGoodFile seen start kind → ⊥
no_scan seen start kind none good = none good.bytes good.there good.epoch good.whole_length good.bodies good.edits

-- ## The record
module _ (file : Option (List ℕ)) (row : SegmentRow) (open_ : row.info.is_final ≡ false) where
  as_marked : (new : SegmentRow) → new.whole_length ≡ row.whole_length → new.info ≡ record row.info { accepted = new.info.accepted }
      → IsAccepted file row.info.epoch new.info.accepted → IsMarked file row new
  as_marked new whole info accepted = record {
    whole = whole;
    info = info;
    accepted = subst (λ (b : Bool). IsAcceptedAs b file row.info.epoch new.info.accepted) (sym open_) accepted;
  }

  pub marked_found : (name : List ℕ) (epoch end : ℕ) → FoundIn name file (got.Found epoch end) → IsMarked file row (record row { info = record row.info { accepted = epoch == row.info.epoch } })
  marked_found name epoch end found = as_marked (record row { info = record row.info { accepted = epoch == row.info.epoch } }) refl refl (by (epoch == row.info.epoch) (eqb_told epoch row.info.epoch))
    where
      has : HasEpoch file epoch
      has = record { end = end; bytes = found.0; there = found.1; spelled = found.2 }

      eqb_told : (a b : ℕ) → Decides (a == b) (a ≡ b)
      eqb_told a b = ((λ t. grind (arith, nat_tests, t)), (λ e. grind (arith, nat_tests, e)))

      by : (b : Bool) → Decides b (epoch ≡ row.info.epoch) → IsAccepted file row.info.epoch b
      by true told = subst (λ (e : ℕ). HasEpoch file e) (told.0 refl) has
      by false told = λ other. let p = sym (told.1 (one_epoch file epoch row.info.epoch has other)) in absurd (cc)

  pub marked_absent : row.info.accepted ≡ false → file ≡ None → IsMarked file row row
  marked_absent free none = as_marked row refl refl (subst (λ (b : Bool). IsAccepted file row.info.epoch b) (sym free) (λ has. let p = sym none ∙ has.there in absurd (cc)))

pub bad_record : (name bad : List ℕ) (file : Option (List ℕ)) → FoundIn name file (got.BadFile bad) → IsRecordFile file → ⊥
bad_record name bad file found (inl none) = let p = sym none ∙ found.2 in absurd (cc)
bad_record name bad file found (inr has) =
    found.3 (record { epoch = has.0; end = has.1.end }) (subst (λ (l : List ℕ). IsRecord l (record { epoch = has.0; end = has.1.end }))
    (same_Some has.1.bytes found.1 (sym has.1.there ∙ found.2)) has.1.spelled)

-- ## A file as it is read
pub ends_so : (last : Option ℕ) (g : Segment) → g.is_final ≡ is_final_by last → EndsAt (kind_by last) (g.start + length g.bodies) → kind_of (end_of g) g.is_final ≡ kind_by last
ends_so None g closed ends = ap (λ (b : Bool). kind_of (end_of g) b) closed
ends_so (Some last) g closed ends = ap (λ (b : Bool). kind_of (end_of g) b) closed ∙ ap Final (omega (arith, ends))

pub read_as : (seen : Files) (start : ℕ) (last : Option ℕ) (bytes : List ℕ) (g : Segment) (row new : SegmentRow) → seen (name_of start (kind_by last)) ≡ Some bytes → IsRowIn start last bytes g row
    → IsMarked (seen (name_of start record_kind)) row new → IsReadAs seen start (kind_by last) (record g { accepted = new.info.accepted }) new
read_as seen start last bytes g row new there is marked = record {
  start_is = is.start_is;
  kind_is = ends_so last g is.final_is (subst (λ (n : ℕ). EndsAt (kind_by last) (n + length g.bodies)) (sym is.start_is) is.ends);
  bytes = bytes;
  there = there;
  edits = subst (λ (n : ℕ). IsSegmentFile bytes start g.epoch g.bodies n) (sym marked.whole) is.edits;
  ends = is.ends;
  accepted = subst (λ (i : SegmentInfo). IsAcceptedAs i.is_final (seen (name_of start record_kind)) i.epoch new.info.accepted) is.info marked.accepted;
  info = marked.info ∙ ap (λ (i : SegmentInfo). record i { accepted = new.info.accepted }) is.info;
}

-- a file that isn't there, or gives no row, isn't good
pub not_good : (seen : Files) (start : ℕ) (last : Option ℕ) (bytes : List ℕ) → seen (name_of start (kind_by last)) ≡ Some bytes
    → IsRowFound start last bytes None → IsGoodFile seen start (kind_by last) → ⊥
not_good seen start last bytes there none good =
    none good.epoch good.whole_length good.bodies (subst (λ (l : List ℕ). IsSegmentFile l start good.epoch good.bodies good.whole_length)
    (same_Some good.bytes bytes (sym good.there ∙ there)) good.edits) good.ends

pub row_within : (start : ℕ) (last : Option ℕ) (bytes : List ℕ) (g : Segment) (row : SegmentRow) → 1 ≤ start → start ≤ 4611686018427387904 → IsRowIn start last bytes g row → IsRowWithin row
row_within start last bytes g row first small is =
    let begins : row.info.start ≡ start = ap (λ (i : SegmentInfo). i.start) is.info ∙ is.start_is in
    let ends : row.info.end ≡ g.start + length g.bodies - 1 = ap (λ (i : SegmentInfo). i.end) is.info in
    let within : start + length g.bodies ≤ 4611686018427387905 = file_within bytes start g.epoch g.bodies row.whole_length is.edits in
    (omega (arith, begins, first), omega (arith, begins, small), omega (arith, begins, ends, first, is.start_is), omega (arith, ends, within, first, is.start_is))

pub read_within : (seen : Files) (start : ℕ) (kind : Kind) (g : Segment) (row : SegmentRow) → IsReadAs seen start kind g row → IsWithin g
read_within seen start kind g row is = omega (arith, file_within is.bytes start g.epoch g.bodies row.whole_length is.edits, is.start_is)

-- The segment that the files of one start stand for.
use Rattle.std.proofs.Common.{◌≡◌, ◌⊎◌, inl, inr, ℕ, ◌≤◌, ◌^◌, Bool, true, false, nat_le, ◌&&◌, List, Option, Some, None, refl, sym, ap, subst, ◌∙◌, arith}
use Rattle.std.proofs.lemmas.Bool.{cond-true, cond_both, and_from, and_parts, le-leb, leb-true, eq-eqb, ne_eqb}
use Rattle.base_disk.specs.Files.{Files}
use Rattle.journal_core.specs.declared.segment.Segment.{Segment}
use Rattle.journal_core.specs.Segments.{find_segment, end_of}
use Rattle.disk_segment.specs.Names.{InProgress, Final, Record, UnderWay, name_of}
use Rattle.disk_segment.specs.Stands.{slot_of, HasEpoch, IsRecordFile, IsAccepted, NoFinal, NoneUnderWay, CountsUnderWay, CountsPlain, IsFinalOf, IsProgressOf, Holds, SlotStands, StandsFor}
use Rattle.disk_node.specs.Decoded.{record_epoch, header_epoch}
use Rattle.disk_node.specs.FileState.{final_file, or_file, way_file, progress_file, is_epoch, final_segment, progress_segment, segment_of, segment_at}
use Rattle.disk_node.proofs.Decodes.{epoch_decoded, segment_file_decoded}

module _ (files : Files) (start : ℕ) where
  abbrev recorded : Option ℕ
  recorded = record_epoch (files (name_of start Record))

  final_there : (end : ℕ) → start ≤ end → end ≤ 2 ^ 62 → final_file files start end ≡ files (name_of start (Final end))
  final_there end first last = cond-true (nat_le start end && nat_le end (2 ^ 62)) (files (name_of start (Final end))) None
      (and_from (nat_le start end) (nat_le end (2 ^ 62)) (le-leb start end first) (le-leb end (2 ^ 62) last))

  final_none : (end : ℕ) → NoFinal start (slot_of files start) → final_file files start end ≡ None
  final_none end absent =
      cond_both (nat_le start end && nat_le end (2 ^ 62)) (files (name_of start (Final end))) None (λ (o : Option (List ℕ)). o ≡ None)
      (λ t. let valid = and_parts (nat_le start end) (nat_le end (2 ^ 62)) t in absent.none end (leb-true start end valid.0, leb-true end (2 ^ 62) valid.1))
      (λ t. refl)

  way_there : (epoch : ℕ) → 1 ≤ epoch → epoch ≤ 2 ^ 62 → way_file files start (Some epoch) ≡ files (name_of start (UnderWay epoch))
  way_there epoch first last = cond-true (nat_le 1 epoch && nat_le epoch (2 ^ 62)) (files (name_of start (UnderWay epoch))) None
      (and_from (nat_le 1 epoch) (nat_le epoch (2 ^ 62)) (le-leb 1 epoch first) (le-leb epoch (2 ^ 62) last))

  way_none : NoneUnderWay start (slot_of files start) → IsRecordFile (files (name_of start Record)) → way_file files start recorded ≡ None
  way_none absent (inl none) = ap (λ (file : Option (List ℕ)). way_file files start (record_epoch file)) none
  way_none absent (inr other) =
      ap (way_file files start) (epoch_decoded (files (name_of start Record)) other.0 other.1)
      ∙ cond_both (nat_le 1 other.0 && nat_le other.0 (2 ^ 62)) (files (name_of start (UnderWay other.0))) None (λ (o : Option (List ℕ)). o ≡ None)
      (λ t. let valid = and_parts (nat_le 1 other.0) (nat_le other.0 (2 ^ 62)) t in absent.none other.0 (leb-true 1 other.0 valid.0, leb-true other.0 (2 ^ 62) valid.1) other.1)
      (λ t. refl)

  plain_file : (file : Option (List ℕ)) → IsRecordFile (files (name_of start Record)) → CountsPlain start (slot_of files start) file → progress_file files start ≡ file
  plain_file file is counts = ap (λ (way : Option (List ℕ)). or_file way (files (name_of start InProgress))) (way_none counts.none is) ∙ counts.there

  under_way_file : (file : Option (List ℕ)) (bytes : List ℕ) → CountsUnderWay start (slot_of files start) file → file ≡ Some bytes → progress_file files start ≡ Some bytes
  under_way_file file bytes counts there =
      let way : way_file files start recorded ≡ Some bytes =
      ap (way_file files start) (epoch_decoded (files (name_of start Record)) counts.epoch counts.counts) ∙ way_there counts.epoch counts.valid.0 counts.valid.1 ∙ counts.there ∙ there in
      ap (λ (way : Option (List ℕ)). or_file way (files (name_of start InProgress))) way

  progress_there : (file : Option (List ℕ)) (bytes : List ℕ) → IsRecordFile (files (name_of start Record))
      → CountsUnderWay start (slot_of files start) file ⊎ CountsPlain start (slot_of files start) file → file ≡ Some bytes
      → progress_file files start ≡ Some bytes
  progress_there file bytes is (inl way) there = under_way_file file bytes way there
  progress_there file bytes is (inr own) there = plain_file file is own ∙ there

-- a segment is accepted exactly where its record has the epoch of its header
accepted_is : (file : Option (List ℕ)) (epoch : ℕ) (accepted : Bool) → IsRecordFile file → IsAccepted file epoch accepted → is_epoch epoch (record_epoch file) ≡ accepted
accepted_is file epoch true is has = ap (is_epoch epoch) (epoch_decoded file epoch has) ∙ eq-eqb epoch epoch refl
accepted_is file epoch false (inl none) has = ap (λ (f : Option (List ℕ)). is_epoch epoch (record_epoch f)) none
accepted_is file epoch false (inr other) has = ap (is_epoch epoch) (epoch_decoded file other.0 other.1) ∙ ne_eqb other.0 epoch (λ same. has (subst (HasEpoch file) same other.1))

final_is : (files : Files) (start : ℕ) (g : Segment) (is : IsFinalOf start (slot_of files start) g) → final_segment start is.content.bytes ≡ g
final_is files start g is =
    let told = segment_file_decoded is.content.bytes start g.epoch g.bodies is.content.whole_length is.content.edits in
    λ i. record { start = sym is.start_is i; epoch = told.0 i; bodies = told.1 i; is_final = sym is.final i; accepted = sym is.accepted i }

progress_is : (files : Files) (start : ℕ) (g : Segment) (is : IsProgressOf start (slot_of files start) g) → IsRecordFile (files (name_of start Record))
    → progress_segment start (record_epoch (files (name_of start Record))) is.content.bytes ≡ g
progress_is files start g is recorded_is =
    let told = segment_file_decoded is.content.bytes start g.epoch g.bodies is.content.whole_length is.content.edits in
    let accepted : is_epoch (header_epoch is.content.bytes) (record_epoch (files (name_of start Record))) ≡ g.accepted =
    ap (λ (epoch : ℕ). is_epoch epoch (record_epoch (files (name_of start Record)))) told.0 ∙ accepted_is (files (name_of start Record)) g.epoch g.accepted recorded_is is.accepted in
    λ i. record { start = sym is.start_is i; epoch = told.0 i; bodies = told.1 i; is_final = sym is.final i; accepted = accepted i }

final_decoded : (files : Files) (start end : ℕ) (g : Segment) (is : IsFinalOf start (slot_of files start) g) → end ≡ end_of g → final_file files start end ≡ Some is.content.bytes
final_decoded files start end g is ends =
    let same : end ≡ is.last = omega (arith, ends, is.ends, is.start_is) in
    ap (final_file files start) same ∙ final_there files start is.last is.valid.0 is.valid.1 ∙ is.content.there

held_decoded : (files : Files) (start end : ℕ) (held : Option Segment) → IsRecordFile (files (name_of start Record))
    → Holds start (slot_of files start) held → ((g : Segment) → held ≡ Some g → g.is_final ≡ true → end ≡ end_of g)
    → segment_at files start end ≡ held
unfolding segment_at
held_decoded files start end None recorded_is is ends =
    λ i. segment_of start (record_epoch (files (name_of start Record))) (final_none files start end is.none_final i) (plain_file files start None recorded_is is.counts i)
held_decoded files start end (Some g) recorded_is (inl is) ends =
    ap (λ (file : Option (List ℕ)). segment_of start (record_epoch (files (name_of start Record))) file (progress_file files start)) (final_decoded files start end g is (ends g refl is.final))
    ∙ ap Some (final_is files start g is)
held_decoded files start end (Some g) recorded_is (inr is) ends =
    (λ i. segment_of start (record_epoch (files (name_of start Record))) (final_none files start end is.none_final i)
    (progress_there files start is.file is.content.bytes recorded_is is.counts is.content.there i))
    ∙ ap Some (progress_is files start g is recorded_is)

pub segment_decoded : (files : Files) (gs : List Segment) (start end : ℕ) (held : Option Segment) → StandsFor files gs → 1 ≤ start → start ≤ 2 ^ 62 → find_segment start gs ≡ held
    → ((g : Segment) → held ≡ Some g → g.is_final ≡ true → end ≡ end_of g) → segment_at files start end ≡ held
segment_decoded files gs start end held stands first last found ends =
    let slot : SlotStands start (slot_of files start) held = subst (SlotStands start (slot_of files start)) found (stands.slots start first last) in
    held_decoded files start end held slot.record_ slot.holds ends

-- Files in their grammars are decoded as what they hold.
use Rattle.std.proofs.Common.{◌≡◌, inl, inr, ℕ, zero, suc, ◌+◌, ◌≤◌, List, [], ◌∷◌, ◌++◌, length, take, drop, Option, Some, None, refl, sym, ap, subst, ◌∙◌, append_assoc, arith, ◌==◌}
use Rattle.std.specs.List.{flat_map}
use Rattle.std.specs.Int.{w64, from_be_bytes}
use Rattle.std.specs.Str.Parse.{digits_value}
use Rattle.std.proofs.lemmas.Bool.{cond-true, cond-false, eq-eqb, ne_eqb}
use Rattle.std.proofs.lemmas.List.{drop_at, take-append-drop, drop-take, drop-drop, length-append, length-drop}
use Rattle.std.proofs.lemmas.Nat.{from_be_bytes-to_be_bytes_8}
use Rattle.std.proofs.lemmas.Option.{same_Some}
use Rattle.base_words.proofs.PaddedLaws.{value-padded}
use Rattle.base_files.specs.Records.{IsNumber}
use Rattle.base_files.proofs.RecordLaws.{number_front, parts_of_record}
use Rattle.journal_core.specs.Views.{BatchView}
use Rattle.disk_frame.specs.Frames.{seal, inner_bytes, frame_bytes, AreInOrder, IsTail, AreFrames}
use Rattle.disk_frame.specs.Faults.{told_length, FitsFields, Spells}
use Rattle.disk_frame.specs.Reading.{batch_in}
use Rattle.disk_frame.specs.Segments.{HasHeader, IsSegmentFile}
use Rattle.disk_frame.proofs.SpellLaws.{length-frame_bytes, Tells, spelled_tells, spelled_batch}
use Rattle.disk_frame.proofs.RuleLaws.{good_fits}
use Rattle.disk_segment.specs.Stands.{HasEpoch, IsRecordFile}
use Rattle.disk_node.specs.Decoded.{number_in, record_epoch, header_epoch, bodies_of, frames_in, bodies_in}

-- ## Segment files

by_parts : (most byte : ℕ) (rest : List ℕ) (b : BatchView) (more : List ℕ) → byte ≡ seal
    → batch_in (take (told_length (byte ∷ rest)) (drop 4 rest)) ≡ Some b → drop (4 + told_length (byte ∷ rest)) rest ≡ more
    → frames_in (suc most) (byte ∷ rest) ≡ b.bodies ++ frames_in most more
unfolding frames_in
by_parts most byte rest b more is batch behind =
    cond-true (byte == seal) (bodies_of (batch_in (take (told_length (byte ∷ rest)) (drop 4 rest))) ++ frames_in most (drop (4 + told_length (byte ∷ rest)) rest)) [] (eq-eqb byte seal is)
    ∙ (λ i. bodies_of (batch i) ++ frames_in most (behind i))

after_frame : (byte : ℕ) (rest : List ℕ) (b : BatchView) (more : List ℕ) → byte ∷ rest ≡ frame_bytes b ++ more
    → told_length (byte ∷ rest) ≡ length (inner_bytes b) → drop (4 + told_length (byte ∷ rest)) rest ≡ more
unfolding frame_bytes
after_frame byte rest b more e told =
    sym (drop-drop (told_length (byte ∷ rest)) 4 rest)
    ∙ ap (λ (x : List ℕ). drop (told_length (byte ∷ rest)) (drop 5 x)) e
    ∙ drop_at (inner_bytes b) more (told_length (byte ∷ rest)) (sym told)

one_frame : (most : ℕ) (bytes : List ℕ) (b : BatchView) (more : List ℕ) → FitsFields b → bytes ≡ frame_bytes b ++ more → frames_in (suc most) bytes ≡ b.bodies ++ frames_in most more
one_frame most [] b more fits e = absurd (omega (arith, ap length e, length-append (frame_bytes b) more, length-frame_bytes b))
one_frame most (byte ∷ rest) b more fits e =
    let spells : Spells (byte ∷ rest) b = record { fits = fits; rest = more; spelled = e } in
    let tells : Tells (byte ∷ rest) b = spelled_tells (byte ∷ rest) b spells in
    by_parts most byte rest b more tells.seal_is (spelled_batch (byte ∷ rest) b spells) (after_frame byte rest b more e tells.told)

frames_decoded : (most next : ℕ) (bs : List BatchView) (tail : List ℕ) → AreInOrder next bs → IsTail tail → length bs ≤ most
    → frames_in most (flat_map frame_bytes bs ++ tail) ≡ flat_map (λ b. b.bodies) bs
unfolding frames_in
frames_decoded zero next [] tail goes ends enough = refl
frames_decoded (suc most) next [] [] goes ends enough = refl
frames_decoded (suc most) next [] (byte ∷ tail) goes ends enough =
    cond-false (byte == seal) (bodies_of (batch_in (take (told_length (byte ∷ tail)) (drop 4 tail))) ++ frames_in most (drop (4 + told_length (byte ∷ tail)) tail)) [] (ne_eqb byte seal ends)
frames_decoded zero next (b ∷ bs) tail goes ends enough = absurd (omega (arith, enough))
frames_decoded (suc most) next (b ∷ bs) tail goes ends enough =
    one_frame most ((frame_bytes b ++ flat_map frame_bytes bs) ++ tail) b (flat_map frame_bytes bs ++ tail) (good_fits next b goes.0) (append_assoc (frame_bytes b) (flat_map frame_bytes bs) tail)
    ∙ ap (λ (x : List (List ℕ)). b.bodies ++ x) (frames_decoded most (next + length b.bodies) bs tail goes.1 ends (omega (arith, enough)))

as_many_bytes : (bs : List BatchView) → length bs ≤ length (flat_map frame_bytes bs)
as_many_bytes [] = omega arith
as_many_bytes (b ∷ bs) = omega (arith, as_many_bytes bs, length-append (frame_bytes b) (flat_map frame_bytes bs), length-frame_bytes b)

bodies_decoded : (most first : ℕ) (bytes : List ℕ) (bodies : List (List ℕ)) (end : ℕ) → AreFrames first bytes bodies end → length bytes ≤ most → frames_in most bytes ≡ bodies
bodies_decoded most first bytes bodies end are enough =
    let split : bytes ≡ flat_map frame_bytes are.frames.batches ++ drop end bytes = sym (take-append-drop end bytes) ∙ ap (λ (x : List ℕ). x ++ drop end bytes) are.frames.spelled in
    let within : length are.frames.batches ≤ most = omega (
      arith,
      as_many_bytes are.frames.batches,
      ap length split,
      length-append (flat_map frame_bytes are.frames.batches) (drop end bytes),
      enough,
    ) in
    ap (frames_in most) split ∙ frames_decoded most first are.frames.batches (drop end bytes) are.frames.in_order are.tail within ∙ sym are.frames.bodies_are

header_decoded : (bytes : List ℕ) (start epoch : ℕ) → HasHeader bytes start epoch → header_epoch bytes ≡ epoch
header_decoded bytes start epoch header = ap (from_be_bytes w64) (sym (drop-take 16 8 bytes) ∙ ap (drop 16) header.spelled) ∙ from_be_bytes-to_be_bytes_8 epoch (omega (arith, header.epoch_within))

pub segment_file_decoded : (bytes : List ℕ) (start epoch : ℕ) (bodies : List (List ℕ)) (whole_length : ℕ)
    → IsSegmentFile bytes start epoch bodies whole_length → (header_epoch bytes ≡ epoch) × (bodies_in bytes ≡ bodies)
segment_file_decoded bytes start epoch bodies whole_length is =
    (header_decoded bytes start epoch is.header, bodies_decoded (length bytes) start (drop 24 bytes) bodies is.frames_length is.frames (omega (arith, length-drop 24 bytes)))

-- ## Numbers

pub number_decoded : (file : Option (List ℕ)) (n : ℕ) → IsNumber file n → number_in file ≡ n
number_decoded None n is = sym is
number_decoded (Some bytes) n is = ap (digits_value 10) (number_front bytes n is.1) ∙ value-padded 19 n (omega (arith, is.0))

pub epoch_decoded : (file : Option (List ℕ)) (epoch : ℕ) → HasEpoch file epoch → record_epoch file ≡ Some epoch
epoch_decoded file epoch has =
    ap record_epoch has.there
    ∙ ap (λ (digits : List ℕ). Some (digits_value 10 digits)) (parts_of_record has.bytes (record { epoch = epoch; end = has.end }) has.spelled.spelled).first
    ∙ ap Some (value-padded 19 epoch (omega (arith, has.spelled.epoch)))

pub epoch_had : (file : Option (List ℕ)) (epoch : ℕ) → IsRecordFile file → record_epoch file ≡ Some epoch → HasEpoch file epoch
epoch_had file epoch (inl none) e = let none_is : record_epoch file ≡ None = ap record_epoch none in absurd (cc)
epoch_had file epoch (inr other) e = subst (HasEpoch file) (same_Some other.0 epoch (sym (epoch_decoded file other.0 other.1) ∙ e)) other.1

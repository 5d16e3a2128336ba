-- The bytes of a segment file: how it goes on, and that they are one in one way at most.
use Rattle.std.proofs.Common.{◌≡◌, ℕ, ◌+◌, ◌^◌, ◌<◌, ◌≤◌, List, [], ◌++◌, length, take, drop, None, ◌⊎◌, inl, inr, refl, sym, ap, subst, ◌∙◌, arith}
use Rattle.std.specs.Int.{w64, from_be_bytes}
use Rattle.std.proofs.lemmas.List.{take-append-le, drop-append-le, take-take, drop-take, drop-drop, length-take, length-drop}
use Rattle.std.proofs.lemmas.Nat.{from_be_bytes-to_be_bytes_8}
use Rattle.base_words.specs.Fields.{IsBytes}
use Rattle.base_words.proofs.FieldLaws.{bytes_after}
use Rattle.journal_core.specs.Views.{BatchView}
use Rattle.disk_frame.specs.declared.frame_cause.FrameCause.{FrameCause}
use Rattle.disk_frame.specs.Frames.{frame_bytes, broken_rule, IsTail, AreFrames}
use Rattle.disk_frame.specs.Segments.{header_bytes, HasHeader, IsSegmentFile, HasBadSegmentFrame}
use Rattle.disk_frame.specs.Faults.{HaveBadFrame}
use Rattle.disk_frame.proofs.FrameLaws.{no_frames, other_tail, one_frame_more}
use Rattle.disk_frame.proofs.FaultLaws.{one_value, no_value, one_fault, some_answer}

-- ---- headers

-- the numbers of a header are read from it
pub start_told : (start epoch : ℕ) → start < 2 ^ 64 → from_be_bytes w64 (take 8 (drop 8 (header_bytes start epoch))) ≡ start
start_told start epoch lt = from_be_bytes-to_be_bytes_8 start lt

pub epoch_told : (start epoch : ℕ) → epoch < 2 ^ 64 → from_be_bytes w64 (take 8 (drop 16 (header_bytes start epoch))) ≡ epoch
epoch_told start epoch lt = from_be_bytes-to_be_bytes_8 epoch lt

pub one_header : (bytes : List ℕ) (start epoch start' epoch' : ℕ) → HasHeader bytes start epoch → HasHeader bytes start' epoch' → (start ≡ start') × (epoch ≡ epoch')
one_header bytes start epoch start' epoch' h k =
    let same : header_bytes start epoch ≡ header_bytes start' epoch' = sym h.spelled ∙ k.spelled in (
      sym (start_told start epoch (omega (arith, h.start_within))) ∙ ap (λ (x : List ℕ). from_be_bytes w64 (take 8 (drop 8 x))) same ∙ start_told start' epoch' (omega (arith, k.start_within)),
      sym (epoch_told start epoch (omega (arith, h.epoch_within))) ∙ ap (λ (x : List ℕ). from_be_bytes w64 (take 8 (drop 16 x))) same ∙ epoch_told start' epoch' (omega (arith, k.epoch_within)),
    )

header_there : (bytes : List ℕ) (start epoch : ℕ) → HasHeader bytes start epoch → 24 ≤ length bytes
header_there bytes start epoch h = omega (arith, ap length h.spelled, length-take 24 bytes)

header_again : (bytes rest : List ℕ) (start epoch end : ℕ) → HasHeader bytes start epoch → 24 ≤ end → end ≤ length bytes → HasHeader (take end bytes ++ rest) start epoch
header_again bytes rest start epoch end h le there = record {
  spelled = take-append-le 24 (take end bytes) rest (omega (arith, length-take end bytes, le, there)) ∙ take-take 24 end bytes le ∙ h.spelled;
  some_start = h.some_start;
  start_within = h.start_within;
  some_epoch = h.some_epoch;
  epoch_within = h.epoch_within;
}

-- ---- what stands after the header

pub whole_within : (bytes : List ℕ) (start epoch : ℕ) (bodies : List (List ℕ)) (whole_length : ℕ)
    → IsSegmentFile bytes start epoch bodies whole_length → (24 ≤ whole_length) × (whole_length ≤ length bytes)
whole_within bytes start epoch bodies whole_length s =
    (omega (arith, s.whole), omega (arith, s.whole, s.frames.frames.there, length-drop 24 bytes, header_there bytes start epoch s.header))

after_header : (bytes rest : List ℕ) (end more : ℕ) → end ≡ 24 + more → end ≤ length bytes → drop 24 (take end bytes ++ rest) ≡ take more (drop 24 bytes) ++ rest
after_header bytes rest end more is there =
    drop-append-le 24 (take end bytes) rest (omega (arith, length-take end bytes, is, there))
    ∙ ap (λ (n : ℕ). drop 24 (take n bytes) ++ rest) is
    ∙ ap (λ (x : List ℕ). x ++ rest) (drop-take 24 more bytes)

pub segment_other_tail : (bytes : List ℕ) (start epoch : ℕ) (bodies : List (List ℕ)) (whole_length : ℕ) (tail : List ℕ) → IsSegmentFile bytes start epoch bodies whole_length → IsTail tail
    → IsSegmentFile (take whole_length bytes ++ tail) start epoch bodies whole_length
segment_other_tail bytes start epoch bodies whole_length tail s is =
    let within = whole_within bytes start epoch bodies whole_length s in
    record {
      header = header_again bytes tail start epoch whole_length s.header within.0 within.1;
      frames_length = s.frames_length;
      frames = subst (λ (x : List ℕ). AreFrames start x bodies s.frames_length)
          (sym (after_header bytes tail whole_length s.frames_length s.whole within.1))
          (other_tail start (drop 24 bytes) bodies s.frames_length tail s.frames is);
      whole = s.whole;
    }

pub segment_one_more : (bytes : List ℕ) (start epoch : ℕ) (bodies : List (List ℕ)) (whole_length : ℕ) (b : BatchView) (tail : List ℕ) → IsSegmentFile bytes start epoch bodies whole_length
    → broken_rule (start + length bodies) b ≡ None → IsTail tail
    → IsSegmentFile (take whole_length bytes ++ (frame_bytes b ++ tail)) start epoch (bodies ++ b.bodies) (whole_length + length (frame_bytes b))
segment_one_more bytes start epoch bodies whole_length b tail s good is =
    let within = whole_within bytes start epoch bodies whole_length s in
    record {
      header = header_again bytes (frame_bytes b ++ tail) start epoch whole_length s.header within.0 within.1;
      frames_length = s.frames_length + length (frame_bytes b);
      frames = subst (λ (x : List ℕ). AreFrames start x (bodies ++ b.bodies) (s.frames_length + length (frame_bytes b)))
          (sym (after_header bytes (frame_bytes b ++ tail) whole_length s.frames_length s.whole within.1))
          (one_frame_more start (drop 24 bytes) bodies s.frames_length b tail s.frames good is);
      whole = omega (arith, s.whole);
    }

-- a header and a tail are a segment file without bodies
pub new_segment : (start epoch : ℕ) (tail : List ℕ) → 1 ≤ start → start ≤ 4611686018427387904 → 1 ≤ epoch → epoch ≤ 4611686018427387904 → IsTail tail
    → IsSegmentFile (header_bytes start epoch ++ tail) start epoch [] 24
new_segment start epoch tail some_start start_within some_epoch epoch_within is = record {
  header = record { spelled = refl; some_start = some_start; start_within = start_within; some_epoch = some_epoch; epoch_within = epoch_within };
  frames_length = 0;
  frames = record { frames = no_frames start tail; tail = is };
  whole = refl;
}

-- ---- one answer

pub one_segment : (bytes : List ℕ) (start start' epoch epoch' : ℕ) (bodies others : List (List ℕ)) (end last : ℕ)
    → IsSegmentFile bytes start epoch bodies end → IsSegmentFile bytes start' epoch' others last
    → (start ≡ start') × (epoch ≡ epoch') × (bodies ≡ others) × (end ≡ last)
one_segment bytes start start' epoch epoch' bodies others end last s t =
    let same = one_header bytes start epoch start' epoch' s.header t.header in
    let frames : AreFrames start' (drop 24 bytes) bodies s.frames_length = subst (λ (n : ℕ). AreFrames n (drop 24 bytes) bodies s.frames_length) same.0 s.frames in
    let value = one_value start' (drop 24 bytes) bodies others s.frames_length t.frames_length frames t.frames in
    (same.0, same.1, value.0, omega (arith, s.whole, t.whole, value.1))

pub no_segment : (bytes : List ℕ) (start start' epoch epoch' : ℕ) (bodies : List (List ℕ)) (end place : ℕ) (cause : FrameCause)
    → IsSegmentFile bytes start epoch bodies end → HasBadSegmentFrame bytes start' epoch' place cause → ⊥
no_segment bytes start start' epoch epoch' bodies end place cause s t =
    let same = one_header bytes start epoch start' epoch' s.header t.header in
    let frames : AreFrames start' (drop 24 bytes) bodies s.frames_length = subst (λ (n : ℕ). AreFrames n (drop 24 bytes) bodies s.frames_length) same.0 s.frames in
    no_value start' (drop 24 bytes) bodies s.frames_length t.behind cause frames t.bad

pub one_segment_fault : (bytes : List ℕ) (start start' epoch epoch' place other : ℕ) (c d : FrameCause) → HasBadSegmentFrame bytes start epoch place c
    → HasBadSegmentFrame bytes start' epoch' other d → (place ≡ other) × (c ≡ d)
one_segment_fault bytes start start' epoch epoch' place other c d s t =
    let same = one_header bytes start epoch start' epoch' s.header t.header in
    let bad : HaveBadFrame start' (drop 24 bytes) s.behind c = subst (λ (n : ℕ). HaveBadFrame n (drop 24 bytes) s.behind c) same.0 s.bad in
    let fault = one_fault start' (drop 24 bytes) s.behind t.behind c d bad t.bad in
    (omega (arith, s.at, t.at, fault.0), fault.1)

pub some_segment : (bytes : List ℕ) (start epoch : ℕ) → IsBytes bytes → HasHeader bytes start epoch
    → ((bodies : List (List ℕ)) × (whole_length : ℕ) × IsSegmentFile bytes start epoch bodies whole_length) ⊎ ((place : ℕ) × (cause : FrameCause) × HasBadSegmentFrame bytes start epoch place cause)
some_segment bytes start epoch fits header =
    elim (some_answer start (drop 24 bytes) (bytes_after 24 bytes fits)) [
      | inl value ↦ inl (value.0, 24 + value.1, record { header = header; frames_length = value.1; frames = value.2; whole = refl })
      | inr fault ↦ inr (24 + fault.0, fault.1, record { header = header; behind = fault.0; bad = fault.2; at = refl })
    ]

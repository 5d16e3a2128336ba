-- The bytes of a segment file, taken apart and put together.
use Rattle.std.proofs.Common.{◌≡◌, ◌≢◌, ℕ, List, [], ◌∷◌, ◌++◌, ap, sym, ◌∙◌, refl, subst, arith, ◌+◌, ◌≤◌, get_or, take, drop, length, length-append, take-append-drop, append_assoc, ◌^◌}
use Rattle.std.specs.Prelude.{None}
use Rattle.std.specs.List.{flat_map}
use Rattle.std.proofs.lemmas.List.{take_at, drop_at, get_or-drop, append-nil, length-take-le}
use Rattle.std.proofs.lemmas.Grind.{flat_map-append}
use Rattle.journal_core.specs.Views.{BatchView}
use Rattle.journal_core.specs.Limits.{max_number}
use Rattle.disk_frame.specs.Frames.{frame_bytes, broken_rule, AreInOrder, IsTail}
use Rattle.disk_frame.specs.Segments.{header_bytes, IsSegmentFile}

abbrev pub all_frames : List BatchView → List ℕ
all_frames bs = flat_map frame_bytes bs

abbrev pub all_bodies : List BatchView → List (List ℕ)
all_bodies bs = flat_map (λ b. b.bodies) bs

pub record InRange (start epoch : ℕ) : Type 0 where
  pub some_start : 1 ≤ start
  pub start_within : start ≤ max_number
  pub some_epoch : 1 ≤ epoch
  pub epoch_within : epoch ≤ max_number

pub in_range : (start epoch : ℕ) → (1 ≤ start) × (start ≤ 2 ^ 62) → (1 ≤ epoch) × (epoch ≤ 2 ^ 62) → InRange start epoch
in_range start epoch a b = record { some_start = a.0; start_within = a.1; some_epoch = b.0; epoch_within = b.1 }

pub record Parts (bytes : List ℕ) (start epoch : ℕ) (bodies : List (List ℕ)) (whole : ℕ) : Type 0 where
  pub range : InRange start epoch
  pub batches : List BatchView
  pub tail : List ℕ
  pub in_order : AreInOrder start batches
  pub is_tail : IsTail tail
  pub bodies_are : bodies ≡ all_bodies batches
  pub bytes_are : bytes ≡ header_bytes start epoch ++ (all_frames batches ++ tail)
  pub whole_is : whole ≡ 24 + length (all_frames batches)

pub header_long : (start epoch : ℕ) → length (header_bytes start epoch) ≡ 24
header_long start epoch = refl

pub split : (bytes : List ℕ) (start epoch : ℕ) (bodies : List (List ℕ)) (whole : ℕ) → IsSegmentFile bytes start epoch bodies whole → Parts bytes start epoch bodies whole
split bytes start epoch bodies whole is =
    let begin = is.frames.frames in
    let front : take is.frames_length (drop 24 bytes) ≡ all_frames begin.batches = begin.spelled in
    record {
      range = record { some_start = is.header.some_start; start_within = is.header.start_within; some_epoch = is.header.some_epoch; epoch_within = is.header.epoch_within };
      batches = begin.batches;
      tail = drop is.frames_length (drop 24 bytes);
      in_order = begin.in_order;
      is_tail = is.frames.tail;
      bodies_are = begin.bodies_are;
      bytes_are = sym (take-append-drop 24 bytes) ∙ ap (λ (l : List ℕ). l ++ drop 24 bytes) is.header.spelled
          ∙ ap (λ (l : List ℕ). header_bytes start epoch ++ l) (sym (take-append-drop is.frames_length (drop 24 bytes)) ∙ ap (λ (l : List ℕ). l ++ drop is.frames_length (drop 24 bytes)) front);
      whole_is = is.whole ∙ ap (λ (n : ℕ). 24 + n) (sym (length-take-le is.frames_length (drop 24 bytes) begin.there) ∙ ap length front);
    }

pub join : (bytes : List ℕ) (start epoch : ℕ) (bodies : List (List ℕ)) (whole : ℕ) → Parts bytes start epoch bodies whole → IsSegmentFile bytes start epoch bodies whole
join bytes start epoch bodies whole parts =
    let behind : drop 24 bytes ≡ all_frames parts.batches ++ parts.tail =
    ap (λ (l : List ℕ). drop 24 l) parts.bytes_are ∙ drop_at (header_bytes start epoch) (all_frames parts.batches ++ parts.tail) 24 (header_long start epoch) in
    record {
      header = record {
        spelled = ap (λ (l : List ℕ). take 24 l) parts.bytes_are ∙ take_at (header_bytes start epoch) (all_frames parts.batches ++ parts.tail) 24 (header_long start epoch);
        some_start = parts.range.some_start;
        start_within = parts.range.start_within;
        some_epoch = parts.range.some_epoch;
        epoch_within = parts.range.epoch_within;
      };
      frames_length = length (all_frames parts.batches);
      frames = record {
        frames = record {
          batches = parts.batches;
          in_order = parts.in_order;
          bodies_are = parts.bodies_are;
          spelled = ap (λ (l : List ℕ). take (length (all_frames parts.batches)) l) behind ∙ take_at (all_frames parts.batches) parts.tail (length (all_frames parts.batches)) refl;
          there = omega (arith, ap length behind, length-append (all_frames parts.batches) parts.tail);
        };
        tail = subst IsTail (sym (ap (λ (l : List ℕ). drop (length (all_frames parts.batches)) l) behind
            ∙ drop_at (all_frames parts.batches) parts.tail (length (all_frames parts.batches)) refl)) parts.is_tail;
      };
      whole = parts.whole_is;
    }

-- a blank seal
pub blank_tail : (bytes : List ℕ) → IsTail (0 ∷ bytes)
blank_tail bytes = λ is. omega (arith, is)

-- a file without frames
pub empty_file : (start epoch : ℕ) (behind : List ℕ) → InRange start epoch → IsSegmentFile (header_bytes start epoch ++ (0 ∷ behind)) start epoch [] 24
empty_file start epoch behind range = join _ start epoch [] 24 record {
  range = range;
  batches = [];
  tail = 0 ∷ behind;
  in_order = tt;
  is_tail = blank_tail behind;
  bodies_are = refl;
  bytes_are = refl;
  whole_is = refl;
}

-- a file of one frame
pub one_frame : (epoch : ℕ) (b : BatchView) (behind : List ℕ) → InRange b.first epoch → broken_rule b.first b ≡ None
    → IsSegmentFile (header_bytes b.first epoch ++ (frame_bytes b ++ (0 ∷ behind))) b.first epoch b.bodies (24 + length (frame_bytes b))
one_frame epoch b behind range good = join _ b.first epoch b.bodies (24 + length (frame_bytes b)) record {
  range = range;
  batches = b ∷ [];
  tail = 0 ∷ behind;
  in_order = (good, tt);
  is_tail = blank_tail behind;
  bodies_are = sym (append-nil b.bodies);
  bytes_are = ap (λ (l : List ℕ). header_bytes b.first epoch ++ (l ++ (0 ∷ behind))) (sym (append-nil (frame_bytes b)));
  whole_is = ap (λ (l : List ℕ). 24 + length l) (sym (append-nil (frame_bytes b)));
}

tail_of : (bytes : List ℕ) → get_or bytes 0 0 ≢ 165 → IsTail bytes
tail_of [] blank = tt
tail_of (byte ∷ bytes) blank = blank

first_of_tail : (bytes : List ℕ) → IsTail bytes → get_or bytes 0 0 ≢ 165
first_of_tail [] tail = λ is. omega (arith, is)
first_of_tail (byte ∷ bytes) tail = tail

in_order_push : (next : ℕ) (bs : List BatchView) (b : BatchView) → AreInOrder next bs → broken_rule (next + length (all_bodies bs)) b ≡ None → AreInOrder next (bs ++ b ∷ [])
in_order_push next [] b in_order good = (ap (λ (n : ℕ). broken_rule n b) (omega arith) ∙ good, tt)
in_order_push next (x ∷ bs) b in_order good =
    (in_order.0, in_order_push (next + length x.bodies) bs b in_order.1 (ap (λ (n : ℕ). broken_rule n b) (omega (arith, length-append x.bodies (all_bodies bs))) ∙ good))

module _ (o : List ℕ) (start epoch : ℕ) (bodies : List (List ℕ)) (w : ℕ) (file : IsSegmentFile o start epoch bodies w) where
  parts : Parts o start epoch bodies w
  parts = split o start epoch bodies w file

  abbrev front : List ℕ
  front = header_bytes start epoch ++ all_frames parts.batches

  front_long : length front ≡ w
  front_long = length-append (header_bytes start epoch) (all_frames parts.batches) ∙ sym parts.whole_is

  cut_there : o ≡ front ++ parts.tail
  cut_there = parts.bytes_are ∙ sym (append_assoc (header_bytes start epoch) (all_frames parts.batches) parts.tail)

  front_is : take w o ≡ front
  front_is = ap (λ (l : List ℕ). take w l) cut_there ∙ take_at front parts.tail w front_long

  seal_is : get_or o w 0 ≡ get_or parts.tail 0 0
  seal_is = ap (λ (n : ℕ). get_or o n 0) (omega arith) ∙ sym (get_or-drop w o 0 0) ∙ ap (λ (l : List ℕ). get_or l 0 0) (ap (λ (l : List ℕ). drop w l) cut_there ∙ drop_at front parts.tail w front_long)

  pub seal_blank : get_or o w 0 ≢ 165
  seal_blank = λ is. first_of_tail parts.tail parts.is_tail (sym seal_is ∙ is)

  -- a blank seal hides what stands after it
  pub still : (n : List ℕ) → take w n ≡ take w o → get_or n w 0 ≢ 165 → IsSegmentFile n start epoch bodies w
  still n same blank = join n start epoch bodies w record {
    range = parts.range;
    batches = parts.batches;
    tail = drop w n;
    in_order = parts.in_order;
    is_tail = tail_of (drop w n) (λ is. blank (ap (λ (m : ℕ). get_or n m 0) (omega arith) ∙ sym (get_or-drop w n 0 0) ∙ is));
    bodies_are = parts.bodies_are;
    bytes_are = sym (take-append-drop w n) ∙ ap (λ (l : List ℕ). l ++ drop w n) (same ∙ front_is) ∙ append_assoc (header_bytes start epoch) (all_frames parts.batches) (drop w n);
    whole_is = parts.whole_is;
  }

  -- one frame more
  pub longer : (b : BatchView) (behind n : List ℕ) → broken_rule (start + length bodies) b ≡ None → n ≡ take w o ++ (frame_bytes b ++ (0 ∷ behind))
      → IsSegmentFile n start epoch (bodies ++ b.bodies) (w + length (frame_bytes b))
  longer b behind n good is = join n start epoch (bodies ++ b.bodies) (w + length (frame_bytes b)) record {
    range = parts.range;
    batches = parts.batches ++ b ∷ [];
    tail = 0 ∷ behind;
    in_order = in_order_push start parts.batches b parts.in_order (ap (λ (l : List (List ℕ)). broken_rule (start + length l) b) (sym parts.bodies_are) ∙ good);
    is_tail = blank_tail behind;
    bodies_are = ap (λ (l : List (List ℕ)). l ++ b.bodies) parts.bodies_are
        ∙ ap (λ (l : List (List ℕ)). all_bodies parts.batches ++ l) (sym (append-nil b.bodies))
        ∙ sym (flat_map-append (λ (x : BatchView). x.bodies) parts.batches (b ∷ []));
    bytes_are = is ∙ ap (λ (l : List ℕ). l ++ (frame_bytes b ++ (0 ∷ behind))) front_is
        ∙ append_assoc (header_bytes start epoch) (all_frames parts.batches) (frame_bytes b ++ (0 ∷ behind))
        ∙ ap (λ (l : List ℕ). header_bytes start epoch ++ l) (sym (append_assoc (all_frames parts.batches) (frame_bytes b) (0 ∷ behind)) ∙ ap (λ (l : List ℕ). l ++ (0 ∷ behind)) (sym frames_are));
    whole_is = omega (arith, parts.whole_is, ap length frames_are, length-append (all_frames parts.batches) (frame_bytes b));
  }
    where
      frames_are : all_frames (parts.batches ++ b ∷ []) ≡ all_frames parts.batches ++ frame_bytes b
      frames_are = flat_map-append frame_bytes parts.batches (b ∷ []) ∙ ap (λ (l : List ℕ). all_frames parts.batches ++ l) (append-nil (frame_bytes b))

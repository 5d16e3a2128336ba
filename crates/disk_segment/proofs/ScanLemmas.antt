-- The windows of a segment's file, in which its frames are scanned.
use Rattle.std.proofs.Common.{◌≡◌, ◌≢◌, ℕ, ◌+◌, ◌-◌, ◌≤◌, List, [], ◌++◌, length, take, drop, refl, sym, ap, subst, ◌∙◌, arith}
use Rattle.std.proofs.lemmas.List.{drop-drop, drop_all, take-append-drop, take-take, length-drop, length-take}
use Rattle.std.proofs.lemmas.Option.{same_Some}
use Rattle.std.specs.Prelude.{Option, Some, None, option_map}
use Rattle.disk_frame.specs.declared.frame_cause.FrameCause.{FrameCause}
use Rattle.disk_frame.specs.declared.frame_cause.FrameCause.TheVariants.{Short}
use Rattle.disk_frame.specs.declared.scanned.Scan.{Scan}
use Rattle.disk_frame.specs.Frames.{IsTail}
use Rattle.disk_frame.specs.Faults.{IsBadFrame, HaveBadFrame}
use Rattle.disk_frame.specs.Segments.{HasHeader, IsSegmentFile}
use Rattle.disk_frame.specs.Answers.{IsScan}
use Rattle.disk_frame.proofs.SegmentLaws.{one_header, no_segment}
use Rattle.disk_frame.proofs.PieceLaws.{in_bytes}
use Rattle.disk_frame.proofs.WindowLaws.{tail_on, bad_in_all}
use Rattle.disk_segment.specs.Scans.{IsFileScan}

-- the window of n bytes after w bytes of frames
module _ (bytes window : List ℕ) (w n : ℕ) (is : window ≡ take n (drop (24 + w) bytes)) where
  abbrev others : List ℕ
  others = drop n (drop (24 + w) bytes)

  pub split : drop w (drop 24 bytes) ≡ window ++ others
  split = drop-drop w 24 bytes ∙ (sym (take-append-drop n (drop (24 + w) bytes)) ∙ ap (λ (l : List ℕ). l ++ others) (sym is))

  -- it is all that is left of the file
  pub none_left : (rest : ℕ) → length bytes ≡ 24 + w + rest → rest ≤ n → others ≡ []
  none_left rest long le = drop_all n (drop (24 + w) bytes) (omega (arith, long, le, length-drop (24 + w) bytes))

  module _ (first skip most : ℕ) (s : Scan) (scan : IsScan first (drop 24 bytes) skip most s) (later : w ≤ s.whole_length) (within : s.whole_length ≤ w + length window) where
    stands : drop s.whole_length (drop 24 bytes) ≡ drop (s.whole_length - w) window ++ others
    stands = in_bytes w (s.whole_length - w) s.whole_length (drop 24 bytes) window others split (omega (arith, later, within)) (omega (arith, later))

    pub ended_in : IsTail (drop (s.whole_length - w) window) → (s.whole_length - w ≡ length window → others ≡ [])
        → IsScan first (drop 24 bytes) skip most s × IsTail (drop s.whole_length (drop 24 bytes))
    ended_in tail ends = (
      scan,
      subst IsTail (sym stands) (tail_on (drop (s.whole_length - w) window) others tail (λ none. ends (omega (arith, none, later, within, length-drop (s.whole_length - w) window)))),
    )

    pub bad_in : (cause : FrameCause) → IsBadFrame (first + s.count) (drop (s.whole_length - w) window) cause → (cause ≡ Short → others ≡ [])
        → (c : FrameCause) × HaveBadFrame first (drop 24 bytes) s.whole_length c
    bad_in cause bad ends = (
      cause,
      record {
        bodies = scan.all;
        frames = scan.frames;
        bad = subst (λ (p : ℕ × List ℕ). IsBadFrame (first + p.0) p.1 cause) (λ i. (scan.count i, sym stands i))
            (bad_in_all (first + s.count) (drop (s.whole_length - w) window) others cause bad ends);
      },
    )

-- ## The header
-- the front of a file that has its header
module _ (bytes front : List ℕ) (is : front ≡ take 24 bytes) where
  same_front : take 24 front ≡ take 24 bytes
  same_front = ap (take 24) is ∙ take-take 24 24 bytes (omega arith)

  pub header_in_front : (s e : ℕ) → HasHeader bytes s e → HasHeader front s e
  header_in_front s e has = record { spelled = same_front ∙ has.spelled; some_start = has.some_start; start_within = has.start_within; some_epoch = has.some_epoch; epoch_within = has.epoch_within }

  pub header_of_front : (s e : ℕ) → HasHeader front s e → HasHeader bytes s e
  header_of_front s e has = record {
    spelled = sym same_front ∙ has.spelled;
    some_start = has.some_start;
    start_within = has.start_within;
    some_epoch = has.some_epoch;
    epoch_within = has.epoch_within;
  }

-- a file of so many bytes
pub some_file : (file : Option (List ℕ)) (size : ℕ) → option_map length file ≡ Some size → (bytes : List ℕ) × (file ≡ Some bytes) × (length bytes ≡ size)
some_file None size is = absurd cc
some_file (Some bytes) size is = (bytes, refl, same_Some (length bytes) size is)

-- ## What the file is
module _ (start skip most : ℕ) (bytes : List ℕ) (s e : ℕ) (has : HasHeader bytes s e) where
  pub other_start : s ≢ start → (epoch whole_length : ℕ) (bodies : List (List ℕ)) → IsSegmentFile bytes start epoch bodies whole_length → ⊥
  other_start ne epoch whole bodies is = ne (one_header bytes s e start epoch has is.header).0

  pub scanned_whole : (scan : Scan) → s ≡ start → IsScan start (drop 24 bytes) skip most scan → IsTail (drop scan.whole_length (drop 24 bytes))
      → IsFileScan start bytes skip most (record { epoch = e; scan = scan })
  scanned_whole scan is scans tail = record {
    bodies = scans.all;
    file = record { header = subst (λ (n : ℕ). HasHeader bytes n e) is has; frames_length = scan.whole_length; frames = record { frames = scans.frames; tail = tail }; whole = refl };
    count = scans.count;
    piece = scans.piece;
  }

  pub scanned_bad : (place : ℕ) (cause : FrameCause) → s ≡ start → HaveBadFrame start (drop 24 bytes) place cause
      → (epoch whole_length : ℕ) (bodies : List (List ℕ)) → IsSegmentFile bytes start epoch bodies whole_length → ⊥
  scanned_bad place cause is bad epoch whole bodies file =
      no_segment bytes start start epoch e bodies whole (24 + place) cause file record { header = subst (λ (n : ℕ). HasHeader bytes n e) is has; behind = place; bad = bad; at = refl }

-- a file that is that of the segment has a header's room
pub header_there : (start epoch whole_length : ℕ) (bytes : List ℕ) (bodies : List (List ℕ)) → IsSegmentFile bytes start epoch bodies whole_length → 24 ≤ length bytes
header_there start epoch whole bytes bodies file = omega (arith, ap length file.header.spelled, length-take 24 bytes)

-- What the bytes of a segment's file tell, and what is told of the file.
use Rattle.std.proofs.Common.{◌≡◌, ℕ, ◌+◌, ◌-◌, ◌<◌, ◌≤◌, List, [], ◌∷◌, length, drop, refl, ap, subst, ◌∙◌, inl, inr, arith, true, false, Bool, not}
use Rattle.std.specs.Prelude.{Some, None, ◌==◌, nat_le, if◌then◌else◌}
use Rattle.std.proofs.lemmas.Bool.{leb-true, leb-false}
use Rattle.std.proofs.lemmas.Bool.Decides.{Decides-eqb}
use Rattle.base_disk.specs.Files.{Files, bytes_of}
use Rattle.disk_frame.specs.declared.frame_cause.FrameCause.{FrameCause}
use Rattle.disk_frame.specs.declared.scanned.Scan.{Scan}
use Rattle.disk_frame.specs.Frames.{IsTail, AreFrames}
use Rattle.disk_frame.specs.Faults.{HaveBadFrame}
use Rattle.disk_frame.specs.Answers.{IsScan}
use Rattle.disk_frame.specs.Segments.{HasHeader}
use Rattle.disk_frame.proofs.SegmentLaws.{one_segment, no_segment}
use Rattle.list_fsck.specs.declared.rule.Rule.TheVariants as rule
use Rattle.list_fsck.specs.declared.file_role.FileRole.TheVariants as role
use Rattle.list_fsck.specs.declared.segment_bytes.SegmentBytes.{SegmentBytes}
use Rattle.list_fsck.specs.declared.segment_bytes.SegmentBytes.TheVariants.{Bad, Whole}
use Rattle.list_fsck.specs.Segments.{TellsSegment, IsBadSegment, no_header, bad_frame, IsReadAs}
use Rattle.list_fsck.specs.Rules.{Breaks, IsFirstBroken, IsVerdict, LastDiffers}
use Rattle.list_fsck.specs.Steps.{judged_progress, judged_final}

-- ## Bytes
module _ (bytes : List ℕ) (start epoch : ℕ) (header : HasHeader bytes start epoch) (frames : List ℕ) (behind : frames ≡ drop 24 bytes) where
  pub frames_told : (s : Scan) (next : ℕ) → IsScan start frames 0 0 s → IsTail (drop s.whole_length frames) → next ≡ start + s.count → TellsSegment bytes start next
  frames_told s next scans tail is = record {
    epoch = epoch;
    bodies = scans.all;
    whole_length = 24 + s.whole_length;
    file = record {
      header = header;
      frames_length = s.whole_length;
      frames = subst (λ (l : List ℕ). AreFrames start l scans.all s.whole_length) behind record { frames = scans.frames; tail = tail };
      whole = refl;
    };
    next_is = is ∙ ap (λ (n : ℕ). start + n) scans.count;
  }

  pub frames_bad : (place at : ℕ) (cause : FrameCause) → HaveBadFrame start frames at cause → place ≡ 24 + at → IsBadSegment bytes place
  frames_bad place at cause bad is = bad_frame start epoch cause record { header = header; behind = at; bad = subst (λ (l : List ℕ). HaveBadFrame start l at cause) behind bad; at = is }

-- bytes tell one segment or have a fault
pub not_both : (bytes : List ℕ) (start next place : ℕ) → TellsSegment bytes start next → IsBadSegment bytes place → ⊥
not_both bytes start next place told (no_header none is) = none start told.epoch told.file.header
not_both bytes start next place told (bad_frame other epoch cause bad) = no_segment bytes start other told.epoch epoch told.bodies told.whole_length place cause told.file bad

pub one_content : (bytes : List ℕ) (start next start' next' : ℕ) → TellsSegment bytes start next → TellsSegment bytes start' next' → (start ≡ start') × (next ≡ next')
one_content bytes start next start' next' one two =
    let same = one_segment bytes start start' one.epoch two.epoch one.bodies two.bodies one.whole_length two.whole_length one.file two.file in
    (same.0, omega (arith, one.next_is, two.next_is, same.0, ap length same.2))

pub some_next : (bytes : List ℕ) (start next : ℕ) → TellsSegment bytes start next → 1 ≤ next
some_next bytes start next told = omega (arith, told.next_is, told.file.header.some_start)

-- ## Verdicts
not_apart : {a b : ℕ} → b < a → a ≤ b → ⊥
not_apart lt le = omega (arith, lt, le)

module _ (files : Files) (before : ℕ) (name : List ℕ) where
  progress_whole : (start told next : ℕ) (b : Bool) → (start == told) ≡ b → TellsSegment (bytes_of (files name)) told next
      → IsVerdict files before name (role.InProgress start) (if b then None else Some record { rule = rule.Start; first = start; second = told })
  progress_whole start told next true is content =
      let same : start ≡ told = (Decides-eqb start told).0 is in
      inr (
        λ v w h. h,
        inr (
          λ v w h. h,
          inr (
            λ v w h. h,
            inr (
              λ v w h. not_both (bytes_of (files name)) told next v content h.0,
              inr (
                λ v w h. h.1.differs (h.0 ∙ same ∙ (one_content (bytes_of (files name)) told next w h.1.next content h.1.content).0),
                inr (λ v w h. h, inr (λ v w h. h, inr (λ v w h. h, inr (λ v w h. h, inr (λ v w h. h, refl))))),
              ),
            ),
          ),
        ),
      )
  progress_whole start told next false is content =
      inr (
        λ v w h. h,
        inr (
          λ v w h. h,
          inr (
            λ v w h. h,
            inr (
              λ v w h. not_both (bytes_of (files name)) told next v content h.0,
              inl (start, told, (refl, record { next = next; content = content; differs = λ same. let p = (Decides-eqb start told).1 same in absurd (cc) }), refl),
            ),
          ),
        ),
      )

  pub progress_judged : (read : SegmentBytes) (start : ℕ) → IsReadAs (bytes_of (files name)) read → IsVerdict files before name (role.InProgress start) (judged_progress read start)
  progress_judged (Bad place) start bad = inr (λ v w h. h, inr (λ v w h. h, inr (λ v w h. h, inl (place, 0, (bad, refl), refl))))
  progress_judged (Whole told next) start content = progress_whole start told next (start == told) refl content

  module _ (start last told next : ℕ) (content : TellsSegment (bytes_of (files name)) told next) where
    final_whole : (b c d : Bool) → (start == told) ≡ b → (last == (next - 1)) ≡ c → nat_le start before ≡ d
        → IsVerdict files before name (role.Final start last)
        (if not b then Some record { rule = rule.Start; first = start; second = told }
        else if not c then Some record { rule = rule.Last; first = last; second = next - 1 }
        else if d then Some record { rule = rule.Apart; first = start; second = before }
        else None)
    final_whole false c d is_b is_c is_d =
        inr (
          λ v w h. h,
          inr (
            λ v w h. h,
            inr (
              λ v w h. h,
              inr (
                λ v w h. not_both (bytes_of (files name)) told next v content h.0,
                inl (start, told, (refl, record { next = next; content = content; differs = λ same. let p = (Decides-eqb start told).1 same in absurd (cc) }), refl),
              ),
            ),
          ),
        )
    final_whole true false d is_b is_c is_d =
        let same : start ≡ told = (Decides-eqb start told).0 is_b in
        inr (
          λ v w h. h,
          inr (
            λ v w h. h,
            inr (
              λ v w h. h,
              inr (
                λ v w h. not_both (bytes_of (files name)) told next v content h.0,
                inr (
                  λ v w h. h.1.differs (h.0 ∙ same ∙ (one_content (bytes_of (files name)) told next w h.1.next content h.1.content).0),
                  inl (
                    last,
                    next - 1,
                    (
                      refl,
                      record {
                        start = told;
                        next = next;
                        content = content;
                        told_is = omega (arith, some_next (bytes_of (files name)) told next content);
                        differs = λ same_last. let p = (Decides-eqb last (next - 1)).1 same_last in absurd (cc);
                      },
                    ),
                    refl,
                  ),
                ),
              ),
            ),
          ),
        )
    final_whole true true d is_b is_c is_d =
        let same : start ≡ told = (Decides-eqb start told).0 is_b in
        let same_last : last ≡ next - 1 = (Decides-eqb last (next - 1)).0 is_c in
        inr (
          λ v w h. h,
          inr (
            λ v w h. h,
            inr (
              λ v w h. h,
              inr (
                λ v w h. not_both (bytes_of (files name)) told next v content h.0,
                inr (
                  λ v w h. h.1.differs (h.0 ∙ same ∙ (one_content (bytes_of (files name)) told next w h.1.next content h.1.content).0),
                  inr (λ v w h. h.1.differs (last_told v w h.0 same_last h.1), apart d is_d),
                ),
              ),
            ),
          ),
        )
      where
        last_told : (v w : ℕ) → v ≡ last → last ≡ next - 1 → LastDiffers (files name) v w → v ≡ w
        last_told v w is is_last other = omega (arith, is, is_last, other.told_is, (one_content (bytes_of (files name)) told next other.start other.next content other.content).1)

        apart : (e : Bool) → nat_le start before ≡ e → IsFirstBroken (Breaks files before name (role.Final start last)) (rule.Apart ∷ rule.Paired ∷ rule.Digest ∷ rule.ImageBytes ∷ [])
            (if e then Some record { rule = rule.Apart; first = start; second = before } else None)
        apart true is = inl (start, before, (refl, refl, leb-true start before is), refl)
        apart false is = inr (λ v w h. not_apart (leb-false start before is) h.2, inr (λ v w h. h, inr (λ v w h. h, inr (λ v w h. h, refl))))

  pub final_judged : (read : SegmentBytes) (start last : ℕ) → IsReadAs (bytes_of (files name)) read → IsVerdict files before name (role.Final start last) (judged_final read start last before)
  final_judged (Bad place) start last bad = inr (λ v w h. h, inr (λ v w h. h, inr (λ v w h. h, inl (place, 0, (bad, refl), refl))))
  final_judged (Whole told next) start last content = final_whole start last told next content (start == told) (last == (next - 1)) (nat_le start before) refl refl refl

-- What appends, finalisations and removals make of the segments that files stand for.
use Rattle.std.proofs.Common.{inl, inr, ◌≡◌, ◌≢◌, ℕ, List, [], ◌∷◌, ◌++◌, ap, sym, ◌∙◌, refl, subst, arith, ◌+◌, true, false, take, drop, length, append_assoc}
use Rattle.std.specs.Prelude.{Option, Some, None, IsSome}
use Rattle.std.proofs.lemmas.Bool.{cases_eq}
use Rattle.base_disk.specs.Files.{Files, ChangesOnly, Moves, IsGone}
use Rattle.journal_core.specs.Views.{BatchView}
use Rattle.journal_core.specs.declared.segment.Segment.{Segment}
use Rattle.journal_core.specs.Segments.{find_segment, put_segment, remove_segment}
use Rattle.disk_frame.specs.Frames.{frame_bytes, broken_rule}
use Rattle.disk_frame.specs.Segments.{IsSegmentFile}
use Rattle.disk_segment.specs.Seal.{StaysBlank, Seals}
use Rattle.disk_segment.specs.Names.{Kind, InProgress, Final, Record, UnderWay, name_of, IsKind}
use Rattle.disk_segment.specs.Stands.{slot_of, IsRecordFile, IsFinalOf, Holds, SlotStands, StandsFor}
use Rattle.disk_segment.proofs.Frame.{no_final_same, accepted_same}
use Rattle.disk_segment.proofs.FileBytes.{still, longer}
use Rattle.disk_segment.proofs.Single.{Before, IsPlain, here, nothing, plain_here, nothing_under_way, plain_holds, put_stands, remove_stands, same_stands, same_kind_there}

-- the bytes after a set seal are a frame and a blank seal
pub opened_frame : (b : BatchView) (front behind rest : List ℕ) → 165 ∷ behind ≡ frame_bytes b ++ 0 ∷ [] → front ++ (165 ∷ (behind ++ rest)) ≡ front ++ (frame_bytes b ++ (0 ∷ rest))
opened_frame b front behind rest is =
    ap (λ (l : List ℕ). front ++ (l ++ rest)) is ∙ ap (λ (l : List ℕ). front ++ l) (append_assoc (frame_bytes b) (0 ∷ []) rest)

module _ (start : ℕ) (d : Files) (gs : List Segment) (was : Before start d gs) (g : Segment) (known : find_segment start gs ≡ Some g) (open_ : g.is_final ≡ false) where
  own : IsPlain start (slot_of d start) g
  own = plain_here start d gs was g known open_

  -- only the file in progress changes
  module _ (c : Files) (others : (m : List ℕ) → m ≢ name_of start InProgress → c m ≡ d m) where
    others_two : (m : List ℕ) → m ≢ name_of start InProgress → m ≢ name_of start InProgress → c m ≡ d m
    others_two m ne ne_again = others m ne

    same_there : (n : Kind) → IsKind start n → n ≢ InProgress → c (name_of start n) ≡ d (name_of start n)
    same_there n ok ne = same_kind_there start d gs was c InProgress InProgress tt tt others_two n ok ne ne

    slot_with : (bodies : List (List ℕ)) (bytes : List ℕ) (whole : ℕ) → c (name_of start InProgress) ≡ Some bytes → IsSegmentFile bytes start g.epoch bodies whole
        → SlotStands start (slot_of c start) (Some (record g { bodies = bodies }))
    slot_with bodies bytes whole there edits = record {
      record_ = subst IsRecordFile (sym (same_there Record tt (λ is. absurd (cc)))) (here start d gs was).record_;
      holds = plain_holds start (slot_of c start) (record g { bodies = bodies })
          (nothing_under_way start (slot_of c start) (λ epoch ok. same_there (UnderWay epoch) ok (λ is. absurd (cc)) ∙ nothing start d gs was epoch ok))
          record {
            start_is = own.start_is;
            none_final = no_final_same start (slot_of d start) (slot_of c start) (λ last ok. same_there (Final last) ok (λ is. absurd (cc))) own.none_final;
            content = record { bytes = bytes; there = there; whole_length = whole; edits = edits };
            accepted = accepted_same (d (name_of start Record)) (c (name_of start Record)) g.epoch g.accepted (same_there Record tt (λ is. absurd (cc))) own.accepted;
          }
          open_;
    }

    module _ (bytes : List ℕ) (at : ℕ) (there : d (name_of start InProgress) ≡ Some bytes) (edits : IsSegmentFile bytes start g.epoch g.bodies at) where
      -- the seal stays blank
      pub blank_stands : StaysBlank at (d (name_of start InProgress)) (c (name_of start InProgress)) → StandsFor c gs
      blank_stands blank = same_stands start d gs was c InProgress InProgress tt tt others_two
          (subst (λ (held : Option Segment). SlotStands start (slot_of c start) held) (sym known)
          (by (c (name_of start InProgress)) refl (subst (λ (f : Option (List ℕ)). StaysBlank at f (c (name_of start InProgress))) there blank)))
        where
          by : (x : Option (List ℕ)) → c (name_of start InProgress) ≡ x → StaysBlank at (Some bytes) x → SlotStands start (slot_of c start) (Some g)
          by None is blank = absurd blank
          by (Some n) is blank = slot_with g.bodies n at is (still bytes start g.epoch g.bodies at edits n blank.0 blank.2)

      -- the seal is set
      pub open_stands : (b : BatchView) (behind : List ℕ) → 165 ∷ behind ≡ frame_bytes b ++ 0 ∷ [] → broken_rule (start + length g.bodies) b ≡ None
          → Seals at behind (d (name_of start InProgress)) (c (name_of start InProgress)) → StandsFor c (put_segment (record g { bodies = g.bodies ++ b.bodies }) gs)
      open_stands b behind framed good opens =
          let is : c (name_of start InProgress) ≡ Some (take at bytes ++ (165 ∷ (behind ++ drop (at + 1 + length behind) bytes))) =
          subst (λ (f : Option (List ℕ)). Seals at behind f (c (name_of start InProgress))) there opens in
          put_stands start d gs was c InProgress InProgress tt tt others_two (record g { bodies = g.bodies ++ b.bodies }) own.start_is
          (slot_with (g.bodies ++ b.bodies) _ (at + length (frame_bytes b)) is
          (longer bytes start g.epoch g.bodies at edits b (drop (at + 1 + length behind) bytes) _ good (opened_frame b (take at bytes) behind (drop (at + 1 + length behind) bytes) framed)))

  -- the file in progress stands under the name of a final one
  pub final_stands : (c : Files) (end : ℕ) → IsKind start (Final end) → end + 1 ≡ start + length g.bodies → Moves (name_of start InProgress) (name_of start (Final end)) d c
      → StandsFor c (put_segment (record g { is_final = true; accepted = false }) gs)
  final_stands c end ok ends moves = put_stands start d gs was c InProgress (Final end) tt ok moves.others (record g { is_final = true; accepted = false }) own.start_is record {
    record_ = subst IsRecordFile (sym (same_there_two Record tt (λ is. absurd (cc)) (λ is. absurd (cc)))) (here start d gs was).record_;
    holds = inl record {
      start_is = own.start_is;
      final = refl;
      accepted = refl;
      last = end;
      valid = ok;
      ends = ends;
      content = record { bytes = own.content.bytes; there = moves.moved ∙ own.content.there; whole_length = own.content.whole_length; edits = own.content.edits };
      alone = λ other ok_other ne. same_there_two (Final other) ok_other (λ is. absurd (cc)) (λ is. ne (cc)) ∙ own.none_final.none other ok_other;
    };
  }
    where
      same_there_two : (n : Kind) → IsKind start n → n ≢ InProgress → n ≢ Final end → c (name_of start n) ≡ d (name_of start n)
      same_there_two n ok_n ne_j ne_k = same_kind_there start d gs was c InProgress (Final end) tt ok moves.others n ok_n ne_j ne_k

  -- the file in progress is removed
  pub dropped_stands : (c : Files) → ChangesOnly (name_of start InProgress) IsGone d c → StandsFor c (remove_segment start gs)
  dropped_stands c change = remove_stands start d gs was c InProgress InProgress tt tt (λ m ne ne_again. change.others m ne) record {
    record_ = subst IsRecordFile (sym (same_there c change.others Record tt (λ is. absurd (cc)))) (here start d gs was).record_;
    holds = record {
      none_final = no_final_same start (slot_of d start) (slot_of c start) (λ last ok. same_there c change.others (Final last) ok (λ is. absurd (cc))) own.none_final;
      counts = record {
        none = nothing_under_way start (slot_of c start) (λ epoch ok. same_there c change.others (UnderWay epoch) ok (λ is. absurd (cc)) ∙ nothing start d gs was epoch ok);
        there = change.here;
      };
    };
  }

-- the file of a final segment is removed
module _ (start : ℕ) (d : Files) (gs : List Segment) (was : Before start d gs) (g : Segment) (known : find_segment start gs ≡ Some g) (closed : g.is_final ≡ true)
    (end : ℕ) (ok : IsKind start (Final end)) (ends : end + 1 ≡ start + length g.bodies) where
  final_here : IsFinalOf start (slot_of d start) g
  final_here = by (subst (λ (held : Option Segment). Holds start (slot_of d start) held) known (here start d gs was).holds)
    where
      by : Holds start (slot_of d start) (Some g) → IsFinalOf start (slot_of d start) g
      by (inl is) = is
      by (inr is) = let p : true ≡ false = sym closed ∙ is.final in absurd (cc)

  last_is : final_here.last ≡ end
  last_is = omega (arith, final_here.ends, ends)

  there : IsSome (d (name_of start (Final end)))
  there = subst (λ (last : ℕ). IsSome (d (name_of start (Final last)))) last_is (subst IsSome (sym final_here.content.there) refl)

  pub removed_stands : (c : Files) → ChangesOnly (name_of start (Final end)) IsGone d c → StandsFor c (remove_segment start gs)
  removed_stands c change = remove_stands start d gs was c (Final end) (Final end) ok ok (λ m ne ne_again. change.others m ne) record {
    record_ = subst IsRecordFile (sym (same_there Record tt (λ is. absurd (cc)))) (here start d gs was).record_;
    holds = record {
      none_final = record { none = λ other ok_other. none other ok_other };
      counts = record {
        none = nothing_under_way start (slot_of c start) (λ epoch ok_epoch. same_there (UnderWay epoch) ok_epoch (λ is. absurd (cc)) ∙ nothing start d gs was epoch ok_epoch);
        there = same_there InProgress tt (λ is. absurd (cc)) ∙ was.tidy.not_both start end was.first was.small ok there;
      };
    };
  }
    where
      same_there : (n : Kind) → IsKind start n → n ≢ Final end → c (name_of start n) ≡ d (name_of start n)
      same_there n ok_n ne = same_kind_there start d gs was c (Final end) (Final end) ok ok (λ m ne_m ne_again. change.others m ne_m) n ok_n ne ne

      none : (other : ℕ) → IsKind start (Final other) → c (name_of start (Final other)) ≡ None
      none other ok_other = elim (cases_eq other end) [
        | inl is ↦ subst (λ (last : ℕ). c (name_of start (Final last)) ≡ None) (sym is) change.here
        | inr ne ↦ same_there (Final other) ok_other (λ is. ne (cc)) ∙ final_here.alone other ok_other (λ is. ne (is ∙ last_is))
      ]

-- The best of the prepare answers is one of those that count.
use Rattle.std.proofs.Common.{ℕ, ◌≡◌, ◌≤◌, ◌+◌, ◌-◌, List, [], ◌∷◌, Option, Some, None, IfSome, Bool, true, false, cond, refl, arith, suc, slice_get}
use Rattle.std.proofs.lemmas.Bool.Decides.{nat_tests}
use Rattle.journal_core.specs.declared.segment_info.SegmentInfo.{SegmentInfo}
use Rattle.journal_core.specs.declared.reply.Reply.{Reply}
use Rattle.journal_core.specs.declared.reply.Reply.TheVariants as reply
use Rattle.journal_core.specs.declared.heard.Heard.TheVariants.{Answer, Silent}
use Rattle.writer_core.specs.declared.round.Round.TheVariants as round
use Rattle.writer_core.specs.declared.slot.Slot.{Slot}
use Rattle.writer_core.specs.declared.slot.Slot.TheVariants.{Waiting, LeftOut, Told}
use Rattle.writer_core.specs.Answers.{fits_prepare, fits_told, is_ok}
use Rattle.writer_core.specs.Best.{Best, better, outranks, told_by, segment_told, segment_in, best_from, best_of}
use Rattle.writer_core.specs.Sound.{IsCounted}

-- a segment that counts, and where its answer stands in the list
record IsAt (start place : ℕ) (info : SegmentInfo) (slots : List Slot) : Type 0 where
  told : start ≤ info.end
  end_fits : info.end ≤ 4611686018427387904
  slot : Slot
  at : slice_get slots place ≡ Some slot
  ok : is_ok (round.Prepare start) slot ≡ true

told_fits : (start : ℕ) (info : SegmentInfo) → fits_told start (Some info) ≡ true → (start ≤ info.end) × (info.end ≤ 4611686018427387904)
told_fits start info h = (grind (arith, nat_tests), grind (arith, nat_tests))

told_ok : (start : ℕ) (answer : Reply) (slots : List Slot) (b : Bool) → fits_prepare start answer ≡ b
    → IfSome (segment_told b answer) (λ info. IsAt start 0 info (Told (Answer answer) ∷ slots))
told_ok start (reply.Prepared writer committed None) slots true h = tt
told_ok start (reply.Prepared writer committed (Some info)) slots true h =
    let f : (start ≤ info.end) × (info.end ≤ 4611686018427387904) = told_fits start info (grind (arith, nat_tests)) in
    record { told = f.0; end_fits = f.1; slot = Told (Answer (reply.Prepared writer committed (Some info))); at = refl; ok = h }
told_ok start _ slots true h = tt
told_ok start answer slots false h = tt

slot_in : (start : ℕ) (slot : Slot) (slots : List Slot) → IfSome (segment_in start slot) (λ info. IsAt start 0 info (slot ∷ slots))
slot_in start (Told (Answer answer)) slots = told_ok start answer slots (fits_prepare start answer) refl
slot_in start (Told Silent) slots = tt
slot_in start Waiting slots = tt
slot_in start LeftOut slots = tt

-- the place of a best one, and that it counts
record PlaceOf (start node : ℕ) (slots : List Slot) (b : Best) : Type 0 where
  place : ℕ
  is : b.node ≡ node + place
  counts : IsAt start place b.info slots

better_keeps : (P : Best → Type 0) (a b : Option Best) → IfSome a P → IfSome b P → IfSome (better a b) P
better_keeps P None b p q = q
better_keeps P (Some a) None p q = p
better_keeps P (Some a) (Some b) p q = elim (outranks b.info a.info) as (λ t. IfSome (cond t (Some b) (Some a)) P) [ true ↦ q | false ↦ p ]

told_first : (start node : ℕ) (slot : Slot) (slots : List Slot) (o : Option SegmentInfo) → IfSome o (λ info. IsAt start 0 info (slot ∷ slots))
    → IfSome (told_by node o) (PlaceOf start node (slot ∷ slots))
told_first start node slot slots None h = tt
told_first start node slot slots (Some info) h = record { place = 0; is = omega arith; counts = h }

told_later : (start node : ℕ) (slot : Slot) (slots : List Slot) (o : Option Best) → IfSome o (PlaceOf start (node + 1) slots)
    → IfSome o (PlaceOf start node (slot ∷ slots))
told_later start node slot slots None h = tt
told_later start node slot slots (Some b) h =
    record {
      place = suc h.place;
      is = omega (arith, h.is);
      counts = record { told = h.counts.told; end_fits = h.counts.end_fits; slot = h.counts.slot; at = h.counts.at; ok = h.counts.ok };
    }

best_at : (start node : ℕ) (slots : List Slot) → IfSome (best_from start node slots) (PlaceOf start node slots)
unfolding best_from
best_at start node [] = tt
best_at start node (slot ∷ slots) =
    better_keeps (PlaceOf start node (slot ∷ slots)) (told_by node (segment_in start slot)) (best_from start (node + 1) slots)
    (told_first start node slot slots (segment_in start slot) (slot_in start slot slots))
    (told_later start node slot slots (best_from start (node + 1) slots) (best_at start (node + 1) slots))

counted : (start : ℕ) (slots : List Slot) (o : Option Best) → IfSome o (PlaceOf start 1 slots) → IfSome o (λ b. IsCounted start b slots)
counted start slots None h = tt
counted start slots (Some b) h =
    let n : b.node - 1 ≡ h.place = omega (arith, h.is) in
    record {
      told = h.counts.told;
      end_fits = h.counts.end_fits;
      counted = (h.counts.slot, omega (arith, h.is), rw n h.counts.at, h.counts.ok);
    }

pub best_counted : (start : ℕ) (slots : List Slot) → IfSome (best_of start slots) (λ b. IsCounted start b slots)
best_counted start slots = counted start slots (best_of start slots) (best_at start 1 slots)

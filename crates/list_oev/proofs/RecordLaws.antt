-- Bodies and the edits of which they are the records.
use Rattle.std.proofs.Common.{◌≡◌, ◌≢◌, ℕ, List, [], ◌∷◌, ◌++◌, length, Some, None, refl, sym, ap, ◌∙◌}
use Rattle.std.specs.List.{AllByRecursion}
use Rattle.edit_codec.specs.declared.decoded.Decoded.{Decoded}
use Rattle.edit_codec.specs.declared.decoded.Decoded.TheVariants.{Edit, OutOfMemory}
use Rattle.edit_ops.specs.Records.{EditView}
use Rattle.edit_ops.specs.Grammar.{IsRecord}
use Rattle.edit_codec.proofs.DecodeLaws.{one_right_answer}
use Rattle.list_oev.specs.declared.segment_listing.SegmentCause.{SegmentCause}
use Rattle.list_oev.specs.Segment.{AreRecords}
use Rattle.list_oev.specs.Damage.{cause_of_edit, IsBadBody}

-- some edit has this record
pub record HasEdit (body : List ℕ) : Type 0 where
  pub edit : EditView
  pub is : IsRecord body edit

pub one_record : (body : List ℕ) (a b : EditView) → IsRecord body a → IsRecord body b → a ≡ b
one_record body a b p q = let h : Edit a ≡ Edit b = one_right_answer body (Edit a) (Edit b) p q (λ e. cc) (λ e. cc) in cc

not_memory : (answer : Decoded) (cause : SegmentCause) → cause_of_edit answer ≡ Some cause → answer ≢ OutOfMemory
not_memory answer cause t h = let n : None ≡ Some cause = sym (ap cause_of_edit h) ∙ t in cc

-- a record isn't bad
pub no_bad_record : (body : List ℕ) (cause : SegmentCause) → HasEdit body → IsBadBody body cause → ⊥
no_bad_record body cause r p =
    let h : Edit r.edit ≡ p.answer = one_right_answer body (Edit r.edit) p.answer r.is p.right (λ e. cc) (not_memory p.answer cause p.told) in
    let n : None ≡ Some cause = ap cause_of_edit h ∙ p.told in cc

pub one_cause : (body : List ℕ) (a b : SegmentCause) → IsBadBody body a → IsBadBody body b → a ≡ b
one_cause body a b p q =
    let h : p.answer ≡ q.answer = one_right_answer body p.answer q.answer p.right q.right (not_memory p.answer a p.told) (not_memory q.answer b q.told) in
    let n : Some a ≡ Some b = sym p.told ∙ (ap cause_of_edit h ∙ q.told) in cc

pub one_list : (bodies : List (List ℕ)) (es fs : List EditView) → AreRecords bodies es → AreRecords bodies fs → es ≡ fs
one_list [] [] [] r s = refl
one_list [] (e ∷ es) fs r s = absurd r
one_list [] [] (f ∷ fs) r s = absurd s
one_list (b ∷ bs) [] fs r s = absurd r
one_list (b ∷ bs) (e ∷ es) [] r s = absurd s
one_list (b ∷ bs) (e ∷ es) (f ∷ fs) r s =
    let h : e ≡ f = one_record b e f r.0 s.0 in
    let t : es ≡ fs = one_list bs es fs r.1 s.1 in cc

pub records_length : (bodies : List (List ℕ)) (es : List EditView) → AreRecords bodies es → length es ≡ length bodies
records_length [] [] r = refl
records_length [] (e ∷ es) r = absurd r
records_length (b ∷ bs) [] r = absurd r
records_length (b ∷ bs) (e ∷ es) r = let t : length es ≡ length bs = records_length bs es r.1 in cc

pub records_append : (xs ys : List (List ℕ)) (es fs : List EditView) → AreRecords xs es → AreRecords ys fs → AreRecords (xs ++ ys) (es ++ fs)
records_append [] ys [] fs r s = s
records_append [] ys (e ∷ es) fs r s = absurd r
records_append (x ∷ xs) ys [] fs r s = absurd r
records_append (x ∷ xs) ys (e ∷ es) fs r s = (r.0, records_append xs ys es fs r.1 s)

pub each_has : (bodies : List (List ℕ)) (es : List EditView) → AreRecords bodies es → AllByRecursion HasEdit bodies
each_has [] es r = tt
each_has (b ∷ bs) [] r = absurd r
each_has (b ∷ bs) (e ∷ es) r = (record { edit = e; is = r.0 }, each_has bs es r.1)

pub each_split : (xs ys : List (List ℕ)) → AllByRecursion HasEdit (xs ++ ys) → AllByRecursion HasEdit xs × AllByRecursion HasEdit ys
each_split [] ys h = (tt, h)
each_split (x ∷ xs) ys h = let t = each_split xs ys h.1 in ((h.0, t.0), t.1)

pub no_bad_among : (xs : List (List ℕ)) (body : List ℕ) (others : List (List ℕ)) (cause : SegmentCause) → AllByRecursion HasEdit (xs ++ body ∷ others) → IsBadBody body cause → ⊥
no_bad_among xs body others cause h p = no_bad_record body cause (each_split xs (body ∷ others) h).1.0 p

-- The first body that is no edit's record.
pub first_bad : (xs ys : List (List ℕ)) (a b : List ℕ) (os ps : List (List ℕ)) (c d : SegmentCause) → AllByRecursion HasEdit xs → AllByRecursion HasEdit ys
    → IsBadBody a c → IsBadBody b d → xs ++ a ∷ os ≡ ys ++ b ∷ ps → (xs ≡ ys) × (a ≡ b)
first_bad [] [] a b os ps c d hx hy p q e = (refl, cc)
first_bad [] (y ∷ ys) a b os ps c d hx hy p q e = let h : y ≡ a = cc in absurd (no_bad_record a c (rw h at hy.0) p)
first_bad (x ∷ xs) [] a b os ps c d hx hy p q e = let h : x ≡ b = cc in absurd (no_bad_record b d (rw h at hx.0) q)
first_bad (x ∷ xs) (y ∷ ys) a b os ps c d hx hy p q e =
    let h : x ≡ y = cc in
    let t = first_bad xs ys a b os ps c d hx.1 hy.1 p q cc in (cc, t.1)

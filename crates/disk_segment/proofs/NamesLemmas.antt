-- Different files of segments have different names.
use Rattle.std.proofs.Common.{◌≡◌, ◌≢◌, ℕ, zero, suc, ◌+◌, ◌/◌, ◌%◌, append_assoc, List, [], ◌∷◌, ◌++◌, ap, sym, ◌∙◌, refl, arith, ◌^◌, ◌≤◌, get_or, take, drop, length, false, true, Bool}
use Rattle.std.specs.Prelude.{◌==◌}
use Rattle.std.proofs.lemmas.Bool.Decides.{nat_tests}
use Rattle.std.proofs.lemmas.List.{take_at, drop_at}
use Rattle.std.proofs.lemmas.Fmt.{decimal_injective}
use Rattle.base_words.specs.Padded.{padded}
use Rattle.base_words.proofs.PaddedLaws.{length-padded, padded_injective}
use Rattle.disk_segment.specs.Names.{Kind, InProgress, Final, Record, UnderWay, Fresh, FreshRecord, Front, progress, final, record_, front_of, front_text, rest_of, name_of, IsKind}

-- the front, the digits and the rest of a name
record Shape : Type 0 where
  front : Front
  digits : List ℕ
  rest : List ℕ

abbrev shape_with : Front → List ℕ → List ℕ → Shape
shape_with front digits rest = record { front = front; digits = digits; rest = rest }

abbrev cut_at : Front → ℕ → List ℕ → Shape
cut_at front at name = record { front = front; digits = take 19 (drop at name); rest = drop 19 (drop at name) }

abbrev shape_by : Bool → Bool → List ℕ → Shape
shape_by true b name = cut_at record_ 6 name
shape_by false true name = cut_at progress 17 name
shape_by false false name = cut_at final 6 name

abbrev pub front_by : Bool → Bool → Front
front_by true b = record_
front_by false true = progress
front_by false false = final

abbrev shape : List ℕ → Shape
shape name = shape_by (get_or name 0 0 == 112) (get_or name 6 0 == 105) name

digit_first : (k n : ℕ) (rest : List ℕ) → get_or (padded (suc k) n ++ rest) 0 0 ≢ 105
unfolding padded
digit_first zero n rest = λ is. omega (arith, is)
digit_first (suc k) n rest = λ is. digit_first k (n / 10) ((48 + n % 10) ∷ rest) (ap (λ (l : List ℕ). get_or l 0 0) (sym (append_assoc (padded (suc k) (n / 10)) ((48 + n % 10) ∷ []) rest)) ∙ is)

not_equal : (a b : ℕ) → a ≢ b → (a == b) ≡ false
not_equal a b ne = grind (arith, nat_tests)

module _ (digits rest : List ℕ) (long : length digits ≡ 19) where
  cut_is : (front : Front) → shape_with front (take 19 (digits ++ rest)) (drop 19 (digits ++ rest)) ≡ shape_with front digits rest
  cut_is front = λ i. shape_with front (take_at digits rest 19 long i) (drop_at digits rest 19 long i)

  shape_text : (front : Front) → get_or (digits ++ rest) 0 0 ≢ 105 → shape (front_text front ++ (digits ++ rest)) ≡ shape_with front digits rest
  shape_text progress is_digit = cut_is progress
  shape_text record_ is_digit = cut_is record_
  shape_text final is_digit = ap (λ (b : Bool). shape_by false b (front_text final ++ (digits ++ rest))) (not_equal (get_or (digits ++ rest) 0 0) 105 is_digit) ∙ cut_is final

pub shape_is : (start : ℕ) (kind : Kind) → shape (name_of start kind) ≡ shape_with (front_of kind) (padded 19 start) (rest_of kind)
unfolding name_of
shape_is start kind = shape_text (padded 19 start) (rest_of kind) (length-padded 19 start) (front_of kind) (digit_first 18 start (rest_of kind))

kind_by : (start : ℕ) (j k : Kind) → IsKind start j → IsKind start k → front_of j ≡ front_of k → rest_of j ≡ rest_of k → j ≡ k
kind_by start InProgress InProgress ok_j ok_k fronts rests = refl
kind_by start Record Record ok_j ok_k fronts rests = refl
kind_by start Fresh Fresh ok_j ok_k fronts rests = refl
kind_by start FreshRecord FreshRecord ok_j ok_k fronts rests = refl
kind_by start (Final m) (Final n) ok_j ok_k fronts rests = ap Final (padded_injective m n ok_j.1 ok_k.1 (ap (λ (l : List ℕ). drop 1 l) rests))
kind_by start (UnderWay d) (UnderWay e) ok_j ok_k fronts rests = ap UnderWay (decimal_injective d e (omega (arith, ok_j.1)) (omega (arith, ok_k.1)) (ap (λ (l : List ℕ). drop 7 l) rests))
kind_by start _ _ ok_j ok_k fronts rests = absurd (cc)

-- the files of different segments, and of one segment different files, have different names
pub same_start : (M N : ℕ) (j k : Kind) → M ≤ 2 ^ 62 → N ≤ 2 ^ 62 → name_of M j ≡ name_of N k → M ≡ N
same_start M N j k small_m small_n same = padded_injective M N small_m small_n (ap (λ (s : Shape). s.digits) (sym (shape_is M j) ∙ ap shape same ∙ shape_is N k))

pub same_kind : (M : ℕ) (j k : Kind) → IsKind M j → IsKind M k → name_of M j ≡ name_of M k → j ≡ k
same_kind M j k ok_j ok_k same =
    let shapes = sym (shape_is M j) ∙ ap shape same ∙ shape_is M k in
    kind_by M j k ok_j ok_k (ap (λ (s : Shape). s.front) shapes) (ap (λ (s : Shape). s.rest) shapes)

same_front_by : (a b : Bool) (name : List ℕ) → front_by a b ≡ (shape_by a b name).front
same_front_by true b name = refl
same_front_by false true name = refl
same_front_by false false name = refl

same_front : (name : List ℕ) → front_by (get_or name 0 0 == 112) (get_or name 6 0 == 105) ≡ (shape name).front
same_front name = same_front_by (get_or name 0 0 == 112) (get_or name 6 0 == 105) name

-- the front of a name
abbrev pub front_in : List ℕ → Front
front_in name = front_by (get_or name 0 0 == 112) (get_or name 6 0 == 105)

pub front_is : (start : ℕ) (kind : Kind) → front_in (name_of start kind) ≡ front_of kind
front_is start kind = same_front (name_of start kind) ∙ ap (λ (s : Shape). s.front) (shape_is start kind)

-- The reader of rows goes by the definition of what the columns say.
use Rattle.std.proofs.Common.{ℕ, suc, ◌≡◌, ◌<◌, ◌≤◌, ◌+◌, ◌-◌, ◌*◌, ◌%◌, ◌==◌, nat_lt, inl, inr, List, [], ◌∷◌, ◌++◌, Bool, true, false, Option, Some, None, length}
use Rattle.std.proofs.Common.{drop, take, get_or, sym, ap, ◌∙◌, arith, append-nil, append_assoc, if◌then◌else◌}
use Rattle.std.specs.List.{All, fold, slice_split}
use Rattle.std.proofs.lemmas.Bool.{cases_lt}
use Rattle.std.proofs.lemmas.Bool.Decides.{nat_tests}
use Rattle.std.proofs.lemmas.List.{drop_more, drop_all}
use Rattle.std.proofs.lemmas.List.Sums.{fold_more, fails_before_first}
use Rattle.std.proofs.lemmas.List.Splits.{slice_split_first, slice_split_none}
use Rattle.report_judge.specs.Rows.{columns_in, is_refused, wide_from, bit_of, with_bit, is_sticky, with_sticky, permission_in, least_of, lengths_of}
use Rattle.report_judge.specs.Cuts.{place_in, cut_in}

-- ## Columns
below : (n m : ℕ) → n < m → nat_lt n m ≡ true
below n m l = grind (arith, nat_tests)

not_below : (n m : ℕ) → m ≤ n → nat_lt n m ≡ false
not_below n m l = grind (arith, nat_tests)

abbrev some_cut : Option (List ℕ × List ℕ) → List ℕ × List ℕ
some_cut (Some p) = p
some_cut None = ([], [])

-- a text with a byte of the kind, and one without
cut_some : (c : ℕ) (xs : List ℕ) → place_in c xs < length xs → cut_in c xs ≡ Some (take (place_in c xs) xs, drop (place_in c xs + 1) xs)
unfolding cut_in
cut_some c xs l = ap (λ b. if b then Some (take (place_in c xs) xs, drop (place_in c xs + 1) xs) else None) (below (place_in c xs) (length xs) l)

cut_no : (c : ℕ) (xs : List ℕ) → length xs ≤ place_in c xs → cut_in c xs ≡ None
unfolding cut_in
cut_no c xs l = ap (λ b. if b then Some (take (place_in c xs) xs, drop (place_in c xs + 1) xs) else None) (not_below (place_in c xs) (length xs) l)

pub column_first : (xs a b : List ℕ) → cut_in 9 xs ≡ Some (a, b) → columns_in xs ≡ a ∷ columns_in b
unfolding columns_in
column_first xs a b e = elim (cases_lt (place_in 9 xs) (length xs)) [
  | inl l ↦
      let same : (take (place_in 9 xs) xs, drop (place_in 9 xs + 1) xs) ≡ (a, b) = ap some_cut (sym (cut_some 9 xs l) ∙ e) in
      slice_split_first (λ b. b == 9) xs 0 l ∙ ap (λ (p : List ℕ × List ℕ). p.0 ∷ slice_split (λ b. b == 9) p.1) same
  | inr l ↦ absurd (let q : None ≡ Some (a, b) = sym (cut_no 9 xs l) ∙ e in cc)
]

none_passes : (xs : List ℕ) → length xs ≤ place_in 9 xs → All (λ b. (b == 9) ≡ false) xs
none_passes xs l k d h = fails_before_first (λ b. b == 9) xs k d (omega (arith, l, h))

pub column_only : (xs : List ℕ) → cut_in 9 xs ≡ None → columns_in xs ≡ xs ∷ []
unfolding columns_in
column_only xs e = elim (cases_lt (place_in 9 xs) (length xs)) [
  | inl l ↦ absurd (let q : None ≡ Some (take (place_in 9 xs) xs, drop (place_in 9 xs + 1) xs) = sym e ∙ cut_some 9 xs l in cc)
  | inr l ↦ slice_split_none (λ b. b == 9) xs (none_passes xs l)
]

pub ruleset columns = (column_first, column_only)

-- ## Sizes
wide_at : (n : ℕ) (xs : List ℕ) (i d : ℕ) (b : Bool) → i < length xs → is_refused n (get_or xs i d) ≡ b
    → wide_from n (drop i xs) ≡ (if b then None else wide_from (n * 10 + get_or xs i d % 16) (drop (i + 1) xs))
unfolding wide_from
wide_at n xs i d b l e = ap (wide_from n) (drop_more xs i d l) ∙ ap (λ t. if t then None else wide_from (n * 10 + get_or xs i d % 16) (drop (i + 1) xs)) e

pub size_more : (n new : ℕ) (xs : List ℕ) (i d byte : ℕ) (all : Option ℕ) → wide_from n (drop i xs) ≡ all → i < length xs → byte ≡ get_or xs i d → is_refused n byte ≡ false
    → new ≡ n * 10 + byte % 16
    → wide_from new (drop (i + 1) xs) ≡ all
size_more n new xs i d byte all h l b r e =
    ap (λ m. wide_from m (drop (i + 1) xs)) (e ∙ ap (λ c. n * 10 + c % 16) b) ∙ sym (wide_at n xs i d false l (ap (is_refused n) (sym b) ∙ r)) ∙ h

pub size_refused : (n : ℕ) (xs : List ℕ) (i d byte : ℕ) (all : Option ℕ) → wide_from n (drop i xs) ≡ all → i < length xs → byte ≡ get_or xs i d → is_refused n byte ≡ true → None ≡ all
size_refused n xs i d byte all h l b r = sym (wide_at n xs i d true l (ap (is_refused n) (sym b) ∙ r)) ∙ h

pub size_over : (n : ℕ) (xs : List ℕ) (i : ℕ) (all : Option ℕ) → wide_from n (drop i xs) ≡ all → length xs ≤ i → Some n ≡ all
unfolding wide_from
size_over n xs i all h l = sym (ap (wide_from n) (drop_all i xs l)) ∙ h

pub ruleset sizes = (size_more, size_refused, size_over)

-- ## Permissions
pub bits_more : (p new : ℕ) (xs : List ℕ) (i d letter bit : ℕ) → p ≡ fold with_bit 0 (take i xs) → i < length xs → letter ≡ get_or xs i d → bit ≡ bit_of letter → new ≡ p % 256 * 2 + bit
    → new ≡ fold with_bit 0 (take (i + 1) xs)
bits_more p new xs i d letter bit h l e b n =
    n ∙ ap (λ c. p % 256 * 2 + c) (b ∙ ap bit_of e) ∙ ap (λ q. with_bit q (get_or xs i d)) h ∙ sym (fold_more with_bit 0 xs i d l)

pub ruleset bits = (bits_more)

permission_is : (p : ℕ) (letters rest : List ℕ) (s : Bool) → p ≡ fold with_bit 0 rest → rest ≡ drop 1 letters → s ≡ is_sticky letters → with_sticky s p ≡ permission_in letters
unfolding permission_in
permission_is p letters rest s h e k = λ i. with_sticky (k i) ((h ∙ ap (fold with_bit 0) e) i)

pub sticky_is : (p : ℕ) (letters rest : List ℕ) → p ≡ fold with_bit 0 rest → rest ≡ drop 1 letters → is_sticky letters ≡ true → p % 512 + 512 ≡ permission_in letters
sticky_is p letters rest h e k = permission_is p letters rest true h e (sym k)

pub plain_is : (p : ℕ) (letters rest : List ℕ) → p ≡ fold with_bit 0 rest → rest ≡ drop 1 letters → is_sticky letters ≡ false → p ≡ permission_in letters
plain_is p letters rest h e k = permission_is p letters rest false h e (sym k)

pub ruleset permissions = (sticky_is, plain_is)

-- ## Lengths
pub lengths_more : (blocks made left rest length_ : ℕ) (done new all : List ℕ) → done ++ lengths_of (blocks - made) left ≡ all → made < blocks → length_ ≡ least_of left → rest ≡ left - length_
    → new ≡ done ++ length_ ∷ [] → new ++ lengths_of (blocks - (made + 1)) rest ≡ all
unfolding lengths_of
lengths_more blocks made left rest length_ done new all h l e r n =
    let some : blocks - made ≡ suc (blocks - (made + 1)) = omega (arith, l) in
    (λ i. (n ∙ ap (λ k. done ++ k ∷ []) e) i ++ lengths_of (blocks - (made + 1)) ((r ∙ ap (λ k. left - k) e) i))
    ∙ append_assoc done (least_of left ∷ []) (lengths_of (blocks - (made + 1)) (left - least_of left)) ∙ ap (λ k. done ++ lengths_of k left) (sym some) ∙ h

pub lengths_over : (blocks made left : ℕ) (done all : List ℕ) → done ++ lengths_of (blocks - made) left ≡ all → blocks ≤ made → done ≡ all
unfolding lengths_of
lengths_over blocks made left done all h l =
    let none : blocks - made ≡ 0 = omega (arith, l) in sym (append-nil done) ∙ ap (λ k. done ++ lengths_of k left) (sym none) ∙ h

pub ruleset lengths = (lengths_more, lengths_over)

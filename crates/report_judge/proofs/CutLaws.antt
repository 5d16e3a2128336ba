-- Texts at a byte that stands first.
use Rattle.std.proofs.Common.{ℕ, suc, ◌≡◌, ◌≢◌, ◌<◌, ◌≤◌, ◌+◌, ◌-◌, ◌==◌, ◌||◌, nat_lt, List, [], ◌∷◌, ◌++◌, Bool, true, false, cond, not, Option, Some, None, length, take, drop, get_or}
use Rattle.std.proofs.Common.{refl, sym, ap, ◌∙◌, arith, append_assoc, length-append, if◌then◌else◌}
use Rattle.std.specs.Prelude.{codes, is_some}
use Rattle.std.specs.List.{position_or_len}
use Rattle.std.specs.Str.{bytes_eq}
use Rattle.std.proofs.lemmas.Bool.Decides.{nat_tests}
use Rattle.std.proofs.lemmas.Bool.{false_from_ne_true}
use Rattle.std.proofs.lemmas.Slice.Eq.{bytes_eq-Decides}
use Rattle.std.proofs.lemmas.List.{take_at, drop_at}
use Rattle.std.proofs.lemmas.List.Sums.{position_or_len_is}
use Rattle.memchr.specs.Find.{IsFirstByte, is_byte}
use Rattle.play_script.specs.Lines.{Lacks}
use Rattle.report_judge.specs.Cuts.{place_in, cut_to, cut_in, has_arrow, arrow_at, arrow_in}
use Rattle.report_judge.proofs.PieceLaws.{not_byte}

same_byte : (c : ℕ) → (c == c) ≡ true
same_byte c = grind (arith, nat_tests)

-- ## The place
pub place_after : (c : ℕ) (xs rest : List ℕ) → Lacks c xs → place_in c (xs ++ c ∷ rest) ≡ length xs
place_after c [] rest h = ap (λ (b : Bool). cond (not b) (1 + position_or_len (λ b. b == c) rest) 0) (same_byte c)
place_after c (x ∷ xs) rest h =
    ap (λ (b : Bool). cond (not b) (1 + position_or_len (λ b. b == c) (xs ++ c ∷ rest)) 0) (not_byte x c h.0) ∙ ap (λ n. 1 + n) (place_after c xs rest h.1)
    ∙ omega arith

pub place_none : (c : ℕ) (xs : List ℕ) → Lacks c xs → place_in c xs ≡ length xs
place_none c [] h = refl
place_none c (x ∷ xs) h =
    ap (λ (b : Bool). cond (not b) (1 + position_or_len (λ b. b == c) xs) 0) (not_byte x c h.0) ∙ ap (λ n. 1 + n) (place_none c xs h.1) ∙ omega arith

-- what a search of bytes finds
pub byte_found : (c : ℕ) (xs : List ℕ) (i : ℕ) → IsFirstByte (is_byte c) xs (Some i) → i ≡ place_in c xs
byte_found c xs i h = sym (position_or_len_is (λ b. b == c) xs i 0 (omega (arith, h.0.high)) (λ k l. false_from_ne_true (get_or xs k 0 == c) (h.0.before k (omega arith) l)) (λ l. h.1))

pub byte_missed : (c : ℕ) (xs : List ℕ) → IsFirstByte (is_byte c) xs None → length xs ≡ place_in c xs
byte_missed c xs h = sym (position_or_len_is (λ b. b == c) xs (length xs) 0 (omega arith) (λ k l. false_from_ne_true (get_or xs k 0 == c) (h k (omega arith) l)) (λ l. absurd (omega arith)))

pub ruleset places = (byte_found, byte_missed)

-- ## Cuts
below : (n m : ℕ) → n < m → nat_lt n m ≡ true
below n m l = grind (arith, nat_tests)

not_below : (n m : ℕ) → m ≤ n → nat_lt n m ≡ false
not_below n m l = grind (arith, nat_tests)

drop_next : (xs : List ℕ) (c : ℕ) (rest : List ℕ) → drop (length xs + 1) (xs ++ c ∷ rest) ≡ rest
drop_next xs c rest = ap (drop (length xs + 1)) (sym (append_assoc xs (c ∷ []) rest)) ∙ drop_at (xs ++ c ∷ []) rest (length xs + 1) (length-append xs (c ∷ []))

pub cut_back : (c : ℕ) (xs rest : List ℕ) → Lacks c xs → cut_in c (xs ++ c ∷ rest) ≡ Some (xs, rest)
unfolding cut_in
cut_back c xs rest h =
    let size : length (xs ++ c ∷ rest) ≡ length xs + suc (length rest) = length-append xs (c ∷ rest) in
    ap (cut_to (xs ++ c ∷ rest)) (place_after c xs rest h)
    ∙ ap (λ b. if b then Some (take (length xs) (xs ++ c ∷ rest), drop (length xs + 1) (xs ++ c ∷ rest)) else None) (below (length xs) (length (xs ++ c ∷ rest)) (omega (arith, size)))
    ∙ ap (λ t. Some (t, drop (length xs + 1) (xs ++ c ∷ rest))) (take_at xs (c ∷ rest) (length xs) refl) ∙ ap (λ t. Some (xs, t)) (drop_next xs c rest)

pub arrow_missed : (line : List ℕ) → Lacks 62 line → has_arrow line ≡ false
unfolding has_arrow
arrow_missed line h = ap (λ n. nat_lt n (length line)) (place_none 62 line h) ∙ not_below (length line) (length line) (omega arith)

pub Lacks-append : (c : ℕ) (xs ys : List ℕ) → Lacks c xs → Lacks c ys → Lacks c (xs ++ ys)
Lacks-append c [] ys h k = k
Lacks-append c (x ∷ xs) ys h k = (h.0, Lacks-append c xs ys h.1 k)

-- a text with an arrow, by what stands behind what was asked
arrow_on : List ℕ → List ℕ → List ℕ
arrow_on asked told = asked ++ (codes " -> " ++ told)

arrow_place : (asked told : List ℕ) → Lacks 62 asked → place_in 62 (asked ++ (codes " -> " ++ told)) ≡ length asked + 2
arrow_place asked told h =
    ap (place_in 62) (sym (append_assoc asked (codes " -") (62 ∷ 32 ∷ told))) ∙ place_after 62 (asked ++ codes " -") (32 ∷ told) (Lacks-append 62 asked (codes " -") h ((λ e. cc), ((λ e. cc), tt)))
    ∙ length-append asked (codes " -")

arrow_size : (asked told : List ℕ) → length (asked ++ (codes " -> " ++ told)) ≡ length asked + suc (suc (suc (suc (length told))))
arrow_size asked told = length-append asked (codes " -> " ++ told)

has_there : (asked told : List ℕ) → Lacks 62 asked → has_arrow (asked ++ (codes " -> " ++ told)) ≡ true
unfolding has_arrow
has_there asked told h =
    let size = arrow_size asked told in
    ap (λ n. nat_lt n (length (asked ++ (codes " -> " ++ told)))) (arrow_place asked told h) ∙ below (length asked + 2) (length (asked ++ (codes " -> " ++ told))) (omega (arith, size))

pub arrow_there : (asked told : List ℕ) → Lacks 62 asked → has_arrow (asked ++ codes " -> " ++ told) ≡ true
arrow_there asked told h = ap has_arrow (append_assoc asked (codes " -> ") told) ∙ has_there asked told h

back_there : (asked told : List ℕ) → Lacks 62 asked → arrow_in (asked ++ (codes " -> " ++ told)) ≡ Some (asked, told)
unfolding arrow_in
back_there asked told h =
    let text = asked ++ (codes " -> " ++ told) in
    let size = arrow_size asked told in
    let low : (nat_lt (length asked + 2) 2 || nat_lt (length text) (length asked + 2 + 2)) ≡ false =
    ap (λ b. b || nat_lt (length text) (length asked + 2 + 2)) (not_below (length asked + 2) 2 (omega arith)) ∙ not_below (length text) (length asked + 2 + 2) (omega (arith, size)) in
    let at : length asked + 2 - 2 ≡ length asked = omega arith in
    let rest : drop (length asked) text ≡ codes " -> " ++ told = drop_at asked (codes " -> " ++ told) (length asked) refl in
    ap (arrow_at text) (arrow_place asked told h)
    ∙ ap (λ b. if b then None else (if bytes_eq (take 4 (drop (length asked + 2 - 2) text)) (codes " -> ") then Some (
      take (length asked + 2 - 2) text,
      drop 4 (drop
          (length asked + 2 - 2) text),
    ) else None)) low
    ∙ ap (λ n. if bytes_eq (take 4 (drop n text)) (codes " -> ") then Some (take n text, drop 4 (drop n text)) else None) at
    ∙ ap (λ r. if bytes_eq (take 4 r) (codes " -> ") then Some (take (length asked) text, drop 4 r) else None) rest
    ∙ ap (λ t. Some (t, told)) (take_at asked (codes " -> " ++ told) (length asked) refl)

pub arrow_back : (asked told : List ℕ) → Lacks 62 asked → arrow_in (asked ++ codes " -> " ++ told) ≡ Some (asked, told)
arrow_back asked told h = ap arrow_in (append_assoc asked (codes " -> ") told) ∙ back_there asked told h

-- ## Cuts that a search of bytes finds
pub cut_found : (c : ℕ) (xs : List ℕ) (i : ℕ) → IsFirstByte (is_byte c) xs (Some i) → cut_in c xs ≡ Some (take i xs, drop (i + 1) xs)
unfolding cut_in
cut_found c xs i h =
    let high = h.0.high in
    ap (cut_to xs) (sym (byte_found c xs i h)) ∙ ap (λ b. if b then Some (take i xs, drop (i + 1) xs) else None) (below i (length xs) (omega (arith, high)))

pub cut_missed : (c : ℕ) (xs : List ℕ) → IsFirstByte (is_byte c) xs None → cut_in c xs ≡ None
unfolding cut_in
cut_missed c xs h =
    ap (cut_to xs) (sym (byte_missed c xs h)) ∙ ap (λ b. if b then Some (take (length xs) xs, drop (length xs + 1) xs) else None) (not_below (length xs) (length xs) (omega arith))

pub arrow_by : (xs : List ℕ) (r : Option ℕ) → IsFirstByte (is_byte 62) xs r → is_some r ≡ has_arrow xs
unfolding has_arrow
arrow_by xs (Some i) h = let high = h.0.high in sym (ap (λ n. nat_lt n (length xs)) (sym (byte_found 62 xs i h)) ∙ below i (length xs) (omega (arith, high)))
arrow_by xs None h = sym (ap (λ n. nat_lt n (length xs)) (sym (byte_missed 62 xs h)) ∙ not_below (length xs) (length xs) (omega arith))

pub cut_parts : (c : ℕ) (xs : List ℕ) (i : ℕ) (a b : List ℕ) → IsFirstByte (is_byte c) xs (Some i) → a ≡ take i xs → b ≡ drop (i + 1) xs → cut_in c xs ≡ Some (a, b)
cut_parts c xs i a b h e f = cut_found c xs i h ∙ sym (λ j. Some (e j, f j))

pub ruleset finds = (cut_parts, cut_missed, arrow_by)

or_second : (a b : Bool) → b ≡ true → (a || b) ≡ true
or_second true b e = refl
or_second false b e = e

abbrev arrow_if : List ℕ → ℕ → Bool → Option (List ℕ × List ℕ)
arrow_if line at short =
    if short then None
    else (if bytes_eq (take 4 (drop (at - 2) line)) (codes " -> ") then Some (take (at - 2) line, drop 4 (drop (at - 2) line)) else None)

pub no_arrow : (xs : List ℕ) → IsFirstByte (is_byte 62) xs None → arrow_in xs ≡ None
unfolding arrow_in
no_arrow xs h =
    ap (arrow_at xs) (sym (byte_missed 62 xs h))
    ∙ ap (arrow_if xs (length xs)) (or_second (nat_lt (length xs) 2) (nat_lt (length xs) (length xs + 2)) (below (length xs) (length xs + 2) (omega arith)))

pub arrow_low : (xs : List ℕ) (i : ℕ) → IsFirstByte (is_byte 62) xs (Some i) → i < 2 → arrow_in xs ≡ None
unfolding arrow_in
arrow_low xs i h l = ap (arrow_at xs) (sym (byte_found 62 xs i h)) ∙ ap (λ b. arrow_if xs i (b || nat_lt (length xs) (i + 2))) (below i 2 l)

pub arrow_near : (xs : List ℕ) (i : ℕ) → IsFirstByte (is_byte 62) xs (Some i) → length xs < i + 2 → arrow_in xs ≡ None
unfolding arrow_in
arrow_near xs i h l =
    ap (arrow_at xs) (sym (byte_found 62 xs i h)) ∙ ap (arrow_if xs i) (or_second (nat_lt i 2) (nat_lt (length xs) (i + 2)) (below (length xs) (i + 2) l))

arrow_far : (xs : List ℕ) (i : ℕ) → IsFirstByte (is_byte 62) xs (Some i) → 2 ≤ i → i + 2 ≤ length xs
    → arrow_in xs ≡ (if bytes_eq (take 4 (drop (i - 2) xs)) (codes " -> ") then Some (take (i - 2) xs, drop 4 (drop (i - 2) xs)) else None)
unfolding arrow_in
arrow_far xs i h l m =
    ap (arrow_at xs) (sym (byte_found 62 xs i h))
    ∙ ap (arrow_if xs i) (ap (λ b. b || nat_lt (length xs) (i + 2)) (not_below i 2 l) ∙ not_below (length xs) (i + 2) m)

pub arrow_is : (xs : List ℕ) (i : ℕ) → IsFirstByte (is_byte 62) xs (Some i) → 2 ≤ i → i + 2 ≤ length xs → bytes_eq (take 4 (drop (i - 2) xs)) (codes " -> ") ≡ true
    → arrow_in xs ≡ Some (take (i - 2) xs, drop 4 (drop (i - 2) xs))
arrow_is xs i h l m e = arrow_far xs i h l m ∙ ap (λ b. if b then Some (take (i - 2) xs, drop 4 (drop (i - 2) xs)) else None) e

is_not : (b : Bool) → (b ≡ true → ⊥) → b ≡ false
is_not true n = absurd (n refl)
is_not false n = refl

pub arrow_other : (xs mark rest : List ℕ) (i : ℕ) → IsFirstByte (is_byte 62) xs (Some i) → 2 ≤ i → i + 2 ≤ length xs → rest ≡ drop (i - 2) xs → mark ≡ take 4 rest → mark ≢ codes " -> "
    → arrow_in xs ≡ None
arrow_other xs mark rest i h l m r k n =
    let apart : bytes_eq (take 4 (drop (i - 2) xs)) (codes " -> ") ≡ false =
    is_not (bytes_eq (take 4 (drop (i - 2) xs)) (codes " -> ")) (λ t. n (k ∙ ap (take 4) r ∙ (bytes_eq-Decides (take 4 (drop (i - 2) xs)) (codes " -> ")).0 t)) in
    arrow_far xs i h l m ∙ ap (λ b. if b then Some (take (i - 2) xs, drop 4 (drop (i - 2) xs)) else None) apart

pub arrow_unlike : (xs mark rest : List ℕ) (i : ℕ) → IsFirstByte (is_byte 62) xs (Some i) → 2 ≤ i → i + 2 ≤ length xs → rest ≡ drop (i - 2) xs → mark ≡ take 4 rest
    → bytes_eq mark (codes " -> ") ≡ false
    → arrow_in xs ≡ None
arrow_unlike xs mark rest i h l m r k e =
    arrow_other xs mark rest i h l m r k (λ q. let t = (bytes_eq-Decides mark (codes " -> ")).1 q in absurd (let f : true ≡ false = sym t ∙ e in cc))

pub ruleset arrows = (no_arrow, arrow_low, arrow_near, arrow_is, arrow_other, arrow_unlike)

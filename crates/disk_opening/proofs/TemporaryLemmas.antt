-- A temporary file has the name of no file that counts: it ends in a letter, and those end in a
-- digit.
use Rattle.std.proofs.Common.{◌≡◌, ◌≢◌, ℕ, suc, ◌+◌, ◌/◌, ◌%◌, ◌≤◌, ◌<◌, ◌^◌, List, [], ◌∷◌, ◌++◌, ap, sym, ◌∙◌, refl, subst, arith, append_assoc}
use Rattle.std.specs.Prelude.{codes}
use Rattle.std.specs.Fmt.{decimal}
use Rattle.std.proofs.lemmas.Fmt.{decimal_by_steps}
use Rattle.base_words.specs.Padded.{padded}
use Rattle.disk_segment.specs.Names.{Kind, InProgress, Final, Record, UnderWay, Fresh, FreshRecord, front_of, front_text, rest_of, name_of, IsKind, IsLasting, progress}
use Rattle.disk_opening.specs.Opening.{IsTemporary}

-- the last byte, or d where there is none
last_of : ℕ → List ℕ → ℕ
last_of d [] = d
last_of d (x ∷ xs) = last_of x xs

abbrev IsDigit : ℕ → Type 0
IsDigit n = (48 ≤ n) × (n ≤ 57)

last_append : (d : ℕ) (xs ys : List ℕ) → last_of d (xs ++ ys) ≡ last_of (last_of d xs) ys
unfolding last_of
last_append d [] ys = refl
last_append d (x ∷ xs) ys = last_append x xs ys

last_push : (d x : ℕ) (xs : List ℕ) → last_of d (xs ++ x ∷ []) ≡ x
unfolding last_of
last_push d x xs = last_append d xs (x ∷ [])

digit : (n : ℕ) → IsDigit (48 + n % 10)
digit n = (omega arith, omega arith)

padded_last : (d k n : ℕ) → IsDigit (last_of d (padded (suc k) n))
unfolding padded
padded_last d k n = subst IsDigit (sym (last_push d (48 + n % 10) (padded k (n / 10)))) (digit n)

decimal_last : (d n : ℕ) → n < 2 ^ 64 → IsDigit (last_of d (decimal n))
unfolding last_of
decimal_last d n small = decimal_by_steps (λ m ds. IsDigit (last_of d ds)) (λ m lt. (omega arith, omega (arith, lt)))
    (λ m ds le is. subst IsDigit (sym (last_push d (48 + m % 10) ds)) (digit m)) n small

-- a front, digits and a rest
last_three : (a b c : List ℕ) → last_of 0 (a ++ (b ++ c)) ≡ last_of (last_of (last_of 0 a) b) c
last_three a b c = last_append 0 a (b ++ c) ∙ last_append (last_of 0 a) b c

rest_last : (d start : ℕ) (kind : Kind) → IsKind start kind → IsLasting kind → IsDigit d → IsDigit (last_of d (rest_of kind))
unfolding last_of
rest_last d start InProgress ok lasts is = is
rest_last d start Record ok lasts is = is
rest_last d start (Final last) ok lasts is = subst IsDigit (sym (last_append d (codes "-") (padded 19 last))) (padded_last (last_of d (codes "-")) 18 last)
rest_last d start (UnderWay epoch) ok lasts is = subst IsDigit (sym (last_append d (codes ".epoch=") (decimal epoch))) (decimal_last (last_of d (codes ".epoch=")) epoch (omega (arith, ok.1)))
rest_last d start Fresh ok lasts is = absurd lasts
rest_last d start FreshRecord ok lasts is = absurd lasts

name_last : (start : ℕ) (kind : Kind) → IsKind start kind → IsLasting kind → IsDigit (last_of 0 (name_of start kind))
unfolding name_of
name_last start kind ok lasts = subst IsDigit (sym (last_three (front_text (front_of kind)) (padded 19 start) (rest_of kind)))
    (rest_last (last_of (last_of 0 (front_text (front_of kind))) (padded 19 start)) start kind ok lasts
    (padded_last (last_of 0 (front_text (front_of kind))) 18 start))

tmp_last : (front : List ℕ) → last_of 0 (front ++ codes ".tmp") ≡ 112
unfolding last_of
tmp_last front = last_append 0 front (codes ".tmp")

new_last : (front : List ℕ) → last_of 0 (front ++ codes ".new") ≡ 119
unfolding last_of
new_last front = last_append 0 front (codes ".new")

temporary_last : (name : List ℕ) → IsTemporary name → IsDigit (last_of 0 name) → ⊥
temporary_last name is digit = omega (arith, digit.1, ap (λ (l : List ℕ). last_of 0 l) is.ends ∙ tmp_last is.front)

pub not_temporary : (start : ℕ) (kind : Kind) → IsKind start kind → IsLasting kind → IsTemporary (name_of start kind) → ⊥
not_temporary start kind ok lasts is = temporary_last (name_of start kind) is (name_last start kind ok lasts)

fresh_ends : (start : ℕ) → name_of start Fresh ≡ (front_text progress ++ padded 19 start) ++ codes ".new"
unfolding name_of
fresh_ends start = sym (append_assoc (front_text progress) (padded 19 start) (codes ".new"))

-- nor has the temporary file of a new content
pub not_fresh : (start other : ℕ) (kind : Kind) → IsKind start kind → IsLasting kind → name_of start kind ≢ name_of other Fresh
not_fresh start other kind ok lasts same =
    omega (arith, (name_last start kind ok lasts).1, ap (λ (l : List ℕ). last_of 0 l) (same ∙ fresh_ends other) ∙ new_last (front_text progress ++ padded 19 other))

pub tmp_temporary : (name front : List ℕ) → name ≡ front ++ codes ".tmp" → IsTemporary name
tmp_temporary name front ends = record { front = front; ends = ends }

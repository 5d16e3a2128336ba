-- The sources of a concat, one by one: which paths were listed before one of them, and how many
-- blocks there are.
use Rattle.std.proofs.Common.{◌≡◌, ℕ, suc, Some, None, drop-cons, nat_lt, ◌+◌, ◌<◌, ◌≤◌, List, [], ◌∷◌, ◌++◌, length, take, drop, get_or}
use Rattle.std.proofs.Common.{add-one, append-nil, Bool, true, false, refl, sym, ap, ◌∙◌, append_assoc, length-append, arith}
use Rattle.std.specs.Prelude.{◌||◌}
use Rattle.std.specs.List.{list_any}
use Rattle.std.proofs.Math.Seq.{take-suc}
use Rattle.std.proofs.lemmas.List.{take-append-drop}
use Rattle.std.proofs.lemmas.Bool.Decides.{nat_tests}
use Rattle.ns_tree.specs.declared.inode.Row.{Row}
use Rattle.ns_tree.specs.Path.{same_text}
use Rattle.ns_tree.specs.Space.{find}
use Rattle.ns_edits.specs.declared.refusal.AdmitRefusal.{AdmitRefusal}
use Rattle.ns_edits.specs.declared.refusal.AdmitRefusal.TheVariants.{IntoItself, BadNumber}
use Rattle.ns_edits.specs.Admit.{Refusal, first, refused_if, blocks_of, blocks_at, is_one_of, admit_part, admit_sources}

-- paths before others, the last of the others first
abbrev pub onto : List (List ℕ) → List (List ℕ) → List (List ℕ)
onto before [] = before
onto before (p ∷ ps) = onto (p ∷ before) ps

-- the target and the sources before one of them, as the admission of a concat lists them
abbrev pub listed : List ℕ → List (List ℕ) → List (List ℕ)
listed target paths = onto (target ∷ []) paths

onto_last : (before ps : List (List ℕ)) (p : List ℕ) → onto before (ps ++ p ∷ []) ≡ p ∷ onto before ps
onto_last before [] p = refl
onto_last before (q ∷ ps) p = onto_last (q ∷ before) ps p

listed_last : (target : List ℕ) (ps : List (List ℕ)) (p : List ℕ) → listed target (ps ++ p ∷ []) ≡ p ∷ listed target ps
listed_last target ps p = onto_last (target ∷ []) ps p

any_onto : (f : List ℕ → Bool) (before ps : List (List ℕ)) → list_any f (onto before ps) ≡ (list_any f before || list_any f ps)
any_onto f before [] = or_none (list_any f before)
  where
    or_none : (a : Bool) → a ≡ (a || false)
    or_none true = refl
    or_none false = refl
any_onto f before (p ∷ ps) = any_onto f (p ∷ before) ps ∙ turned (f p) (list_any f before) (list_any f ps)
  where
    turned : (a b c : Bool) → ((a || b) || c) ≡ (b || (a || c))
    turned true true c = refl
    turned true false c = refl
    turned false b c = refl

one_of_listed : (q target : List ℕ) (ps : List (List ℕ)) → is_one_of q (listed target ps) ≡ (same_text q target || list_any (same_text q) ps)
one_of_listed q target ps = any_onto (same_text q) (target ∷ []) ps ∙ ap (λ (z : Bool). z || list_any (same_text q) ps) (or_none (same_text q target))
  where
    or_none : (a : Bool) → (a || false) ≡ a
    or_none true = refl
    or_none false = refl

-- ## One source
first_in_two : (a b c : Refusal) → first (a ∷ b ∷ c ∷ []) ≡ first (first (a ∷ b ∷ []) ∷ c ∷ [])
first_in_two None None c = refl
first_in_two None (Some r) c = refl
first_in_two (Some r) b c = refl

pub source_step : (target : List ℕ) (ps : List (List ℕ)) (xs : List Row) (i : ℕ) (p : List ℕ) → i < length ps → p ≡ get_or ps i p
    → admit_sources (listed target (take i ps)) (drop i ps) xs
    ≡ first (first (refused_if (same_text p target || list_any (same_text p) (take i ps)) IntoItself ∷ admit_part p xs ∷ []) ∷ admit_sources
    (listed target (take (i + 1) ps)) (drop (i + 1) ps) xs ∷ [])
source_step target ps xs i p h is =
    let here : drop i ps ≡ p ∷ drop (i + 1) ps = rw add-one (drop-cons ps i p h ∙ ap (λ (q : List ℕ). q ∷ drop (suc i) ps) (sym is)) in
    let front : take (i + 1) ps ≡ take i ps ++ p ∷ [] = rw add-one (take-suc ps i p h ∙ ap (λ (q : List ℕ). take i ps ++ q ∷ []) (sym is)) in
    let before : listed target (take (i + 1) ps) ≡ p ∷ listed target (take i ps) = ap (listed target) front ∙ listed_last target (take i ps) p in
    ap (λ (qs : List (List ℕ)). admit_sources (listed target (take i ps)) qs xs) here
    ∙ ap (λ (z : Bool). first (refused_if z IntoItself ∷ admit_part p xs ∷ admit_sources (p ∷ listed target (take i ps)) (drop (i + 1) ps) xs ∷ [])) (one_of_listed p target (take i ps))
    ∙ first_in_two (refused_if (same_text p target || list_any (same_text p) (take i ps)) IntoItself) (admit_part p xs) (admit_sources (p ∷ listed target (take i ps)) (drop (i + 1) ps) xs)
    ∙ ap (λ (qs : List (List ℕ)). first (first (refused_if (same_text p target || list_any (same_text p) (take i ps)) IntoItself ∷ admit_part p xs ∷
    []) ∷ admit_sources qs (drop (i + 1) ps) xs ∷ [])) (sym before)

pub refused_at : (r : AdmitRefusal) (a b c d : Refusal) → a ≡ b → b ≡ first (c ∷ d ∷ []) → Some r ≡ c → Some r ≡ a
refused_at r a b c d e f g = sym (e ∙ f ∙ ap (λ (z : Refusal). first (z ∷ d ∷ [])) (sym g))

pub passed_at : (a b c d : Refusal) → a ≡ b → b ≡ first (c ∷ d ∷ []) → None ≡ c → a ≡ d
passed_at a b c d e f g = e ∙ f ∙ ap (λ (z : Refusal). first (z ∷ d ∷ [])) (sym g) ∙ last d
  where
    last : (d : Refusal) → first (d ∷ []) ≡ d
    last None = refl
    last (Some r) = refl

-- ## Blocks
pub blocks_append : (ps qs : List (List ℕ)) (xs : List Row) → blocks_at (ps ++ qs) xs ≡ blocks_at ps xs ++ blocks_at qs xs
blocks_append [] qs xs = refl
blocks_append (p ∷ ps) qs xs = ap (λ (ns : List ℕ). blocks_of (find p xs) ++ ns) (blocks_append ps qs xs) ∙ sym (append_assoc (blocks_of (find p xs)) (blocks_at ps xs) (blocks_at qs xs))

count_append : (ps qs : List (List ℕ)) (xs : List Row) → length (blocks_at (ps ++ qs) xs) ≡ length (blocks_at ps xs) + length (blocks_at qs xs)
count_append ps qs xs = ap (λ (ns : List ℕ). length ns) (blocks_append ps qs xs) ∙ length-append (blocks_at ps xs) (blocks_at qs xs)

-- one more source
count_next : (ps : List (List ℕ)) (xs : List Row) (i : ℕ) (p : List ℕ) → i < length ps → p ≡ get_or ps i p
    → length (blocks_at (take (i + 1) ps) xs) ≡ length (blocks_at (take i ps) xs) + length (blocks_of (find p xs))
count_next ps xs i p h is =
    let front : take (i + 1) ps ≡ take i ps ++ p ∷ [] = rw add-one (take-suc ps i p h ∙ ap (λ (q : List ℕ). take i ps ++ q ∷ []) (sym is)) in
    rw front (count_append (take i ps) (p ∷ []) xs ∙ ap (λ (n : ℕ). length (blocks_at (take i ps) xs) + n) (ap (λ (ns : List ℕ). length ns) (append-nil (blocks_of (find p xs)))))

count_most : (ps : List (List ℕ)) (xs : List Row) (i : ℕ) → length (blocks_at (take i ps) xs) ≤ length (blocks_at ps xs)
count_most ps xs i =
    let whole : length (blocks_at (take i ps ++ drop i ps) xs) ≡ length (blocks_at (take i ps) xs) + length (blocks_at (drop i ps) xs) = count_append (take i ps) (drop i ps) xs in
    let same : take i ps ++ drop i ps ≡ ps = take-append-drop i ps in
    let size : length (blocks_at (take i ps ++ drop i ps) xs) ≡ length (blocks_at ps xs) = ap (λ (l : List (List ℕ)). length (blocks_at l xs)) same in
    omega (arith, whole, size)

-- blocks that are too many for the room that is left are too many in all
pub count_over : (target : List ℕ) (ps : List (List ℕ)) (xs : List Row) (i room : ℕ) (p : List ℕ) (r : AdmitRefusal) → i < length ps → p ≡ get_or ps i p
    → room + length (blocks_at (target ∷ take i ps) xs) ≡ 65535 → Some r ≡ refused_if (nat_lt room (length (blocks_of (find p xs)))) BadNumber
    → Some r ≡ refused_if (nat_lt 65535 (length (blocks_at (target ∷ ps) xs))) BadNumber
count_over target ps xs i room p r h is left e = by (nat_lt room (length (blocks_of (find p xs)))) refl e
  where
    by : (z : Bool) → nat_lt room (length (blocks_of (find p xs))) ≡ z → Some r ≡ refused_if z BadNumber → Some r ≡ refused_if (nat_lt 65535 (length (blocks_at (target ∷ ps) xs))) BadNumber
    by false f g = absurd (cc g)
    by true f g =
        let over : room < length (blocks_of (find p xs)) = grind (arith, nat_tests, f) in
        let next : length (blocks_at (take (i + 1) ps) xs) ≡ length (blocks_at (take i ps) xs) + length (blocks_of (find p xs)) = count_next ps xs i p h is in
        let most : length (blocks_at (take (i + 1) ps) xs) ≤ length (blocks_at ps xs) = count_most ps xs (i + 1) in
        let here : length (blocks_at (target ∷ take i ps) xs) ≡ length (blocks_of (find target xs)) + length (blocks_at (take i ps) xs) =
        length-append (blocks_of (find target xs)) (blocks_at (take i ps) xs) in
        let all : length (blocks_at (target ∷ ps) xs) ≡ length (blocks_of (find target xs)) + length (blocks_at ps xs) = length-append (blocks_of (find target xs)) (blocks_at ps xs) in
        let much : 65535 < length (blocks_at (target ∷ ps) xs) = omega (arith, left, over, next, most, here, all) in
        let test : nat_lt 65535 (length (blocks_at (target ∷ ps) xs)) ≡ true = grind (arith, nat_tests, much) in
        g ∙ ap (λ (z : Bool). refused_if z BadNumber) (sym test)

pub count_left : (target : List ℕ) (ps : List (List ℕ)) (xs : List Row) (i room left : ℕ) (p : List ℕ) → i < length ps → p ≡ get_or ps i p
    → room + length (blocks_at (target ∷ take i ps) xs) ≡ 65535 → left + length (blocks_of (find p xs)) ≡ room
    → left + length (blocks_at (target ∷ take (i + 1) ps) xs) ≡ 65535
count_left target ps xs i room left p h is e f =
    let next : length (blocks_at (take (i + 1) ps) xs) ≡ length (blocks_at (take i ps) xs) + length (blocks_of (find p xs)) = count_next ps xs i p h is in
    let here : length (blocks_at (target ∷ take i ps) xs) ≡ length (blocks_of (find target xs)) + length (blocks_at (take i ps) xs) =
    length-append (blocks_of (find target xs)) (blocks_at (take i ps) xs) in
    let there : length (blocks_at (target ∷ take (i + 1) ps) xs) ≡ length (blocks_of (find target xs)) + length (blocks_at (take (i + 1) ps) xs) =
    length-append (blocks_of (find target xs)) (blocks_at (take (i + 1) ps) xs) in
    omega (arith, e, f, next, here, there)

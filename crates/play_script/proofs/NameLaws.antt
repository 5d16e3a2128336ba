-- Names that were declared.
use Rattle.std.proofs.Common.{ℕ, ◌≡◌, ◌<◌, ◌≤◌, ◌+◌, List, [], ◌∷◌, ◌++◌, length, get_or, Some, None, Bool, true, false, not, ◌⊎◌, inl, inr, refl}
use Rattle.std.proofs.Common.{sym, ap, arith, ◌∙◌, nat_le, nat_lt, cond, subst, zero, suc}
use Rattle.std.specs.List.{AllByRecursion, position_or_len}
use Rattle.std.specs.Str.{bytes_eq}
use Rattle.std.proofs.lemmas.Slice.Eq.{bytes_eq-Decides}
use Rattle.std.proofs.lemmas.Bool.{false≢true}
use Rattle.std.proofs.lemmas.Bool.Decides.{leb_tells}
use Rattle.std.proofs.lemmas.List.{get_or_append_left, get_or_at, length_push}
use Rattle.std.proofs.lemmas.List.Quantifiers.{position-Some}
use Rattle.play_script.specs.Words.{is_name, actor_of, name_at}
use Rattle.play_script.specs.Reading.{Names}
use Rattle.play_script.proofs.WordLaws.{all_push}

-- ## A name that is found
pub named : (names : List (List ℕ)) (name : List ℕ) (actor : ℕ) → actor_of names name ≡ Some actor → Names names name actor
unfolding actor_of
named names name actor e =
    let found = position-Some (λ n. bytes_eq n name) names actor [] e in
    (e, (bytes_eq-Decides (get_or names actor []) name).0 found.1, found.0)

-- ## Names that were declared
-- they are names, and each is found at its place
pub record AreKnown (names : List (List ℕ)) : Type 0 where
  pub good : AllByRecursion (λ name. is_name name ≡ true) names
  pub found : (actor : ℕ) → actor < length names → actor_of names (name_at names actor) ≡ Some actor

pub none_known : AreKnown []
none_known = record { good = tt; found = λ actor l. absurd (omega arith) }

le_by : (b : Bool) (m n : ℕ) → m ≤ n → cond b (1 + m) 0 ≤ n + 1
le_by true m n l = omega arith
le_by false m n l = omega arith

place_le : (p : List ℕ → Bool) (xs : List (List ℕ)) → position_or_len p xs ≤ length xs
place_le p [] = omega arith
place_le p (x ∷ xs) = omega (arith, le_by (not (p x)) (position_or_len p xs) (length xs) (place_le p xs))

early_by : (b : Bool) (k m n : ℕ) → cond b (1 + m) 0 < n + 1 → (m < n → k ≡ m) → cond b (1 + k) 0 ≡ cond b (1 + m) 0
early_by true k m n l h = ap (λ i. 1 + i) (h (omega (arith, l)))
early_by false k m n l h = refl

place_early : (p : List ℕ → Bool) (xs ys : List (List ℕ)) → position_or_len p xs < length xs → position_or_len p (xs ++ ys) ≡ position_or_len p xs
place_early p [] ys l = absurd (omega arith)
place_early p (x ∷ xs) ys l = early_by (not (p x)) (position_or_len p (xs ++ ys)) (position_or_len p xs) (length xs) (omega (arith, l)) (place_early p xs ys)

late_by : (b : Bool) (k m n : ℕ) → cond b (1 + m) 0 ≡ n + 1 → (m ≡ n → k ≡ n) → cond b (1 + k) 0 ≡ n + 1
late_by true k m n e h = let same : k ≡ n = h (omega (arith, e)) in omega arith
late_by false k m n e h = absurd (omega (arith, e))

length_cons : (x : List ℕ) (xs : List (List ℕ)) → length (x ∷ xs) ≡ length xs + 1
length_cons x xs = omega arith

place_late : (p : List ℕ → Bool) (xs : List (List ℕ)) (y : List ℕ) → position_or_len p xs ≡ length xs → p y ≡ true → position_or_len p (xs ++ y ∷ []) ≡ length xs
place_late p [] y e t = rw t refl
place_late p (x ∷ xs) y e t =
    late_by (not (p x)) (position_or_len p (xs ++ y ∷ [])) (position_or_len p xs) (length xs) (e ∙ length_cons x xs) (λ m. place_late p xs y m t) ∙ sym (length_cons x xs)

pub lt_is : (m n : ℕ) → m < n → nat_lt m n ≡ true
lt_is m n l = elim (leb_tells (suc m) n) [ inl p ↦ p.0 | inr p ↦ absurd (omega (arith, p.1)) ]

actor_is : (names : List (List ℕ)) (name : List ℕ) (actor : ℕ) → position_or_len (λ n. bytes_eq n name) names ≡ actor → actor < length names → actor_of names name ≡ Some actor
unfolding actor_of
actor_is names name actor e l =
    let p : List ℕ → Bool = λ n. bytes_eq n name in
    let t : nat_lt actor (length names) ≡ true = lt_is actor (length names) l in
    ap (λ k. cond (nat_lt k (length names)) (Some k) None) e ∙ rw t refl

place_of : (names : List (List ℕ)) (name : List ℕ) (actor : ℕ) → actor_of names name ≡ Some actor → (position_or_len (λ n. bytes_eq n name) names ≡ actor) × (actor < length names)
unfolding actor_of
place_of names name actor e = by (nat_lt (position_or_len (λ n. bytes_eq n name) names) (length names)) refl e
  where
    by : (b : Bool) → nat_lt (position_or_len (λ n. bytes_eq n name) names) (length names) ≡ b → cond b (Some (position_or_len (λ n. bytes_eq n name) names)) None ≡ Some actor
        → (position_or_len (λ n. bytes_eq n name) names ≡ actor) × (actor < length names)
    by true h k =
        let same : position_or_len (λ n. bytes_eq n name) names ≡ actor = cc in
        let below : position_or_len (λ n. bytes_eq n name) names < length names =
        elim (leb_tells (suc (position_or_len (λ n. bytes_eq n name) names)) (length names))
        [ inl p ↦ p.1 | inr p ↦ absurd (false≢true (sym p.0 ∙ h)) ] in
        (same, subst (λ (m : ℕ). m < length names) same below)
    by false h k = cc

place_none : (names : List (List ℕ)) (name : List ℕ) → actor_of names name ≡ None → position_or_len (λ n. bytes_eq n name) names ≡ length names
unfolding actor_of
place_none names name e = by (nat_lt (position_or_len (λ n. bytes_eq n name) names) (length names)) refl e
  where
    by : (b : Bool) → nat_lt (position_or_len (λ n. bytes_eq n name) names) (length names) ≡ b → cond b (Some (position_or_len (λ n. bytes_eq n name) names)) None ≡ None
        → position_or_len (λ n. bytes_eq n name) names ≡ length names
    by true h k = cc
    by false h k =
        let over : length names ≤ position_or_len (λ n. bytes_eq n name) names =
        elim (leb_tells (suc (position_or_len (λ n. bytes_eq n name) names)) (length names))
        [ inl p ↦ absurd (false≢true (sym h ∙ p.0)) | inr p ↦ omega (arith, p.1) ] in
        omega (arith, over, place_le (λ n. bytes_eq n name) names)

-- one more name
pub known_push : (names : List (List ℕ)) (name : List ℕ) → AreKnown names → is_name name ≡ true → actor_of names name ≡ None → AreKnown (names ++ name ∷ [])
known_push names name k n e =
    record {
      good = all_push (λ (x : List ℕ). is_name x ≡ true) names name k.good n;
      found = λ actor l. found_in actor l (leb_tells (suc actor) (length names));
    }
  where
    found_in : (actor : ℕ) → actor < length (names ++ name ∷ []) → ((nat_le (suc actor) (length names) ≡ true) × (suc actor ≤ length names))
        ⊎ ((nat_le (suc actor) (length names) ≡ false) × (length names < suc actor))
        → actor_of (names ++ name ∷ []) (name_at (names ++ name ∷ []) actor) ≡ Some actor
    found_in actor l (inl p) =
        let below : actor < length names = omega (arith, p.1) in
        let same : name_at (names ++ name ∷ []) actor ≡ name_at names actor = get_or_append_left names (name ∷ []) [] actor below in
        let at = place_of names (name_at names actor) actor (k.found actor below) in
        let early : position_or_len (λ m. bytes_eq m (name_at names actor)) (names ++ name ∷ []) ≡ actor =
        place_early (λ m. bytes_eq m (name_at names actor)) names (name ∷ []) (omega (arith, at.0, at.1)) ∙ at.0 in
        ap (actor_of (names ++ name ∷ [])) same ∙ actor_is (names ++ name ∷ []) (name_at names actor) actor early l
    found_in actor l (inr p) =
        let at : actor ≡ length names = omega (arith, p.1, length_push names name) in
        let same : name_at (names ++ name ∷ []) actor ≡ name = get_or_at names name [] [] actor (sym at) in
        let late : position_or_len (λ m. bytes_eq m name) (names ++ name ∷ []) ≡ actor =
        place_late (λ m. bytes_eq m name) names name (place_none names name e) ((bytes_eq-Decides name name).1 refl) ∙ sym at in
        ap (actor_of (names ++ name ∷ [])) same ∙ actor_is (names ++ name ∷ []) name actor late l

pub name_good : (names : List (List ℕ)) (actor : ℕ) → AllByRecursion (λ name. is_name name ≡ true) names → actor < length names → is_name (name_at names actor) ≡ true
name_good [] actor h l = absurd (omega arith)
name_good (n ∷ names) zero h l = h.0
name_good (n ∷ names) (suc actor) h l = name_good names actor h.1 (omega arith)

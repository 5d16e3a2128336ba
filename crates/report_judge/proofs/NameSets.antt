-- Actors' names that stand in a set.
use Rattle.std.proofs.Common.{ℕ, zero, suc, ◌≡◌, ◌<◌, ◌≤◌, ◌+◌, ◌&&◌, List, [], ◌∷◌, ◌++◌, Bool, true, false, not, Option, Some, None, cond, length, drop, get_or, refl, sym, ap, ◌∙◌, arith, nat_lt}
use Rattle.std.specs.Prelude.{codes, is_some, is_none, if◌then◌else◌}
use Rattle.std.specs.List.{position_or_len}
use Rattle.std.specs.Str.{bytes_eq}
use Rattle.std.proofs.lemmas.List.{length-map, length-append}
use Rattle.ns_tree.specs.declared.end.End.{End}
use Rattle.play_script.specs.Words.{actor_of, name_at, is_name, is_word_of_name, Inserts}
use Rattle.play_script.proofs.NameLaws.{lt_is}
use Rattle.play_script.proofs.SetLaws.{lt_next}
use Rattle.play_report.specs.Summary.{begins}
use Rattle.play_report.specs.Text.{operator}
use Rattle.report_judge.specs.Callers.{bare, bares, caller_from, caller_in}
use Rattle.report_judge.specs.Reading.{may_follow, with_next, with_name}
use Rattle.report_judge.proofs.ReadLaws.{named_by}

-- ## Names by number
pub bares_count : (ns : List (List ℕ)) → length ns ≡ length (bares ns)
bares_count ns = sym (length-map ns bare)

pub bare_at : (ns : List (List ℕ)) (i : ℕ) (w : List ℕ) (d : End) → i < length (bares ns) → w ≡ name_at ns i → w ≡ (get_or (bares ns) i d).name
bare_at [] i w d l e = absurd (omega (arith, l))
bare_at (n ∷ ns) zero w d l e = e
bare_at (n ∷ ns) (suc i) w d l e = bare_at ns i w d (omega (arith, l)) e

-- ## Callers by name
abbrev has : List ℕ → List ℕ → Bool
has name n = bytes_eq n name

abbrev operator_at : ℕ → List ℕ → Option ℕ
operator_at k name = if bytes_eq name operator then Some k else None

caller_at : (k : ℕ) (ns : List (List ℕ)) (name : List ℕ)
    → caller_from k (bares ns) name ≡ cond (nat_lt (position_or_len (has name) ns) (length ns)) (Some (k + position_or_len (has name) ns)) (operator_at (k + length ns) name)
unfolding caller_from
caller_at k [] name = let e : k ≡ k + 0 = omega arith in ap (λ m. operator_at m name) e
caller_at k (n ∷ ns) name = by (bytes_eq n name) (caller_at (k + 1) ns name)
  where
    by : (b : Bool)
        → caller_from (k + 1) (bares ns) name
        ≡ cond (nat_lt (position_or_len (has name) ns) (length ns)) (Some (k + 1 + position_or_len (has name) ns)) (operator_at (k + 1 + length ns) name)
        → (if b then Some k else caller_from (k + 1) (bares ns) name)
        ≡ cond (nat_lt (cond (not b) (1 + position_or_len (has name) ns) 0) (suc (length ns))) (Some (k + cond (not b) (1 + position_or_len (has name) ns) 0)) (operator_at (k + suc (length ns)) name)
    by true h =
        let e : k ≡ k + 0 = omega arith in
        ap (λ m. Some m) e ∙ ap (λ b. cond b (Some (k + 0)) (operator_at (k + suc (length ns)) name)) (sym (lt_is zero (suc (length ns)) (omega arith)))
    by false h =
        let e : k + 1 + position_or_len (has name) ns ≡ k + (1 + position_or_len (has name) ns) = omega arith in
        let f : k + 1 + length ns ≡ k + suc (length ns) = omega arith in
        h ∙ (λ i. cond (sym (lt_next (position_or_len (has name) ns) (length ns)) i) (Some (e i)) (operator_at (f i) name))

abbrev first_or : Option ℕ → Option ℕ → Option ℕ
first_or None other = other
first_or (Some i) other = Some i

caller_is : (ns : List (List ℕ)) (name : List ℕ) → caller_in (bares ns) name ≡ first_or (actor_of ns name) (operator_at (length ns) name)
unfolding actor_of
caller_is ns name = caller_at 0 ns name ∙ by (nat_lt (position_or_len (has name) ns) (length ns))
  where
    by : (b : Bool) → cond b (Some (0 + position_or_len (has name) ns)) (operator_at (0 + length ns) name) ≡ first_or (cond b (Some (position_or_len (has name) ns)) None) (operator_at (length ns) name)
    by true = let e : 0 + position_or_len (has name) ns ≡ position_or_len (has name) ns = omega arith in ap (λ n. Some n) e
    by false = let e : 0 + length ns ≡ length ns = omega arith in ap (λ n. operator_at n name) e

pub caller_found : (ns : List (List ℕ)) (name : List ℕ) (i : ℕ) → Some i ≡ actor_of ns name → Some i ≡ caller_in (bares ns) name
caller_found ns name i e = ap (λ o. first_or o (operator_at (length ns) name)) e ∙ sym (caller_is ns name)

none_named : (ns : List (List ℕ)) (name : List ℕ) → None ≡ actor_of ns name → operator_at (length ns) name ≡ caller_in (bares ns) name
none_named ns name e = ap (λ o. first_or o (operator_at (length ns) name)) e ∙ sym (caller_is ns name)

pub caller_operator : (ns : List (List ℕ)) (name : List ℕ) (k : ℕ) → None ≡ actor_of ns name → bytes_eq name operator ≡ true → k ≡ length ns → Some k ≡ caller_in (bares ns) name
caller_operator ns name k e t n = ap (λ m. Some m) n ∙ sym (ap (λ b. if b then Some (length ns) else None) t) ∙ none_named ns name e

pub caller_missing : (ns : List (List ℕ)) (name : List ℕ) → None ≡ actor_of ns name → bytes_eq name operator ≡ false → None ≡ caller_in (bares ns) name
caller_missing ns name e t = sym (ap (λ b. if b then Some (length ns) else None) t) ∙ none_named ns name e

pub ruleset callers = (caller_found, caller_operator, caller_missing, bares_count)

-- ## One more name
not_operator : (name : List ℕ) → is_name name ≡ true → bytes_eq name operator ≡ false
unfolding is_name
not_operator name e = by (is_word_of_name name) (bytes_eq name operator) e
  where
    by : (a b : Bool) → (a && not b) ≡ true → b ≡ false
    by a false e = refl
    by true true e = cc
    by false true e = cc

nameless_is : (ns : List (List ℕ)) (name : List ℕ) → is_name name ≡ true → is_none (caller_in (bares ns) name) ≡ is_none (actor_of ns name)
nameless_is ns name g = ap is_none (caller_is ns name) ∙ by (actor_of ns name)
  where
    by : (o : Option ℕ) → is_none (first_or o (operator_at (length ns) name)) ≡ is_none o
    by (Some i) = refl
    by None = ap (λ b. is_none (if b then Some (length ns) else None)) (not_operator name g)

few_is : (n : ℕ) → n < 8 → nat_lt n 8 ≡ true
few_is n l = grind arith

may_is : (ns : List (List ℕ)) (name : List ℕ) → length (bares ns) < 8 → is_name name ≡ true → may_follow (bares ns) name ≡ is_none (actor_of ns name)
may_is ns name l g =
    ap (λ b. b && (is_name name && is_none (caller_in (bares ns) name))) (few_is (length (bares ns)) l) ∙ ap (λ b. b && is_none (caller_in (bares ns) name)) g ∙ nameless_is ns name g

bares_push : (ns : List (List ℕ)) (name : List ℕ) → bares (ns ++ name ∷ []) ≡ bares ns ++ bare name ∷ []
bares_push [] name = refl
bares_push (n ∷ ns) name = ap (λ es. bare n ∷ es) (bares_push ns name)

none_is : (o : Option ℕ) → is_some o ≡ true → is_none o ≡ false
none_is None e = cc
none_is (Some i) e = refl

pub added : (ns new : List (List ℕ)) (name : List ℕ) (r : Bool) → length (bares ns) < 8 → is_name name ≡ true → Inserts ns name r new → bares new ≡ with_next (bares ns) name
added ns new name true l g h =
    ap bares h.1 ∙ bares_push ns name ∙ sym (ap (λ b. if b then bares ns ++ bare name ∷ [] else bares ns) (may_is ns name l g ∙ ap is_none h.0))
added ns new name false l g h =
    ap bares h.1 ∙ sym (ap (λ b. if b then bares ns ++ bare name ∷ [] else bares ns) (may_is ns name l g ∙ none_is (actor_of ns name) h.0))

pub few_more : (ns new : List (List ℕ)) (name : List ℕ) (r : Bool) → length (bares ns) < 8 → Inserts ns name r new → length (bares new) ≤ 8
few_more ns new name true l h =
    let e : length (bares new) ≡ length (bares ns) + 1 = ap length (ap bares h.1 ∙ bares_push ns name) ∙ length-append (bares ns) (bare name ∷ []) in
    omega (arith, l, e)
few_more ns new name false l h = let e : length (bares new) ≡ length (bares ns) = ap (λ x. length (bares x)) h.1 in omega (arith, l, e)

pub ruleset names = (bares_count, bare_at, added, few_more)

-- ## The name that a line tells
and_false : (a b c : Bool) → (a && b) ≡ false → (a && (b && c)) ≡ false
and_false true true c e = cc
and_false true false c e = refl
and_false false b c e = refl

pub no_room : (ends : List End) (line name : List ℕ) → begins line (codes "actor ") ≡ true → name ≡ drop 6 line → (nat_lt (length ends) 8 && is_name name) ≡ false
    → ends ≡ with_name ends line
no_room ends line name b n m =
    sym (named_by ends line name b n ∙ ap (λ t. if t then ends ++ bare name ∷ [] else ends) (and_false (nat_lt (length ends) 8) (is_name name) (is_none (caller_in ends name)) m))

pub room_taken : (ends new : List End) (line name : List ℕ) → begins line (codes "actor ") ≡ true → name ≡ drop 6 line → new ≡ with_next ends name → new ≡ with_name ends line
room_taken ends new line name b n e = e ∙ sym (named_by ends line name b n)

pub ruleset pushes = (no_room, room_taken)

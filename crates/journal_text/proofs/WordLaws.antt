-- Laws of words.
use Rattle.std.proofs.Common.{ℕ, ◌≡◌, ◌<◌, ◌≤◌, ◌+◌, ◌-◌, ◌^◌, ◌++◌, List, [], ◌∷◌, drop, get_or, append_assoc, append-nil, decimal, Option, Some}
use Rattle.std.proofs.Common.{None, is_some, Bool, true, false, cond, refl, sym, ap, ◌∙◌, arith, ◌⊎◌, inl, inr}
use Rattle.std.proofs.lemmas.List.{at_drop_more}
use Rattle.std.specs.Option.{MatchOption}
use Rattle.std.specs.Str.{bytes_eq}
use Rattle.std.specs.Str.Parse.{digits_value}
use Rattle.base_words.specs.WordNumbers.{is_number, Tells}
use Rattle.base_words.proofs.NumberLaws.{value_of_decimal, tells}
use Rattle.journal_text.specs.declared.request_word.RequestWord.{RequestWord}
use Rattle.journal_core.specs.Views.{HeadView}
use Rattle.journal_text.specs.Words.{with_head}
use Rattle.journal_text.specs.Reading.{word_among, all_words, word_text, number_in, put_first, body_in, bodies_in}
use Rattle.base_words.proofs.HexLaws.{prepend, prepend_nil}

-- ## Numbers
number_told : (w : List ℕ) (least n : ℕ) → Tells least (2 ^ 64 - 1) w n → Some n ≡ number_in least w
unfolding number_in
number_told w least n t =
    let high : n < 2 ^ 64 = omega (arith, t.3) in
    let value : digits_value 10 w ≡ n = ap (digits_value 10) (sym t.1) ∙ value_of_decimal n high in
    rw (t.0, value) refl

number_missing : (w : List ℕ) (least : ℕ) → is_number least (2 ^ 64 - 1) w ≡ false → None ≡ number_in least w
unfolding number_in
number_missing w least e = rw e refl

pub number_is : (o : Option ℕ) (w : List ℕ) (least : ℕ) → MatchOption o (is_number least (2 ^ 64 - 1) w ≡ false) (Tells least (2 ^ 64 - 1) w) → o ≡ number_in least w
number_is None w least e = number_missing w least e
number_is (Some n) w least t = number_told w least n t

pub number_read : (l n : ℕ) → l ≤ n → n < 2 ^ 64 → number_in l (decimal n) ≡ Some n
number_read l n low high = sym (number_told (decimal n) l n (tells l (2 ^ 64 - 1) (decimal n) n high refl low (omega (arith, high))))

-- ## Bodies
body_prepends : (xs : List (List ℕ)) (x : List ℕ) (o : Option (List (List ℕ))) → prepend (xs ++ x ∷ []) o ≡ prepend xs (put_first (Some x) o)
body_prepends xs x None = refl
body_prepends xs x (Some bs) = ap (λ (zs : List (List ℕ)). let o : Option (List (List ℕ)) = Some zs in o) (append_assoc xs (x ∷ []) bs)

pub collect_more : (xs ys ws vs : List (List ℕ)) (w x : List ℕ) (all : Option (List (List ℕ))) → prepend xs (bodies_in ws) ≡ all → ws ≡ w ∷ vs
    → Some x ≡ body_in w → ys ≡ xs ++ x ∷ [] → prepend ys (bodies_in vs) ≡ all
collect_more xs ys ws vs w x all h e b n =
    ap (λ (zs : List (List ℕ)). prepend zs (bodies_in vs)) n ∙ body_prepends xs x (bodies_in vs) ∙ ap (λ o. prepend xs (put_first o (bodies_in vs))) b
    ∙ ap (λ (us : List (List ℕ)). prepend xs (bodies_in us)) (sym e) ∙ h

pub collect_stops : (xs ws vs : List (List ℕ)) (w : List ℕ) (all : Option (List (List ℕ))) → prepend xs (bodies_in ws) ≡ all → ws ≡ w ∷ vs → None ≡ body_in w → None ≡ all
collect_stops xs ws vs w all h e b = ap (λ o. prepend xs (put_first o (bodies_in vs))) b ∙ ap (λ (us : List (List ℕ)). prepend xs (bodies_in us)) (sym e) ∙ h

pub collect_ends : (xs ws : List (List ℕ)) (all : Option (List (List ℕ))) → prepend xs (bodies_in ws) ≡ all → ws ≡ [] → Some xs ≡ all
collect_ends xs ws all h e =
    ap (λ (zs : List (List ℕ)). let o : Option (List (List ℕ)) = Some zs in o) (sym (append-nil xs)) ∙ ap (λ (us : List (List ℕ)). prepend xs (bodies_in us)) (sym e) ∙ h

-- a body stands in front of others
first_some : (o : Option (List ℕ)) (p : Option (List (List ℕ))) → is_some o ≡ true → is_some (put_first o p) ≡ is_some p
first_some None p h = absurd cc
first_some (Some b) None h = refl
first_some (Some b) (Some bs) h = refl

pub ruleset collects = (prepend_nil, collect_more, collect_stops, collect_ends)

pub judge_more : (ws vs : List (List ℕ)) (w : List ℕ) (all : Bool) → is_some (bodies_in ws) ≡ all → ws ≡ w ∷ vs → true ≡ is_some (body_in w) → is_some (bodies_in vs) ≡ all
judge_more ws vs w all h e b = sym (first_some (body_in w) (bodies_in vs) (sym b)) ∙ ap (λ (us : List (List ℕ)). is_some (bodies_in us)) (sym e) ∙ h

no_first : (o : Option (List ℕ)) (p : Option (List (List ℕ))) → false ≡ is_some o → is_some (put_first o p) ≡ false
no_first None p h = refl
no_first (Some b) p h = absurd cc

pub judge_stops : (ws vs : List (List ℕ)) (w : List ℕ) (all : Bool) → is_some (bodies_in ws) ≡ all → ws ≡ w ∷ vs → false ≡ is_some (body_in w) → false ≡ all
judge_stops ws vs w all h e b = sym (no_first (body_in w) (bodies_in vs) b) ∙ ap (λ (us : List (List ℕ)). is_some (bodies_in us)) (sym e) ∙ h

pub judge_ends : (ws : List (List ℕ)) (all : Bool) → is_some (bodies_in ws) ≡ all → ws ≡ [] → true ≡ all
judge_ends ws all h e = ap (λ (us : List (List ℕ)). is_some (bodies_in us)) (sym e) ∙ h

pub ruleset judges = (judge_more, judge_stops, judge_ends)

pub head_numbers : (epoch serial committed : ℕ) (r : Option HeadView) (ns : Option (List ℕ)) → 1 ≤ epoch → 1 ≤ serial
    → MatchOption r ((epoch ≡ 0) ⊎ (serial ≡ 0)) (λ h. h ≡ record { epoch = epoch; serial = serial; committed = committed })
    → put_first (Some epoch) (put_first (Some serial) (put_first (Some committed) ns)) ≡ with_head r ns
head_numbers epoch serial committed None ns l m h = elim h [ inl e ↦ absurd (omega arith) | inr e ↦ absurd (omega arith) ]
head_numbers epoch serial committed (Some h) None l m e = refl
head_numbers epoch serial committed (Some h) (Some ns) l m e = rw e refl

-- not this word
pub word_next : (i : ℕ) (text other : List ℕ) (d : RequestWord) (all : Option RequestWord) → i < 11 → word_among (drop i all_words) text ≡ all
    → other ≡ word_text (get_or all_words i d) → false ≡ bytes_eq text other
    → word_among (drop (i + 1) all_words) text ≡ all
word_next i text other d all l h e f =
    let w = get_or all_words i d in
    let no : bytes_eq text (word_text w) ≡ false = sym (f ∙ ap (bytes_eq text) e) in
    sym (at_drop_more (λ (ws : List RequestWord). word_among ws text) all_words i d l ∙ ap (λ b. cond b (Some w) (word_among (drop (i + 1) all_words) text)) no) ∙ h

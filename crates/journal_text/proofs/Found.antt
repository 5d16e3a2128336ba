-- What a word that was read tells of the words.
use Rattle.std.proofs.Common.{ℕ, ◌≡◌, ◌<◌, ◌≤◌, ◌-◌, ◌^◌, List, [], ◌∷◌, drop, Some, None, Bool, true, false, cond, refl, sym, ap, ◌∙◌, arith, decimal}
use Rattle.std.specs.Str.Parse.{digits_value}
use Rattle.std.proofs.lemmas.Slice.Eq.{bytes_eq-Decides}
use Rattle.base_words.specs.WordNumbers.{is_number}
use Rattle.base_words.proofs.NumberLaws.{told_number}
use Rattle.journal_text.specs.Reading.{number_in}
use Rattle.journal_text.proofs.WordLaws.{number_read}
use Rattle.journal_text.specs.ReplyReading.{head_number, is_over, begins_with, one_of_two, kind_in, accepted_in}
use Rattle.journal_text.specs.Exact.{kind_word, accepted_word}

number_by : (w : List ℕ) (n : ℕ) (b : Bool) → is_number 0 (2 ^ 64 - 1) w ≡ b → cond b (Some (digits_value 10 w)) None ≡ Some n → (w ≡ decimal n) × (n < 2 ^ 64)
number_by w n true h e =
    let t = told_number 0 (2 ^ 64 - 1) w h in
    let high : digits_value 10 w ≤ 2 ^ 64 - 1 = t.3 in
    let is : digits_value 10 w ≡ n = cc in
    (sym t.1 ∙ ap decimal is, omega (arith, high, is))
number_by w n false h e = absurd cc

-- a word that is a number is its digits
pub number_found : (w : List ℕ) (n : ℕ) → number_in 0 w ≡ Some n → (w ≡ decimal n) × (n < 2 ^ 64)
unfolding number_in
number_found w n e = number_by w n (is_number 0 (2 ^ 64 - 1) w) refl e

pub head_found : (ws : List (List ℕ)) (n : ℕ) → head_number ws ≡ Some n → (ws ≡ decimal n ∷ drop 1 ws) × (n < 2 ^ 64)
head_found [] n e = absurd cc
head_found (w ∷ ws) n e = let f = number_found w n e in (ap (λ v. v ∷ ws) f.0, f.1)

pub begin_found : (text : List ℕ) (ws : List (List ℕ)) → begins_with text ws ≡ true → ws ≡ text ∷ drop 1 ws
begin_found text [] e = absurd cc
begin_found text (w ∷ ws) e = ap (λ v. v ∷ ws) ((bytes_eq-Decides w text).0 e)

pub over_found : (ws : List (List ℕ)) → is_over ws ≡ true → ws ≡ []
over_found [] e = refl
over_found (w ∷ ws) e = absurd cc

kind_by : (ws : List (List ℕ)) (b x y : Bool) → begins_with (kind_word true) ws ≡ x → begins_with (kind_word false) ws ≡ y → one_of_two x y ≡ Some b → ws ≡ kind_word b ∷ drop 1 ws
kind_by ws true true y h k e = begin_found (kind_word true) ws h
kind_by ws false true y h k e = absurd cc
kind_by ws true false true h k e = absurd cc
kind_by ws false false true h k e = begin_found (kind_word false) ws k
kind_by ws b false false h k e = absurd cc

pub kind_found : (ws : List (List ℕ)) (b : Bool) → kind_in ws ≡ Some b → ws ≡ kind_word b ∷ drop 1 ws
kind_found ws b e = kind_by ws b (begins_with (kind_word true) ws) (begins_with (kind_word false) ws) refl refl e

accepted_by : (ws : List (List ℕ)) (b x y : Bool) → begins_with (accepted_word true) ws ≡ x → begins_with (accepted_word false) ws ≡ y → one_of_two x y ≡ Some b → ws ≡ accepted_word b ∷ drop 1 ws
accepted_by ws true true y h k e = begin_found (accepted_word true) ws h
accepted_by ws false true y h k e = absurd cc
accepted_by ws true false true h k e = absurd cc
accepted_by ws false false true h k e = begin_found (accepted_word false) ws k
accepted_by ws b false false h k e = absurd cc

pub accepted_found : (ws : List (List ℕ)) (b : Bool) → accepted_in ws ≡ Some b → ws ≡ accepted_word b ∷ drop 1 ws
accepted_found ws b e = accepted_by ws b (begins_with (accepted_word true) ws) (begins_with (accepted_word false) ws) refl refl e

-- ## What is printed is read
pub number_back : (n : ℕ) → n < 2 ^ 64 → number_in 0 (decimal n) ≡ Some n
number_back n h = number_read 0 n (omega arith) h

pub kind_back : (b : Bool) (ws : List (List ℕ)) → kind_in (kind_word b ∷ ws) ≡ Some b
kind_back true ws = refl
kind_back false ws = refl

pub accepted_back : (b : Bool) (ws : List (List ℕ)) → accepted_in (accepted_word b ∷ ws) ≡ Some b
accepted_back true ws = refl
accepted_back false ws = refl

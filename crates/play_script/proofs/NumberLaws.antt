-- Words that are numbers, and words of choices.
use Rattle.std.proofs.Common.{ℕ, ◌≡◌, ◌<◌, ◌≤◌, ◌^◌, List, [], ◌∷◌, Option, Some, None, cond, codes, Bool, true, false, refl, sym, ap, arith, ◌∙◌, decimal}
use Rattle.std.specs.Str.{bytes_eq}
use Rattle.std.specs.Str.Parse.{AllDigits, digits_value}
use Rattle.std.proofs.lemmas.Fmt.{decimal_is_IsNumeral, decimal_nonempty}
use Rattle.std.proofs.lemmas.Slice.Eq.{bytes_eq-Decides}
use Rattle.std.proofs.lemmas.Str.Parse.{digit_from_value}
use Rattle.journal_core.specs.declared.cut.Cut.{Cut}
use Rattle.journal_core.specs.declared.cut.Cut.TheVariants as choice
use Rattle.base_words.specs.Words.{is_empty}
use Rattle.base_words.specs.WordNumbers.{is_number}
use Rattle.base_words.proofs.NumberLaws.{value_of_decimal, tells}
use Rattle.play_script.specs.Words.{greatest, choice_word, choice_of}
use Rattle.base_words.proofs.WordLaws.{some_of}
use Rattle.play_script.proofs.BodyLaws.{between_is, is_word_byte, IsWord}

-- ## A number's text
pub number_is : (least most n : ℕ) → most ≤ greatest → least ≤ n → n ≤ most → is_number least most (decimal n) ≡ true
number_is least most n g a b = let small : n < 2 ^ 64 = omega arith in (tells least most (decimal n) n small refl a b).0

pub number_again : (n : ℕ) → n ≤ greatest → digits_value 10 (decimal n) ≡ n
number_again n l = value_of_decimal n (omega arith)

digits_are_word : (ds : List ℕ) → AllDigits 10 ds → IsWord ds
digits_are_word [] h = refl
digits_are_word (d ∷ ds) h =
    let r = digit_from_value d h.0 in
    let w : is_word_byte d ≡ true = between_is 33 126 d (omega (arith, r)) (omega (arith, r)) in
    rw w (digits_are_word ds h.1)

pub number_is_word : (n : ℕ) → n ≤ greatest → IsWord (decimal n) × (is_empty (decimal n) ≡ false)
number_is_word n l =
    let small : n < 2 ^ 64 = omega arith in
    (digits_are_word (decimal n) (decimal_is_IsNumeral n small).0.1, some_of (decimal n) (decimal_nonempty n small))

-- ## Choices
pub choice_again : (c : Cut) → choice_of (choice_word c) ≡ Some c
unfolding choice_of
choice_again choice.Old = refl
choice_again choice.New = refl
choice_again choice.A5 = refl

chosen_here : (word : List ℕ) (x c : Cut) (b : Bool) (later : Option Cut) → bytes_eq word (choice_word x) ≡ b
    → (later ≡ Some c → choice_word c ≡ word) → cond b (Some x) later ≡ Some c → choice_word c ≡ word
chosen_here word x c true later h rest e = let same : x ≡ c = cc in ap choice_word (sym same) ∙ sym ((bytes_eq-Decides word (choice_word x)).0 h)
chosen_here word x c false later h rest e = rest e

-- the word of the choice that a word is
pub chosen : (word : List ℕ) (c : Cut) → choice_of word ≡ Some c → choice_word c ≡ word
unfolding choice_of
chosen word c e =
    chosen_here word choice.Old c (bytes_eq word (codes "old")) _ refl
    (chosen_here word choice.New c (bytes_eq word (codes "new")) _ refl
    (chosen_here word choice.A5 c (bytes_eq word (codes "a5")) None refl (λ n. cc)))
    e

pub ruleset choices = (chosen)

-- The edits of generated scripts have records, and texts that a script can say.
use Rattle.std.proofs.Common.{ℕ, ◌≡◌, ◌≢◌, ◌<◌, ◌≤◌, ◌+◌, ◌^◌, List, [], ◌∷◌, ◌++◌, length, length-append, Bool, true, false, refl, ap, arith, ◌∙◌, codes, decimal, lit<, lit≤}
use Rattle.std.specs.List.{list_any, AllByRecursion}
use Rattle.std.specs.Char.{is_ascii_graphic}
use Rattle.std.specs.Fmt.{digits}
use Rattle.std.specs.Str.Parse.{AllDigits}
use Rattle.std.proofs.lemmas.Fmt.{length-decimal-le, decimal_is_IsNumeral}
use Rattle.std.proofs.lemmas.Slice.Eq.{bytes_eq-Decides}
use Rattle.std.proofs.lemmas.Str.Parse.{digit_from_value}
use Rattle.edit_ops.specs.Records.{EditView}
use Rattle.edit_ops.specs.Grammar.{IsEdit}
use Rattle.edit_ops.specs.Words.{verb}
use Rattle.edit_codec.specs.EditTexts.{text_of}
use Rattle.base_words.specs.Words.{joined, words_of}
use Rattle.play_script.specs.Edits.{separator, is_separator, edit_words, IsSayable}
use Rattle.play_script.proofs.BodyLaws.{all_append, IsWord, words_again}
use Rattle.play_script.proofs.NumberLaws.{number_is_word}
use Rattle.play_script.specs.Generated.{directory_path, file_path, owner, directory_edit, file_edit}

-- ## Their words
pub number_short : (n : ℕ) → n ≤ 10000 → length (decimal n) ≤ 5
number_short n l = length-decimal-le 5 n (omega arith) (omega arith) (omega arith)

number_word : (n : ℕ) → n ≤ 10000 → IsWord (decimal n)
number_word n l = (number_is_word n (omega arith)).0

-- a word that an edit of a generated script may have: it is short, and isn't `;`
pub record IsPlainWord (word : List ℕ) : Type 0 where
  pub graphic : IsWord word
  pub short : length word ≤ 20
  pub no_separator : is_separator word ≡ false

other_word : (word : List ℕ) → word ≢ separator → is_separator word ≡ false
other_word word n = by (is_separator word) refl
  where
    by : (t : Bool) → is_separator word ≡ t → is_separator word ≡ false
    by true e = absurd (n ((bytes_eq-Decides word separator).0 e))
    by false e = e

no_digit : (word : List ℕ) → AllDigits 10 word → word ≢ separator
no_digit [] h e = cc e
no_digit (b ∷ bs) h e =
    let digit = digit_from_value b h.0 in
    let is : b ≡ 59 = cc e in
    omega (arith, digit, is)

number_plain : (n : ℕ) → n ≤ 10000 → IsPlainWord (decimal n)
number_plain n l =
    let short : length (decimal n) ≤ 5 = number_short n l in
    let small : n < 2 ^ 64 = omega arith in
    record { graphic = number_word n l; short = omega (arith, short); no_separator = other_word (decimal n) (no_digit (decimal n) (decimal_is_IsNumeral n small).0.1) }

directory_plain : (directory : ℕ) → directory ≤ 100 → IsPlainWord (directory_path directory)
directory_plain directory l =
    let short : length (decimal directory) ≤ 5 = number_short directory (omega arith) in
    record { graphic = number_word directory (omega arith); short = omega (arith, short); no_separator = other_word (directory_path directory) (λ e. cc e) }

file_plain : (directory number : ℕ) → directory ≤ 100 → number ≤ 10000 → IsPlainWord (file_path directory number)
file_plain directory number l k =
    let d = directory_plain directory l in
    let n : length (decimal number) ≤ 5 = number_short number k in
    let short : length (decimal directory) ≤ 5 = number_short directory (omega arith) in
    let size : length (file_path directory number) ≡ length (directory_path directory ++ codes "/f") + length (decimal number) =
    length-append (directory_path directory ++ codes "/f") (decimal number) in
    let front : length (directory_path directory ++ codes "/f") ≡ length (directory_path directory) + 2 = length-append (directory_path directory) (codes "/f") in
    record {
      graphic = all_append is_ascii_graphic (directory_path directory ++ codes "/f") (decimal number)
          (all_append is_ascii_graphic (directory_path directory) (codes "/f") d.graphic refl) (number_word number k);
      short = omega (arith, n, short, size, front);
      no_separator = other_word (file_path directory number) (λ e. cc e);
    }

-- ## Their records
pub directory_is_edit : (directory number : ℕ) → directory ≤ 100 → number ≤ 10000 → IsEdit (directory_edit directory number)
directory_is_edit directory number l k =
    let d = directory_plain directory l in
    let short : length (directory_path directory) ≤ 20 = d.short in
    record {
      fields = ((omega (arith, short), d.graphic), (omega arith, (lit< tt, ((lit≤ tt, refl), ((lit≤ tt, refl), tt)))));
      call = tt;
    }

pub file_is_edit : (directory number : ℕ) → directory ≤ 100 → number ≤ 10000 → IsEdit (file_edit directory number)
file_is_edit directory number l k =
    let d = file_plain directory number l k in
    let short : length (file_path directory number) ≤ 20 = d.short in
    record {
      fields = ((omega (arith, short), d.graphic), (lit< tt, (omega arith, (omega arith, (lit≤ tt, (lit< tt, ((lit≤ tt, refl), ((lit≤ tt, refl), tt))))))));
      call = tt;
    }

pub ruleset are_edits = (directory_is_edit, file_is_edit)

-- ## Their texts
directory_words : ℕ → ℕ → List (List ℕ)
directory_words directory number = codes "mkdir" ∷ directory_path directory ∷ decimal number ∷ codes "755" ∷ owner ∷ owner ∷ []

file_words : ℕ → ℕ → List (List ℕ)
file_words directory number =
    codes "add" ∷ file_path directory number ∷ codes "3" ∷ decimal number ∷ decimal number ∷ codes "1" ∷ codes "644" ∷ owner ∷ owner ∷ []

directory_text : (directory number : ℕ) → text_of false (directory_edit directory number) ≡ joined (directory_words directory number)
unfolding directory_words digits verb
directory_text directory number = refl

file_text : (directory number : ℕ) → text_of false (file_edit directory number) ≡ joined (file_words directory number)
unfolding file_words digits verb
file_text directory number = refl

are_words : (words : List (List ℕ)) → AllByRecursion IsPlainWord words → AllByRecursion IsWord words
are_words [] h = tt
are_words (word ∷ words) h = (h.0.graphic, are_words words h.1)

none_separates : (words : List (List ℕ)) → AllByRecursion IsPlainWord words → list_any is_separator words ≡ false
none_separates [] h = refl
none_separates (word ∷ words) h = rw h.0.no_separator (none_separates words h.1)

-- an edit with these words
pub record HasWords (e : EditView) (word : List ℕ) (words : List (List ℕ)) : Type 0 where
  pub text : text_of false e ≡ joined (word ∷ words)
  pub plain : AllByRecursion IsPlainWord (word ∷ words)

pub words_are : (e : EditView) (word : List ℕ) (words : List (List ℕ)) → HasWords e word words → edit_words e ≡ word ∷ words
words_are e word words h = ap words_of h.text ∙ words_again word words (are_words (word ∷ words) h.plain)

apart_by : (e : EditView) (word : List ℕ) (words : List (List ℕ)) → HasWords e word words → list_any is_separator (edit_words e) ≡ false
apart_by e word words h = ap (list_any is_separator) (words_are e word words h) ∙ none_separates (word ∷ words) h.plain

-- an edit that a script can say, in up to nine short words
pub record IsShort (e : EditView) : Type 0 where
  pub says : IsSayable e
  pub word : List ℕ
  pub words : List (List ℕ)
  pub has : HasWords e word words
  pub few : length words ≤ 8

plain : (word : List ℕ) → IsWord word → length word ≤ 20 → is_separator word ≡ false → IsPlainWord word
plain word g s n = record { graphic = g; short = s; no_separator = n }

pub directory_is_short : (directory number : ℕ) → directory ≤ 100 → number ≤ 10000 → IsShort (directory_edit directory number)
unfolding directory_words
directory_is_short directory number l k =
    let o : IsPlainWord owner = plain owner refl (lit≤ tt) refl in
    let h : HasWords (directory_edit directory number) (codes "mkdir") (directory_path directory ∷ decimal number ∷ codes "755" ∷ owner ∷ owner ∷ []) = record {
      text = directory_text directory number;
      plain = (plain (codes "mkdir") refl (lit≤ tt) refl, (directory_plain directory l, (number_plain number k, (plain (codes "755") refl (lit≤ tt) refl, (o, (o, tt))))));
    } in
    record {
      says = record {
        text = record { edit = directory_is_edit directory number l k; no_mark = refl; said = ((λ e. cc e), (tt, (lit< tt, ((λ e. cc e), ((λ e. cc e), tt))))); spelled = refl };
        apart = apart_by (directory_edit directory number) (codes "mkdir") (directory_path directory ∷ decimal number ∷ codes "755" ∷ owner ∷ owner ∷ []) h;
      };
      word = codes "mkdir";
      words = directory_path directory ∷ decimal number ∷ codes "755" ∷ owner ∷ owner ∷ [];
      has = h;
      few = lit≤ tt;
    }

pub file_is_short : (directory number : ℕ) → directory ≤ 100 → number ≤ 10000 → IsShort (file_edit directory number)
unfolding file_words
file_is_short directory number l k =
    let o : IsPlainWord owner = plain owner refl (lit≤ tt) refl in
    let n : IsPlainWord (decimal number) = number_plain number k in
    let h : HasWords (file_edit directory number) (codes "add") (file_path directory number ∷ codes "3" ∷ decimal number ∷ decimal number ∷ codes "1" ∷ codes "644" ∷ owner ∷ owner ∷ []) = record {
      text = file_text directory number;
      plain = (
        plain (codes "add") refl (lit≤ tt) refl,
        (
          file_plain directory number l k,
          (
            plain (codes "3") refl (lit≤ tt) refl,
            (
              n,
              (
                n,
                (
                  plain (codes "1") refl (lit≤ tt) refl,
                  (plain (codes "644") refl (lit≤ tt) refl, (o, (o, tt))),
                ),
              ),
            ),
          ),
        ),
      );
    } in
    record {
      says = record {
        text = record { edit = file_is_edit directory number l k; no_mark = refl; said = ((λ e. cc e), (tt, (tt, (tt, (tt, (lit< tt, ((λ e. cc e), ((λ e. cc e), tt)))))))); spelled = refl };
        apart = apart_by (file_edit directory number) (codes "add") (file_path directory number ∷ codes "3" ∷ decimal number ∷ decimal number ∷ codes "1" ∷ codes "644" ∷ owner ∷ owner ∷ []) h;
      };
      word = codes "add";
      words = file_path directory number ∷ codes "3" ∷ decimal number ∷ decimal number ∷ codes "1" ∷ codes "644" ∷ owner ∷ owner ∷ [];
      has = h;
      few = lit≤ tt;
    }

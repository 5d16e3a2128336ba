-- The text of an array has an opening bracket as its first byte that is no space.
use Rattle.std.proofs.Common.{◌≡◌, ℕ, ◌-◌, List, [], ◌∷◌, length, take, Bool, true, false, cond, Option, Some, None, refl, sym, ap, subst, ◌∙◌, ◌==◌}
use Rattle.std.specs.Prelude.{option_map, option_and_then}
use Rattle.std.proofs.lemmas.Bool.{eqb-true}
use Rattle.json.specs.Token.{Token}
use Rattle.json.specs.Token as tok
use Rattle.json.specs.Text.{content, plain}
use Rattle.json.specs.Word.{head, is_space, is_operator, ends_word, after_number, number_before, word}
use Rattle.json.specs.Lex.{Lexeme, token, comma, colon, Class, quote, backslash, operator, space, other, class, string_token}
use Rattle.json.specs.Lex.{between, in_word, in_string, lex_byte, lex, Place, fresh, place_token, begins_colon, punctuate, tokens}
use Rattle.json.specs.Json as json
use Rattle.json.specs.Json.{Json, Members, Parse, parse_map, if_last}
use Rattle.json.proofs.Grammar.{value_is}
use Rattle.serde_json.specs.Data as datum
use Rattle.serde_json.specs.Data.{Data, Items, Num}
use Rattle.serde_json.specs.Read.{number_of, of_json, of_members, max_depth, read}
use Rattle.list_back.specs.Opening.{opens_array}

-- ## Tokens
abbrev begins_array : List Token → Bool
begins_array [] = false
begins_array (tok.begin_object ∷ ts) = false
begins_array (tok.end_object ∷ ts) = false
begins_array (tok.begin_array ∷ ts) = true
begins_array (tok.end_array ∷ ts) = false
begins_array (tok.key s ∷ ts) = false
begins_array (tok.string s ∷ ts) = false
begins_array (tok.number s ∷ ts) = false
begins_array (tok.boolean b ∷ ts) = false
begins_array (tok.null ∷ ts) = false
begins_array (tok.bad ∷ ts) = false

-- the value behind which nothing stands
abbrev alone : Option (Json × List Token) → Option Data
alone r = option_and_then of_json (option_and_then (λ p. if_last p.0 p.1) r)

module _ (xs : Items) where
  no_object : (o : Option datum.Members) → option_map datum.object o ≡ Some (datum.array xs) → ⊥
  no_object None e = cc
  no_object (Some ms) e = cc

  no_number : (o : Option Num) → option_map datum.number o ≡ Some (datum.array xs) → ⊥
  no_number None e = cc
  no_number (Some n) e = cc

  object_alone : (r : Option (Members × List Token)) → alone (parse_map json.object r) ≡ Some (datum.array xs) → ⊥
  object_alone None e = cc
  object_alone (Some (ms, [])) e = no_object (of_members ms datum.no_members) e
  object_alone (Some (ms, t ∷ ts)) e = cc

  one_alone : (j : Json) (ts : List Token) → (of_json j ≡ Some (datum.array xs) → ⊥) → alone (Some (j, ts)) ≡ Some (datum.array xs) → ⊥
  one_alone j [] never e = never e
  one_alone j (t ∷ ts) never e = cc

  with_begins : (is : Parse json.Items) (ms : Parse Members) (ts : List Token) → alone (json.value_with is ms ts) ≡ Some (datum.array xs) → begins_array ts ≡ true
  with_begins is ms [] e = absurd cc
  with_begins is ms (tok.begin_object ∷ ts) e = absurd (object_alone (ms ts) e)
  with_begins is ms (tok.end_object ∷ ts) e = absurd cc
  with_begins is ms (tok.begin_array ∷ ts) e = refl
  with_begins is ms (tok.end_array ∷ ts) e = absurd cc
  with_begins is ms (tok.key s ∷ ts) e = absurd cc
  with_begins is ms (tok.string s ∷ ts) e = absurd (one_alone (json.string s) ts (λ f. cc) e)
  with_begins is ms (tok.number s ∷ ts) e = absurd (one_alone (json.number s) ts (λ f. no_number (number_of s) f) e)
  with_begins is ms (tok.boolean b ∷ ts) e = absurd (one_alone (json.boolean b) ts (λ f. cc) e)
  with_begins is ms (tok.null ∷ ts) e = absurd (one_alone json.null ts (λ f. cc) e)
  with_begins is ms (tok.bad ∷ ts) e = absurd cc

  array_begins : (ts : List Token) → alone (json.value max_depth ts) ≡ Some (datum.array xs) → begins_array ts ≡ true
  array_begins ts e = with_begins _ _ ts (sym (ap alone (value_is max_depth ts)) ∙ e)

-- ## Bytes
abbrev Shut : Token → Type 0
Shut t = begins_array (t ∷ []) ≡ false

no_first : (t : Token) → Shut t → (before_colon : Bool) (k : Place → List Token) → begins_array (place_token fresh t before_colon k) ≡ true → ⊥
no_first tok.begin_object shut b k e = cc
no_first tok.end_object shut b k e = cc
no_first tok.begin_array shut b k e = cc
no_first tok.end_array shut b k e = cc
no_first (tok.key s) shut b k e = cc
no_first (tok.string s) shut true k e = cc
no_first (tok.string s) shut false k e = cc
no_first (tok.number s) shut b k e = cc
no_first (tok.boolean v) shut b k e = cc
no_first tok.null shut b k e = cc
no_first tok.bad shut b k e = cc

shut_string : (o : Option (List ℕ)) → Shut (string_token o)
shut_string None = refl
shut_string (Some s) = refl

either : (b : Bool) (t u : Token) → Shut t → Shut u → Shut (cond b t u)
either true t u p q = p
either false t u p q = q

shut_number : (t : List ℕ) (o : Option (List ℕ)) → Shut (number_before t o)
shut_number t None = refl
shut_number t (Some rest) = either (ends_word rest) (tok.number (take (length t - length rest) t)) tok.bad refl refl

shut_word : (t : List ℕ) → Shut (word t)
unfolding word
shut_word t =
    either (head t == 116) _ _ (either _ (tok.boolean true) tok.bad refl refl) (either (head t == 102) _ _ (either _ (tok.boolean false) tok.bad refl refl)
    (either (head t == 110) _ _ (either _ tok.null tok.bad refl refl) (shut_number t (after_number t))))

opened : (a b c d f : Bool) (ls : List Lexeme)
    → begins_array (punctuate fresh (cond a (token tok.begin_object) (cond b (token tok.end_object) (cond c (token tok.begin_array) (cond d (token tok.end_array) (cond f comma colon)))) ∷ ls)) ≡ true
    → c ≡ true
unfolding punctuate
opened true b c d f ls e = absurd cc
opened false true c d f ls e = absurd cc
opened false false true d f ls e = refl
opened false false false true f ls e = absurd cc
opened false false false false true ls e = absurd cc
opened false false false false false ls e = absurd cc

space_is : (q b o s : Bool) → cond q quote (cond b backslash (cond o operator (cond s space other))) ≡ space → s ≡ true
space_is true b o s e = absurd cc
space_is false true o s e = absurd cc
space_is false false true s e = absurd cc
space_is false false false true e = refl
space_is false false false false e = absurd cc

after_spaces : (b : Bool) (x : ℕ) (xs : List ℕ) → b ≡ true → opens_array xs ≡ true → cond b (opens_array xs) (x == 91) ≡ true
after_spaces true x xs is e = e
after_spaces false x xs is e = absurd cc

by_class : (x : ℕ) (xs : List ℕ) → (begins_array (punctuate fresh (lex between xs)) ≡ true → opens_array xs ≡ true) → (c : Class) → class x ≡ c
    → begins_array (punctuate fresh (lex_byte between c x xs (λ m. lex m xs))) ≡ true → opens_array (x ∷ xs) ≡ true
unfolding punctuate
by_class x xs behind quote is e = absurd (no_first (string_token (content plain xs)) (shut_string (content plain xs)) (begins_colon (lex in_string xs)) (λ p. punctuate p (lex in_string xs)) e)
by_class x xs behind backslash is e = absurd cc
by_class x xs behind operator is e =
    let bracket : (x == 91) ≡ true = opened (x == 123) (x == 125) (x == 91) (x == 93) (x == 44) (lex between xs) e in
    subst (λ (y : ℕ). opens_array (y ∷ xs) ≡ true) (sym (eqb-true x 91 bracket)) refl
by_class x xs behind space is e = after_spaces (is_space x) x xs (space_is (x == 34) (x == 92) (is_operator x) (is_space x) is) (behind e)
by_class x xs behind other is e = absurd (no_first (word (x ∷ xs)) (shut_word (x ∷ xs)) (begins_colon (lex in_word xs)) (λ p. punctuate p (lex in_word xs)) e)

begins_opens : (bytes : List ℕ) → begins_array (punctuate fresh (lex between bytes)) ≡ true → opens_array bytes ≡ true
unfolding punctuate lex
begins_opens [] e = absurd cc
begins_opens (x ∷ xs) e = by_class x xs (begins_opens xs) (class x) refl e

pub array_opens : (bytes : List ℕ) (xs : Items) → read bytes ≡ Some (datum.array xs) → opens_array bytes ≡ true
array_opens bytes xs e = begins_opens bytes (array_begins xs (tokens bytes) e)

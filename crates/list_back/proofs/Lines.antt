-- A line that was written is read as the value that it was written for.
use Rattle.std.proofs.Common.{◌≡◌, ℕ, ◌≤◌, Bool, true, false, cond, List, [], ◌∷◌, ◌++◌, Option, Some, refl, sym, ap, ap₂, ◌∙◌, append_assoc, append-nil, IsUtf8, option_and_then}
use Rattle.std.specs.Prelude.{◌&&◌}
use Rattle.std.specs.List.{AllByRecursion}
use Rattle.std.proofs.lemmas.Str.{IsUtf8-append, IsUtf8-nil}
use Rattle.json.specs.Token.{Token, begin_object, end_object, begin_array, end_array, key, string, number, boolean, null, bad}
use Rattle.json.specs.Text.{content, plain}
use Rattle.json.specs.Word.{ends_word, word}
use Rattle.json.specs.Lex.{Lexeme, token, colon, operator_lexeme, string_token, lex, between, in_word, in_string, punctuate, fresh, tokens}
use Rattle.json.specs.Print.{escape, quoted, token_text, begins, ends, separator, print_from, print, IsPrintable, ArePrintable}
use Rattle.json.specs.Json as json
use Rattle.json.specs.Tree.{json_tokens, items_tokens, members_tokens, depth, HasNumbers}
use Rattle.json.proofs.Printed.Strings.{content-escape, lex-escape}
use Rattle.json.proofs.Printed.Numbers.{lex-number, in_word-ended}
use Rattle.json.proofs.Printed.Tokens.{tokens-print}
use Rattle.json.proofs.Printed.Trees.{value-json_tokens, ArePrintable-json_tokens}
use Rattle.json.proofs.Printed.Utf8.{IsUtf8-are_ascii, IsUtf8-quoted, IsUtf8-key, IsUtf8-boolean, IsUtf8-separator}
use Rattle.serde_json.specs.Data.{Data}
use Rattle.serde_json.specs.Read.{of_json, read, max_depth}
use Rattle.list_text.specs.Values.{json_line}
use Rattle.list_back.specs.Texts.{HasTexts, ItemsHaveTexts, MembersHaveTexts}

-- ## Two texts that are lexed alike
-- The end of a line is told from nothing nowhere: two texts with the same lexemes have them behind
-- a printed token too, whatever it is.
abbrev AreAlike : List ℕ → List ℕ → Type 0
AreAlike a b = lex between a ≡ lex between b

-- two texts that a value may end before
record MayFollow (a b : List ℕ) : Type 0 where
  alike : AreAlike a b
  first : ends_word a ≡ true
  second : ends_word b ≡ true

after_operator : (x : ℕ) (a b : List ℕ) → lex between (x ∷ a) ≡ operator_lexeme x ∷ lex between a → lex between (x ∷ b) ≡ operator_lexeme x ∷ lex between b → AreAlike a b → AreAlike (x ∷ a) (x ∷ b)
after_operator x a b p q same = p ∙ ap (λ (l : List Lexeme). operator_lexeme x ∷ l) same ∙ sym q

-- what stands after the first quote of a printed text
in_quotes : (s a : List ℕ) → (content plain ((escape s ++ 34 ∷ []) ++ a) ≡ Some s) × (lex in_string ((escape s ++ 34 ∷ []) ++ a) ≡ lex between a)
in_quotes s a =
    let e = append_assoc (escape s) (34 ∷ []) a in
    (ap (content plain) e ∙ content-escape s a, ap (lex in_string) e ∙ lex-escape s a)

after_text : (s a b : List ℕ) → AreAlike a b → AreAlike (quoted s ++ a) (quoted s ++ b)
unfolding lex
after_text s a b same =
    let p = in_quotes s a in
    let q = in_quotes s b in
    ap₂ (λ o l. token (string_token o) ∷ l) (p.0 ∙ sym q.0) (p.1 ∙ same ∙ sym q.1)

after_key : (s a b : List ℕ) → AreAlike a b → AreAlike ((quoted s ++ 58 ∷ []) ++ a) ((quoted s ++ 58 ∷ []) ++ b)
unfolding lex
after_key s a b same =
    ap (lex between) (append_assoc (quoted s) (58 ∷ []) a) ∙ after_text s (58 ∷ a) (58 ∷ b) (ap (λ (l : List Lexeme). colon ∷ l) same)
    ∙ sym (ap (lex between) (append_assoc (quoted s) (58 ∷ []) b))

-- after the letters of a word
after_letters : (t : Token) (a b : List ℕ) → MayFollow a b
    → token (cond (ends_word a) t bad) ∷ lex in_word a ≡ token (cond (ends_word b) t bad) ∷ lex in_word b
after_letters t a b f =
    ap₂ (λ e l. token (cond e t bad) ∷ l) (f.first ∙ sym f.second) (in_word-ended a f.first ∙ f.alike ∙ sym (in_word-ended b f.second))

after_number : (s a b : List ℕ) → IsPrintable (number s) → MayFollow a b → AreAlike (s ++ a) (s ++ b)
after_number s a b is f = lex-number s a is f.first ∙ ap (λ (l : List Lexeme). token (number s) ∷ l) f.alike ∙ sym (lex-number s b is f.second)

after_token : (t : Token) (a b : List ℕ) → IsPrintable t → AreAlike a b → (ends t ≡ true → MayFollow a b) → AreAlike (token_text t ++ a) (token_text t ++ b)
unfolding lex word
after_token begin_object a b is same f = after_operator 123 a b refl refl same
after_token end_object a b is same f = after_operator 125 a b refl refl same
after_token begin_array a b is same f = after_operator 91 a b refl refl same
after_token end_array a b is same f = after_operator 93 a b refl refl same
after_token (key s) a b is same f = after_key s a b same
after_token (string s) a b is same f = after_text s a b same
after_token (number s) a b is same f = after_number s a b is (f refl)
after_token (boolean true) a b is same f = after_letters (boolean true) a b (f refl)
after_token (boolean false) a b is same f = after_letters (boolean false) a b (f refl)
after_token null a b is same f = after_letters null a b (f refl)
after_token bad a b is same f = absurd is

after_separator : (c : Bool) (a b : List ℕ) → AreAlike a b → AreAlike (cond c (44 ∷ []) [] ++ a) (cond c (44 ∷ []) [] ++ b)
unfolding lex
after_separator true a b same = after_operator 44 a b refl refl same
after_separator false a b same = same

-- a value may end before more tokens, and before their end
value_ends : (ts : List Token) (a : List ℕ) → ends_word a ≡ true → ends_word (print_from true ts ++ a) ≡ true
unfolding print_from
value_ends [] a is = is
value_ends (begin_object ∷ ts) a is = refl
value_ends (end_object ∷ ts) a is = refl
value_ends (begin_array ∷ ts) a is = refl
value_ends (end_array ∷ ts) a is = refl
value_ends (key s ∷ ts) a is = refl
value_ends (string s ∷ ts) a is = refl
value_ends (number s ∷ ts) a is = refl
value_ends (boolean b ∷ ts) a is = refl
value_ends (null ∷ ts) a is = refl
value_ends (bad ∷ ts) a is = refl

follows : (c : Bool) (ts : List Token) (a b : List ℕ) → MayFollow a b → AreAlike (print_from c ts ++ a) (print_from c ts ++ b) → c ≡ true → MayFollow (print_from c ts ++ a) (print_from c ts ++ b)
follows c ts a b f alike is = record {
  alike = alike;
  first = ap (λ (d : Bool). ends_word (print_from d ts ++ a)) is ∙ value_ends ts a f.first;
  second = ap (λ (d : Bool). ends_word (print_from d ts ++ b)) is ∙ value_ends ts b f.second;
}

regrouped : (c t r a : List ℕ) → (c ++ (t ++ r)) ++ a ≡ c ++ (t ++ (r ++ a))
regrouped c t r a = append_assoc c (t ++ r) a ∙ ap (λ (x : List ℕ). c ++ x) (append_assoc t r a)

after_tokens : (c : Bool) (ts : List Token) (a b : List ℕ) → ArePrintable ts → MayFollow a b → AreAlike (print_from c ts ++ a) (print_from c ts ++ b)
unfolding print_from ArePrintable
after_tokens c [] a b are f = f.alike
after_tokens c (t ∷ ts) a b are f =
    let rest = after_tokens (ends t) ts a b are.1 f in
    let first = after_token t (print_from (ends t) ts ++ a) (print_from (ends t) ts ++ b) are.0 rest (follows (ends t) ts a b f rest) in
    ap (lex between) (regrouped (separator c t) (token_text t) (print_from (ends t) ts) a)
    ∙ after_separator (c && begins t) (token_text t ++ (print_from (ends t) ts ++ a)) (token_text t ++ (print_from (ends t) ts ++ b)) first
    ∙ sym (ap (lex between) (regrouped (separator c t) (token_text t) (print_from (ends t) ts) b))

-- the end of a line, and nothing
line_end : MayFollow (10 ∷ []) []
unfolding lex
line_end = record { alike = refl; first = refl; second = refl }

line_tokens : (ts : List Token) → ArePrintable ts → tokens (print ts ++ 10 ∷ []) ≡ ts
line_tokens ts are =
    ap (punctuate fresh) (after_tokens false ts (10 ∷ []) [] are line_end ∙ ap (lex between) (append-nil (print ts))) ∙ tokens-print ts are

abbrev whole : Option (json.Json × List Token) → Option Data
whole o = option_and_then of_json (option_and_then (λ p. json.if_last p.0 p.1) o)

pub line_reads : (j : json.Json) (d : Data) → HasNumbers j → depth j ≤ max_depth → of_json j ≡ Some d → read (json_line j) ≡ Some d
line_reads j d numbers shallow is =
    ap whole (ap (json.value max_depth) (line_tokens (json_tokens j) (ArePrintable-json_tokens j numbers) ∙ sym (append-nil (json_tokens j))) ∙ value-json_tokens j max_depth [] shallow) ∙ is

-- ## A line is UTF-8

abbrev IsText : Token → Type 0
IsText t = IsUtf8 (token_text t)

all_append : (ts us : List Token) → AllByRecursion IsText ts → AllByRecursion IsText us → AllByRecursion IsText (ts ++ us)
all_append [] us h k = k
all_append (t ∷ ts) us h k = (h.0, all_append ts us h.1 k)

mutual
  texts : (j : json.Json) → HasTexts j → AllByRecursion IsText (json_tokens j)
  texts json.null h = (IsUtf8-are_ascii (110 ∷ 117 ∷ 108 ∷ 108 ∷ []) refl, tt)
  texts (json.boolean b) h = (IsUtf8-boolean b, tt)
  texts (json.number s) h = (h, tt)
  texts (json.string s) h = (IsUtf8-quoted s h, tt)
  texts (json.array js) h = (IsUtf8-are_ascii (91 ∷ []) refl, items_texts js h)
  texts (json.object ms) h = (IsUtf8-are_ascii (123 ∷ []) refl, members_texts ms h)

  items_texts : (js : json.Items) → ItemsHaveTexts js → AllByRecursion IsText (items_tokens js)
  items_texts json.no_items h = (IsUtf8-are_ascii (93 ∷ []) refl, tt)
  items_texts (json.item j js) h = all_append (json_tokens j) (items_tokens js) (texts j h.0) (items_texts js h.1)

  members_texts : (ms : json.Members) → MembersHaveTexts ms → AllByRecursion IsText (members_tokens ms)
  members_texts json.no_members h = (IsUtf8-are_ascii (125 ∷ []) refl, tt)
  members_texts (json.member k j ms) h = (IsUtf8-key k h.0, all_append (json_tokens j) (members_tokens ms) (texts j h.1) (members_texts ms h.2))

printed_text : (c : Bool) (ts : List Token) → AllByRecursion IsText ts → IsUtf8 (print_from c ts)
unfolding print_from
printed_text c [] h = IsUtf8-nil
printed_text c (t ∷ ts) h = IsUtf8-append (separator c t) (token_text t ++ print_from (ends t) ts) (IsUtf8-separator c t)
    (IsUtf8-append (token_text t) (print_from (ends t) ts) h.0 (printed_text (ends t) ts h.1))

pub line_text : (j : json.Json) → HasTexts j → IsUtf8 (json_line j)
line_text j h = IsUtf8-append (print (json_tokens j)) (10 ∷ []) (printed_text false (json_tokens j) (texts j h)) (IsUtf8-are_ascii (10 ∷ []) refl)

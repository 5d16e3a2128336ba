-- Edits in a line: their texts, with words `;` between.
use Rattle.std.proofs.Common.{ℕ, ◌≡◌, ◌≢◌, ◌+◌, ◌-◌, List, [], ◌∷◌, ◌++◌, length, length-append, map, take, Bool, true, false, refl, sym, ap, arith}
use Rattle.std.proofs.Common.{◌∙◌, append_assoc, append-nil, cond, subst, inl, inr}
use Rattle.std.specs.List.{list_all, list_any, flat_map, slice_split, onto_first, AllByRecursion}
use Rattle.std.proofs.lemmas.Bool.{false≢true, and_parts, or_parts}
use Rattle.std.proofs.lemmas.Bool.Decides.{eqb_tells}
use Rattle.std.proofs.lemmas.List.{take_at}
use Rattle.std.proofs.lemmas.Slice.Eq.{bytes_eq-Decides}
use Rattle.edit_ops.specs.Records.{EditView}
use Rattle.edit_codec.specs.EditTexts.{text_of, IsText}
use Rattle.edit_codec.specs.SaidTexts.{is_edit_text, IsGraphic, IsWorded}
use Rattle.edit_codec.proofs.TestLaws.{passes, edit_from}
use Rattle.edit_codec.proofs.TextWords.{worded}
use Rattle.edit_codec.proofs.SayEdits.{one_edit}
use Rattle.play_script.specs.Lines.{Lacks}
use Rattle.base_words.specs.Words.{joined, is_space, words_of, is_empty}
use Rattle.play_script.specs.Edits.{separator, is_separator, texts_between, are_edits, edits_text, edit_words, IsSayable}
use Rattle.play_script.specs.Reading.{HasText}
use Rattle.base_words.proofs.WordLaws.{words_joined, words_some}
use Rattle.play_script.proofs.WordLaws.{words_more, words_all, all_push}
use Rattle.play_script.proofs.BodyLaws.{IsWord, words_again}

-- ## Words of texts
onto_lacks : (b : ℕ) (parts : List (List ℕ)) → b ≢ 32 → AllByRecursion (Lacks 32) parts → AllByRecursion (Lacks 32) (onto_first b parts)
onto_lacks b [] n h = ((n, tt), tt)
onto_lacks b (part ∷ parts) n h = ((n, h.0), h.1)

split_lacks : (text : List ℕ) → AllByRecursion (Lacks 32) (slice_split is_space text)
split_lacks [] = (tt, tt)
split_lacks (b ∷ bs) =
    elim (eqb_tells b 32) [
      | inl p ↦ let space : is_space b ≡ true = p.0 in rw space (tt, split_lacks bs)
      | inr p ↦ let other : is_space b ≡ false = p.0 in rw other (onto_lacks b (slice_split is_space bs) p.1 (split_lacks bs))
    ]

-- no word has a space
pub words_lack : (text : List ℕ) → AllByRecursion (Lacks 32) (words_of text)
unfolding words_of
words_lack text = split_lacks text

joined_lacking : (word : List ℕ) (words : List (List ℕ)) → AllByRecursion (Lacks 32) (word ∷ words) → words_of (joined (word ∷ words)) ≡ word ∷ words
joined_lacking word [] h = words_all word h.0
joined_lacking word (next ∷ words) h = words_more (joined (word ∷ next ∷ words)) word (joined (next ∷ words)) refl h.0 ∙ ap (λ ws. word ∷ ws) (joined_lacking next words h.1)

onto_more : (b : ℕ) (parts rest : List (List ℕ)) → parts ≢ [] → onto_first b (parts ++ rest) ≡ onto_first b parts ++ rest
onto_more b [] rest n = absurd (n refl)
onto_more b (part ∷ parts) rest n = refl

-- a space between two texts
words_append : (a b : List ℕ) → words_of (a ++ 32 ∷ b) ≡ words_of a ++ words_of b
unfolding words_of
words_append [] b = refl
words_append (c ∷ cs) b = by (is_space c) (words_append cs b)
  where
    by : (t : Bool) → slice_split is_space (cs ++ 32 ∷ b) ≡ slice_split is_space cs ++ slice_split is_space b
        → cond t ([] ∷ slice_split is_space (cs ++ 32 ∷ b)) (onto_first c (slice_split is_space (cs ++ 32 ∷ b))) ≡ cond t
        ([] ∷ slice_split is_space cs) (onto_first c (slice_split is_space cs)) ++ slice_split is_space b
    by true rest = ap (λ ws. [] ∷ ws) rest
    by false rest = ap (onto_first c) rest ∙ onto_more c (slice_split is_space cs) (slice_split is_space b) (words_some cs)

-- ## Words between the words `;`
-- a word `;` between two lists of words
abbrev apart : List (List (List ℕ)) → List (List ℕ)
apart [] = []
apart (group ∷ []) = group
apart (group ∷ next ∷ groups) = group ++ separator ∷ apart (next ∷ groups)

onto_apart : (word : List ℕ) (groups : List (List (List ℕ))) → apart (onto_first word groups) ≡ word ∷ apart groups
onto_apart word [] = refl
onto_apart word (group ∷ []) = refl
onto_apart word (group ∷ next ∷ groups) = refl

onto_none : (word : List ℕ) (groups : List (List (List ℕ))) → onto_first word groups ≢ []
onto_none word [] e = cc
onto_none word (group ∷ groups) e = cc

groups_none : (words : List (List ℕ)) → slice_split is_separator words ≢ []
groups_none [] e = cc
groups_none (word ∷ words) e = by (is_separator word) e
  where
    by : (t : Bool) → cond t ([] ∷ slice_split is_separator words) (onto_first word (slice_split is_separator words)) ≡ [] → ⊥
    by true h = cc
    by false h = onto_none word (slice_split is_separator words) h

apart_more : (group : List (List ℕ)) (groups : List (List (List ℕ))) → groups ≢ [] → apart (group ∷ groups) ≡ group ++ separator ∷ apart groups
apart_more group [] n = absurd (n refl)
apart_more group (next ∷ groups) n = refl

separator_is : (word : List ℕ) → is_separator word ≡ true → word ≡ separator
separator_is word e = (bytes_eq-Decides word separator).0 e

-- the groups of words, put together again
apart_again : (words : List (List ℕ)) → apart (slice_split is_separator words) ≡ words
apart_again [] = refl
apart_again (word ∷ words) = by (is_separator word) refl (apart_again words)
  where
    by : (t : Bool) → is_separator word ≡ t → apart (slice_split is_separator words) ≡ words
        → apart (cond t ([] ∷ slice_split is_separator words) (onto_first word (slice_split is_separator words))) ≡ word ∷ words
    by true h rest = apart_more [] (slice_split is_separator words) (groups_none words) ∙ (λ i. sym (separator_is word h) i ∷ rest i)
    by false h rest = onto_apart word (slice_split is_separator words) ∙ ap (λ ws. word ∷ ws) rest

-- words without a space, and none of them `;`
pub record IsGroup (group : List (List ℕ)) : Type 0 where
  pub lacks : AllByRecursion (Lacks 32) group
  pub no_separator : list_any is_separator group ≡ false

onto_group : (word : List ℕ) (groups : List (List (List ℕ))) → Lacks 32 word → is_separator word ≡ false → AllByRecursion IsGroup groups → AllByRecursion IsGroup (onto_first word groups)
onto_group word [] l n h = (record { lacks = (l, tt); no_separator = rw n refl }, tt)
onto_group word (group ∷ groups) l n h = (record { lacks = (l, h.0.lacks); no_separator = rw n h.0.no_separator }, h.1)

are_groups : (words : List (List ℕ)) → AllByRecursion (Lacks 32) words → AllByRecursion IsGroup (slice_split is_separator words)
are_groups [] h = (record { lacks = tt; no_separator = refl }, tt)
are_groups (word ∷ words) h = by (is_separator word) refl (are_groups words h.1)
  where
    by : (t : Bool) → is_separator word ≡ t → AllByRecursion IsGroup (slice_split is_separator words)
        → AllByRecursion IsGroup (cond t ([] ∷ slice_split is_separator words) (onto_first word (slice_split is_separator words)))
    by true e rest = (record { lacks = tt; no_separator = refl }, rest)
    by false e rest = onto_group word (slice_split is_separator words) h.0 e rest

-- a group, and a word `;` after it
split_apart : (group words : List (List ℕ)) → list_any is_separator group ≡ false → slice_split is_separator (group ++ separator ∷ words) ≡ group ∷ slice_split is_separator words
split_apart [] words n = refl
split_apart (word ∷ group) words n =
    let t = or_parts (is_separator word) (list_any is_separator group) n in
    rw t.0 (ap (onto_first word) (split_apart group words t.1))

split_last : (group : List (List ℕ)) → list_any is_separator group ≡ false → slice_split is_separator group ≡ group ∷ []
split_last [] n = refl
split_last (word ∷ group) n =
    let t = or_parts (is_separator word) (list_any is_separator group) n in
    rw t.0 (ap (onto_first word) (split_last group t.1))

-- ## The words of edits
edits_words_more : (e f : EditView) (es : List EditView) → words_of (edits_text (e ∷ f ∷ es)) ≡ edit_words e ++ separator ∷ words_of (edits_text (f ∷ es))
edits_words_more e f es =
    words_append (text_of false e) (59 ∷ 32 ∷ edits_text (f ∷ es)) ∙ ap (λ ws. edit_words e ++ ws)
    (words_append (59 ∷ []) (edits_text (f ∷ es)) ∙ ap (λ ws. ws ++ words_of (edits_text (f ∷ es))) (words_all (59 ∷ []) ((λ z. cc), tt)))

edits_words : (e : EditView) (es : List EditView) → words_of (edits_text (e ∷ es)) ≡ apart (map edit_words (e ∷ es))
edits_words e [] = ap words_of (append-nil (text_of false e))
edits_words e (f ∷ es) = edits_words_more e f es ∙ ap (λ ws. edit_words e ++ separator ∷ ws) (edits_words f es)

groups_again : (e : EditView) (es : List EditView) → AllByRecursion IsSayable (e ∷ es) → slice_split is_separator (apart (map edit_words (e ∷ es))) ≡ map edit_words (e ∷ es)
groups_again e [] h = split_last (edit_words e) h.0.apart
groups_again e (f ∷ es) h = split_apart (edit_words e) (apart (map edit_words (f ∷ es))) h.0.apart ∙ ap (λ gs. edit_words e ∷ gs) (groups_again f es h.1)

texts_joined : (es : List EditView) → map joined (map edit_words es) ≡ map (text_of false) es
texts_joined [] = refl
texts_joined (e ∷ es) = (λ i. words_joined (text_of false e) i ∷ texts_joined es i)

-- the texts between the words of edits are theirs
pub texts_again : (es : List EditView) → es ≢ [] → AllByRecursion IsSayable es → texts_between (words_of (edits_text es)) ≡ map (text_of false) es
unfolding texts_between
texts_again [] n h = absurd (n refl)
texts_again (e ∷ es) n h = ap (λ ws. map joined (slice_split is_separator ws)) (edits_words e es) ∙ ap (map joined) (groups_again e es h) ∙ texts_joined (e ∷ es)

all_pass : (es : List EditView) → AllByRecursion IsSayable es → list_all is_edit_text (map (text_of false) es) ≡ true
all_pass [] h = refl
all_pass (e ∷ es) h = let p : is_edit_text (text_of false e) ≡ true = passes (text_of false e) e h.0.text in rw p (all_pass es h.1)

pub are_edits_again : (es : List EditView) → es ≢ [] → AllByRecursion IsSayable es → are_edits (words_of (edits_text es)) ≡ true
are_edits_again es n h = ap (list_all is_edit_text) (texts_again es n h) ∙ all_pass es h

-- ## Words of edits are words
abbrev AreFull : List (List ℕ) → Type 0
AreFull words = AllByRecursion IsWord words × (list_any is_empty words ≡ false)

graphic_full : (word : List ℕ) → IsGraphic word → IsWord word × (is_empty word ≡ false)
graphic_full [] g = absurd (omega (arith, g.some))
graphic_full (b ∷ bs) g = (g.graphic, refl)

graphics_full : (words : List (List ℕ)) → AllByRecursion IsGraphic words → AreFull words
graphics_full [] h = (tt, refl)
graphics_full (word ∷ words) h =
    let f = graphic_full word h.0 in
    let r = graphics_full words h.1 in
    ((f.0, r.0), rw f.1 r.1)

spelled_joined : (word : List ℕ) (words : List (List ℕ)) → word ++ flat_map (λ w. 32 ∷ w) words ≡ joined (word ∷ words)
spelled_joined word [] = append-nil word
spelled_joined word (next ∷ words) = ap (λ t. word ++ 32 ∷ t) (spelled_joined next words)

worded_words : (text : List ℕ) (w : IsWorded text) → words_of text ≡ w.first ∷ w.others
worded_words text w = ap words_of (w.spelled ∙ spelled_joined w.first w.others) ∙ words_again w.first w.others (graphics_full (w.first ∷ w.others) w.words).0

edit_full : (e : EditView) → IsText (text_of false e) e → AreFull (edit_words e)
edit_full e is =
    let w = worded (text_of false e) e is in
    subst AreFull (sym (worded_words (text_of false e) w)) (graphics_full (w.first ∷ w.others) w.words)

full_append : (xs ys : List (List ℕ)) → AreFull xs → AreFull ys → AreFull (xs ++ ys)
full_append [] ys p q = q
full_append (x ∷ xs) ys p q =
    let t = or_parts (is_empty x) (list_any is_empty xs) p.1 in
    let r = full_append xs ys (p.0.1, t.1) q in
    ((p.0.0, r.0), rw t.0 r.1)

full_apart : (e : EditView) (es : List EditView) → AllByRecursion IsSayable (e ∷ es) → AreFull (apart (map edit_words (e ∷ es)))
full_apart e [] h = edit_full e h.0.text
full_apart e (f ∷ es) h =
    let r = full_apart f es h.1 in
    full_append (edit_words e) (separator ∷ apart (map edit_words (f ∷ es))) (edit_full e h.0.text) ((refl, r.0), r.1)

pub edits_full : (es : List EditView) → es ≢ [] → AllByRecursion IsSayable es → AllByRecursion IsWord (words_of (edits_text es)) × (list_any is_empty (words_of (edits_text es)) ≡ false)
edits_full [] n h = absurd (n refl)
edits_full (e ∷ es) n h = subst AreFull (sym (edits_words e es)) (full_apart e es h)

-- ## Edits from words
abbrev first_edit : (t : List ℕ) (b : Bool) → is_edit_text t ≡ b → List EditView
first_edit t true h = (edit_from t h).0 ∷ []
first_edit t false h = []

-- the edits that texts are of
abbrev pub edits_from : List (List ℕ) → List EditView
edits_from [] = []
edits_from (t ∷ ts) = first_edit t (is_edit_text t) refl ++ edits_from ts

first_again : (e : EditView) → IsText (text_of false e) e → (b : Bool) (h : is_edit_text (text_of false e) ≡ b) → first_edit (text_of false e) b h ≡ e ∷ []
first_again e is true h = ap (λ x. x ∷ []) (one_edit (edit_from (text_of false e) h).0 e (text_of false e) (edit_from (text_of false e) h).1 is)
first_again e is false h = absurd (false≢true (sym h ∙ passes (text_of false e) e is))

edits_again_from : (es : List EditView) → AllByRecursion IsSayable es → edits_from (map (text_of false) es) ≡ es
edits_again_from [] h = refl
edits_again_from (e ∷ es) h = (λ i. first_again e h.0.text (is_edit_text (text_of false e)) refl i ++ edits_again_from es h.1 i)

pub edits_again : (es : List EditView) → es ≢ [] → AllByRecursion IsSayable es → edits_from (texts_between (words_of (edits_text es))) ≡ es
edits_again es n h = ap edits_from (texts_again es n h) ∙ edits_again_from es h

-- edits with these texts
pub edits_told : (ts : List (List ℕ)) → list_all is_edit_text ts ≡ true → (es : List EditView) × (map (text_of false) es ≡ ts) × AllByRecursion HasText es
edits_told [] h = ([], refl, tt)
edits_told (t ∷ ts) h =
    let p = and_parts (is_edit_text t) (list_all is_edit_text ts) h in
    let first = edit_from t p.0 in
    let rest = edits_told ts p.1 in
    (first.0 ∷ rest.0, (λ i. sym first.1.spelled i ∷ rest.1 i), (subst (λ (x : List ℕ). IsText x first.0) first.1.spelled first.1, rest.2))

-- a text of an edit isn't empty
no_words : (e : EditView) → IsText (text_of false e) e → text_of false e ≡ [] → ⊥
no_words e is n =
    let w = worded (text_of false e) e is in
    let some = w.words.0.some in
    let none : length (w.first ++ flat_map (λ x. 32 ∷ x) w.others) ≡ 0 = ap length (sym w.spelled ∙ n) in
    omega (arith, some, none, length-append w.first (flat_map (λ x. 32 ∷ x) w.others))

group_words : (e : EditView) (group : List (List ℕ)) → HasText e → text_of false e ≡ joined group → IsGroup group → edit_words e ≡ group
group_words e [] is t g = absurd (no_words e is t)
group_words e (word ∷ words) is t g = ap words_of t ∙ joined_lacking word words g.lacks

-- each edit has the words of its group
abbrev AreOf : List EditView → List (List (List ℕ)) → Type 0
AreOf es groups = (map edit_words es ≡ groups) × AllByRecursion IsSayable es

are_of : (es : List EditView) (groups : List (List (List ℕ))) → AllByRecursion HasText es → map (text_of false) es ≡ map joined groups → AllByRecursion IsGroup groups → AreOf es groups
are_of [] [] h t g = (refl, tt)
are_of [] (group ∷ groups) h t g = cc
are_of (e ∷ es) [] h t g = cc
are_of (e ∷ es) (group ∷ groups) h t g =
    let first : text_of false e ≡ joined group = cc in
    let others : map (text_of false) es ≡ map joined groups = cc in
    let words : edit_words e ≡ group = group_words e group h.0 first g.0 in
    let rest = are_of es groups h.1 others g.1 in
    ((λ i. words i ∷ rest.0 i), (record { text = h.0; apart = ap (list_any is_separator) words ∙ g.0.no_separator }, rest.1))

pub record AreSaidBy (es : List EditView) (words : List (List ℕ)) : Type 0 where
  pub some : es ≢ []
  pub said : AllByRecursion IsSayable es
  pub words_are : words_of (edits_text es) ≡ words

said_by_groups : (es : List EditView) (words : List (List ℕ)) → map edit_words es ≡ slice_split is_separator words → AllByRecursion IsSayable es → AreSaidBy es words
said_by_groups [] words e h = absurd (groups_none words (sym e))
said_by_groups (d ∷ es) words e h = record { some = λ z. cc; said = h; words_are = edits_words d es ∙ ap apart e ∙ apart_again words }

pub said_by_texts : (es : List EditView) (words : List (List ℕ)) → AllByRecursion (Lacks 32) words → map (text_of false) es ≡ texts_between words → AllByRecursion HasText es → AreSaidBy es words
unfolding texts_between
said_by_texts es words l t h =
    let a = are_of es (slice_split is_separator words) h t (are_groups words l) in
    said_by_groups es words a.0 a.1

-- ## Texts at their words `;`
-- words, each with a space after it
abbrev pub ended_words : List (List ℕ) → List ℕ
ended_words words = flat_map (λ word. word ++ 32 ∷ []) words

-- the words before the rest of a text, none of which is `;`
pub record StandsBefore (text rest : List ℕ) (before : List (List ℕ)) : Type 0 where
  pub spelled : text ≡ ended_words before ++ rest
  pub words : words_of text ≡ before ++ words_of rest
  pub apart : list_any is_separator before ≡ false

abbrev pub IsBeforeIn : List ℕ → List ℕ → Type 0
IsBeforeIn text rest = (before : List (List ℕ)) × StandsBefore text rest before

pub none_before : (text : List ℕ) → IsBeforeIn text text
none_before text = ([], record { spelled = refl; words = refl; apart = refl })

ended_push : (before : List (List ℕ)) (word rest : List ℕ) → ended_words (before ++ word ∷ []) ++ rest ≡ ended_words before ++ (word ++ 32 ∷ rest)
ended_push [] word rest = ap (λ t. t ++ rest) (append-nil (word ++ 32 ∷ [])) ∙ append_assoc word (32 ∷ []) rest
ended_push (w ∷ before) word rest =
    append_assoc (w ++ 32 ∷ []) (ended_words (before ++ word ∷ [])) rest ∙ ap (λ t. (w ++ 32 ∷ []) ++ t) (ended_push before word rest)
    ∙ sym (append_assoc (w ++ 32 ∷ []) (ended_words before) (word ++ 32 ∷ rest))

any_push : (words : List (List ℕ)) (word : List ℕ) → list_any is_separator words ≡ false → is_separator word ≡ false → list_any is_separator (words ++ word ∷ []) ≡ false
any_push [] word n e = rw e refl
any_push (w ∷ words) word n e =
    let t = or_parts (is_separator w) (list_any is_separator words) n in
    rw t.0 (any_push words word t.1 e)

-- the words of a rest with a space
rest_spelled : (rest word others : List ℕ) → words_of rest ≡ word ∷ words_of others → rest ≡ word ++ 32 ∷ others
rest_spelled rest word others e = sym (words_joined rest) ∙ ap joined e ∙ by (words_of others) refl
  where
    by : (ws : List (List ℕ)) → words_of others ≡ ws → joined (word ∷ ws) ≡ word ++ 32 ∷ others
    by [] h = absurd (words_some others h)
    by (w ∷ ws) h = ap (λ t. word ++ 32 ∷ t) (ap joined (sym h) ∙ words_joined others)

pub one_more_before : (text rest word others : List ℕ) → IsBeforeIn text rest → words_of rest ≡ word ∷ words_of others → is_separator word ≡ false → IsBeforeIn text others
one_more_before text rest word others b e n = (
  b.0 ++ word ∷ [],
  record {
    spelled = b.1.spelled ∙ ap (λ t. ended_words b.0 ++ t) (rest_spelled rest word others e) ∙ sym (ended_push b.0 word others);
    words = b.1.words ∙ ap (λ ws. b.0 ++ ws) e ∙ sym (append_assoc b.0 (word ∷ []) (words_of others));
    apart = any_push b.0 word b.1.apart n;
  },
)

-- words without the last space
ended_joined : (word : List ℕ) (words : List (List ℕ)) → ended_words (word ∷ words) ≡ joined (word ∷ words) ++ 32 ∷ []
ended_joined word [] = append-nil (word ++ 32 ∷ [])
ended_joined word (next ∷ words) = ap (λ t. (word ++ 32 ∷ []) ++ t) (ended_joined next words)
    ∙ append_assoc word (32 ∷ []) (joined (next ∷ words) ++ 32 ∷ []) ∙ sym (append_assoc word (32 ∷ joined (next ∷ words)) (32 ∷ []))

take_joined : (words : List (List ℕ)) (rest : List ℕ) (n : ℕ) → n + length rest ≡ length (ended_words words ++ rest) → take (n - 1) (ended_words words ++ rest) ≡ joined words
take_joined [] rest n e = let none : n ≡ 0 = omega (arith, e) in ap (λ k. take (k - 1) rest) none
take_joined (word ∷ words) rest n e =
    let text : ended_words (word ∷ words) ++ rest ≡ joined (word ∷ words) ++ 32 ∷ rest = ap (λ t. t ++ rest) (ended_joined word words) ∙ append_assoc (joined (word ∷ words)) (32 ∷ []) rest in
    let long : length (ended_words (word ∷ words) ++ rest) ≡ length (joined (word ∷ words)) + length (32 ∷ rest) = ap length text ∙ length-append (joined (word ∷ words)) (32 ∷ rest) in
    let at : n - 1 ≡ length (joined (word ∷ words)) = omega (arith, e, long) in
    (λ i. take (at i) (text i)) ∙ take_at (joined (word ∷ words)) (32 ∷ rest) (length (joined (word ∷ words))) refl

pub front_is : (text rest : List ℕ) (before : List (List ℕ)) → StandsBefore text rest before → take (length text - length rest - 1) text ≡ joined before
front_is text rest before b =
    let long : length text ≡ length (ended_words before ++ rest) = ap length b.spelled in
    let n : ℕ = length text - length rest in
    ap (take (length text - length rest - 1)) b.spelled ∙ take_joined before rest (length text - length rest) (omega (arith, long, length-append (ended_words before) rest))

-- the word `;` stands at the front of the rest
pub found_text : (text rest word others front : List ℕ) → IsBeforeIn text rest → words_of rest ≡ word ∷ words_of others → is_separator word ≡ true → front ≡ take (length text - length rest - 1) text
    → texts_between (words_of text) ≡ front ∷ texts_between (words_of others)
unfolding texts_between
found_text text rest word others front b e s f =
    ap (λ ws. map joined (slice_split is_separator ws)) (b.1.words ∙ ap (λ ws. b.0 ++ ws) (e ∙ ap (λ w. w ∷ words_of others) (separator_is word s)))
    ∙ ap (map joined) (split_apart b.0 (words_of others) b.1.apart) ∙ ap (λ t. t ∷ map joined (slice_split is_separator (words_of others))) (sym (f ∙ front_is text rest b.0 b.1))

-- the word `;` is the last one of the text
pub found_last : (text rest front : List ℕ) → IsBeforeIn text rest → words_of rest ≡ rest ∷ [] → is_separator rest ≡ true → front ≡ take (length text - length rest - 1) text
    → texts_between (words_of text) ≡ front ∷ texts_between (words_of [])
unfolding texts_between words_of
found_last text rest front b e s f =
    ap (λ ws. map joined (slice_split is_separator ws)) (b.1.words ∙ ap (λ ws. b.0 ++ ws) (e ∙ ap (λ w. w ∷ []) (separator_is rest s)))
    ∙ ap (map joined) (split_apart b.0 [] b.1.apart) ∙ ap (λ t. t ∷ [] ∷ []) (sym (f ∙ front_is text rest b.0 b.1))

-- no word is `;`
pub found_none : (text rest : List ℕ) → IsBeforeIn text rest → words_of rest ≡ rest ∷ [] → is_separator rest ≡ false → texts_between (words_of text) ≡ text ∷ []
unfolding texts_between
found_none text rest b e n =
    let all : words_of text ≡ b.0 ++ rest ∷ [] = b.1.words ∙ ap (λ ws. b.0 ++ ws) e in
    ap (map joined) (split_last (words_of text) (ap (list_any is_separator) all ∙ any_push b.0 rest b.1.apart n)) ∙ ap (λ t. t ∷ []) (words_joined text)

-- ## Edits read one by one
pub text_push : (es : List EditView) (e : EditView) (t : List ℕ) (ts : List (List ℕ)) → text_of false e ≡ t → map (text_of false) (es ++ e ∷ []) ++ ts ≡ map (text_of false) es ++ t ∷ ts
text_push [] e t ts h = ap (λ x. x ∷ ts) h
text_push (d ∷ es) e t ts h = ap (λ xs. text_of false d ∷ xs) (text_push es e t ts h)

pub edit_push : (es : List EditView) (e : EditView) → AllByRecursion HasText es → HasText e → AllByRecursion HasText (es ++ e ∷ [])
edit_push es e h t = all_push HasText es e h t

pub has_text : (t : List ℕ) (e : EditView) → IsText t e → (is_edit_text t ≡ true) × (text_of false e ≡ t) × HasText e
has_text t e is = (passes t e is, sym is.spelled, subst (λ (x : List ℕ). IsText x e) is.spelled is)

pub no_text : (t : List ℕ) → ((e : EditView) → IsText t e → ⊥) → is_edit_text t ≡ false
no_text t none = by (is_edit_text t) refl
  where
    by : (b : Bool) → is_edit_text t ≡ b → b ≡ false
    by true h = let found = edit_from t h in absurd (none found.0 found.1)
    by false h = refl

pub ruleset edit_steps = (text_push, edit_push, has_text, no_text)

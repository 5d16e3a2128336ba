-- Texts that grow at the end.
use Rattle.std.proofs.Common.{ℕ, zero, suc, ◌≡◌, ◌<◌, ◌+◌, List, [], ◌∷◌, ◌++◌, length, take, get_or, false, codes, refl, sym, ap, arith, ◌∙◌, append_assoc, append-nil, map}
use Rattle.std.specs.List.{AllByRecursion}
use Rattle.std.proofs.lemmas.List.{take_more, flat_map_more}
use Rattle.edit_ops.specs.Records.{EditView}
use Rattle.edit_codec.specs.EditTexts.{text_of}
use Rattle.base_words.specs.Hex.{hex_text}
use Rattle.journal_text.specs.Texts.{bodies_text}
use Rattle.base_words.specs.Words.{joined, words_of}
use Rattle.play_script.specs.Edits.{others_text, edits_text, IsSayable}
use Rattle.base_words.proofs.WordLaws.{words_some, words_joined}

pub spaced : (old mid new word : List ℕ) → mid ≡ old ++ 32 ∷ [] → new ≡ mid ++ word → new ≡ old ++ 32 ∷ word
spaced old mid new word m n = n ∙ ap (λ x. x ++ word) m ∙ append_assoc old (32 ∷ []) word

-- one more word after a space
spaced_more : (w : List ℕ) (ws : List (List ℕ)) (v : List ℕ) → joined (w ∷ ws) ++ 32 ∷ v ≡ joined ((w ∷ ws) ++ v ∷ [])
spaced_more w [] v = refl
spaced_more w (u ∷ us) v = append_assoc w (32 ∷ joined (u ∷ us)) (32 ∷ v) ∙ ap (λ t. w ++ 32 ∷ t) (spaced_more u us v)

pub word_more : (old out : List ℕ) (w : List ℕ) (ws : List (List ℕ)) (v : List ℕ) → out ≡ old ++ joined (w ∷ ws) → out ++ 32 ∷ v ≡ old ++ joined ((w ∷ ws) ++ v ∷ [])
word_more old out w ws v o = ap (λ x. x ++ 32 ∷ v) o ∙ append_assoc old (joined (w ∷ ws)) (32 ∷ v) ∙ ap (λ x. old ++ x) (spaced_more w ws v)

joined_bodies : (name : List ℕ) (bodies : List (List ℕ)) → joined (name ∷ map hex_text bodies) ≡ name ++ bodies_text bodies
unfolding bodies_text
joined_bodies name [] = sym (append-nil name)
joined_bodies name (b ∷ bs) = ap (λ t. name ++ 32 ∷ t) (joined_bodies (hex_text b) bs)

-- the bodies after a name
pub log_more : (old out word name : List ℕ) (bodies : List (List ℕ)) → out ≡ old ++ joined (word ∷ name ∷ []) → out ++ bodies_text bodies ≡ old ++ joined (word ∷ name ∷ map hex_text bodies)
log_more old out word name bodies o =
    ap (λ x. x ++ bodies_text bodies) o ∙ append_assoc old (word ++ 32 ∷ name) (bodies_text bodies)
    ∙ ap (λ t. old ++ t) (append_assoc word (32 ∷ name) (bodies_text bodies) ∙ ap (λ t. word ++ 32 ∷ t) (sym (joined_bodies name bodies)))

-- ## Edits
pub others_none : (old : List ℕ) → old ≡ old ++ others_text []
others_none old = sym (append-nil old)

pub edits_none : (old : List ℕ) → old ≡ old ++ edits_text []
edits_none old = sym (append-nil old)

-- one more edit
pub edit_more : (old out mid new : List ℕ) (edits : List EditView) (i : ℕ) (d e : EditView) → i < length edits → out ≡ old ++ others_text (take i edits) → e ≡ get_or edits i d
    → mid ≡ out ++ codes " ; " → new ≡ mid ++ text_of false e → new ≡ old ++ others_text (take (i + 1) edits)
edit_more old out mid new edits i d e l o is m n =
    n ∙ ap (λ x. x ++ text_of false e) m ∙ append_assoc out (codes " ; ") (text_of false e) ∙ ap (λ x. x ++ (codes " ; " ++ text_of false e)) o
    ∙ flat_map_more (λ f. codes " ; " ++ text_of false f) old (take i edits) e ∙ ap (λ x. old ++ others_text (take i edits ++ x ∷ [])) is
    ∙ ap (λ es. old ++ others_text es) (sym (take_more edits i d l))

-- the first edit and the others
pub edits_more : (old mid : List ℕ) (first : EditView) (others edits : List EditView) → edits ≡ first ∷ others → mid ≡ old ++ text_of false first → mid ++ others_text others ≡ old ++ edits_text edits
edits_more old mid first others edits e m = ap (λ x. x ++ others_text others) m ∙ append_assoc old (text_of false first) (others_text others) ∙ ap (λ es. old ++ edits_text es) (sym e)

joined_text : (word name text : List ℕ) → joined (word ∷ name ∷ words_of text) ≡ word ++ 32 ∷ (name ++ 32 ∷ text)
joined_text word name text = by (words_of text) refl
  where
    by : (ws : List (List ℕ)) → words_of text ≡ ws → joined (word ∷ name ∷ ws) ≡ word ++ 32 ∷ (name ++ 32 ∷ text)
    by [] e = absurd (words_some text e)
    by (w ∷ ws) e = ap (λ t. word ++ 32 ∷ (name ++ 32 ∷ t)) (ap joined (sym e) ∙ words_joined text)

-- a text of several words after a name
pub text_more : (old named mid word name text : List ℕ) → named ≡ old ++ joined (word ∷ name ∷ []) → mid ≡ named ++ 32 ∷ [] → mid ++ text ≡ old ++ joined (word ∷ name ∷ words_of text)
text_more old named mid word name text k m =
    spaced named mid (mid ++ text) text m refl ∙ ap (λ x. x ++ 32 ∷ text) k ∙ append_assoc old (word ++ 32 ∷ name) (32 ∷ text)
    ∙ ap (λ x. old ++ x) (append_assoc word (32 ∷ name) (32 ∷ text) ∙ sym (joined_text word name text))

pub ruleset pushes = (spaced, others_none, edits_none)

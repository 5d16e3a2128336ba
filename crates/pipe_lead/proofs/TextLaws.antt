-- A line with the actor's name after its first word.
use Rattle.std.proofs.Common.{ℕ, ◌≡◌, List, [], ◌∷◌, ◌++◌, refl, sym, ap, ◌∙◌, append_assoc}
use Rattle.std.specs.Prelude.{codes, Result, Ok, Err, OnOk}
use Rattle.base_words.specs.Words.{joined, words_of}
use Rattle.base_words.proofs.WordLaws.{words_joined, words_some}
use Rattle.pipe_lead.specs.Inputs.{with_actor}

joined_by : (word rest : List ℕ) (ws : List (List ℕ)) → words_of rest ≡ ws → joined (word ∷ codes "a" ∷ ws) ≡ word ++ 32 ∷ 97 ∷ 32 ∷ rest
joined_by word rest [] e = absurd (words_some rest e)
joined_by word rest (v ∷ vs) e = ap (λ (xs : List ℕ). word ++ 32 ∷ 97 ∷ 32 ∷ xs) (ap joined (sym e) ∙ words_joined rest)

put_more : (line word rest old a b new : List ℕ) → words_of line ≡ word ∷ words_of rest → a ≡ old ++ word → b ≡ a ++ codes " a " → new ≡ b ++ rest
    → new ≡ old ++ joined (with_actor (words_of line))
put_more line word rest old a b new e h i j =
    j ∙ ap (λ x. x ++ rest) (i ∙ ap (λ x. x ++ codes " a ") h) ∙ append_assoc (old ++ word) (codes " a ") rest ∙ append_assoc old word (codes " a " ++ rest)
    ∙ ap (λ x. old ++ x) (sym (joined_by word rest (words_of rest) refl) ∙ ap (λ (ws : List (List ℕ)). joined (with_actor ws)) (sym e))

pub put_rest : {T E : Type 0} (r : Result T E) (line word rest old a b new : List ℕ) → words_of line ≡ word ∷ words_of rest → a ≡ old ++ word → b ≡ a ++ codes " a "
    → OnOk r (new ≡ b ++ rest) → OnOk r (new ≡ old ++ joined (with_actor (words_of line)))
put_rest (Ok done) line word rest old a b new e h i j = put_more line word rest old a b new e h i j
put_rest (Err fail) line word rest old a b new e h i j = tt

pub put_alone : (line old a new : List ℕ) → words_of line ≡ line ∷ [] → a ≡ old ++ line → new ≡ a ++ codes " a" → new ≡ old ++ joined (with_actor (words_of line))
put_alone line old a new e h i =
    i ∙ ap (λ x. x ++ codes " a") h ∙ append_assoc old line (codes " a") ∙ ap (λ x. old ++ x) (ap (λ (ws : List (List ℕ)). joined (with_actor ws)) (sym e))

pub ruleset puts = (put_alone)

-- Words that have no space.
use Rattle.std.proofs.Common.{ℕ, ◌≡◌, ◌≢◌, List, [], ◌∷◌, ◌++◌, false, refl, ap, inl, inr}
use Rattle.std.specs.List.{AllByRecursion, slice_split, onto_first}
use Rattle.std.proofs.lemmas.Bool.Decides.{eqb_tells}
use Rattle.base_words.specs.Words.{is_space, words_of}
use Rattle.play_script.specs.Lines.{Lacks}

not_space : (b : ℕ) → b ≢ 32 → is_space b ≡ false
not_space b n = elim (eqb_tells b 32) [ inl p ↦ absurd (n p.1) | inr p ↦ p.0 ]

split_more : (word rest : List ℕ) → Lacks 32 word → slice_split is_space (word ++ 32 ∷ rest) ≡ word ∷ slice_split is_space rest
split_more [] rest h = refl
split_more (b ∷ bs) rest h = let n : is_space b ≡ false = not_space b h.0 in rw n (ap (onto_first b) (split_more bs rest h.1))

split_all : (word : List ℕ) → Lacks 32 word → slice_split is_space word ≡ word ∷ []
split_all [] h = refl
split_all (b ∷ bs) h = let n : is_space b ≡ false = not_space b h.0 in rw n (ap (onto_first b) (split_all bs h.1))

-- the words of a text with a space after the first, and of one with none
pub words_more : (text word rest : List ℕ) → text ≡ word ++ 32 ∷ rest → Lacks 32 word → words_of text ≡ word ∷ words_of rest
unfolding words_of
words_more text word rest e h = rw e (split_more word rest h)

pub words_all : (word : List ℕ) → Lacks 32 word → words_of word ≡ word ∷ []
unfolding words_of
words_all word h = split_all word h

pub all_push : {X : Type 0} (P : X → Type 0) (xs : List X) (x : X) → AllByRecursion P xs → P x → AllByRecursion P (xs ++ x ∷ [])
all_push P [] x h p = (p, tt)
all_push P (y ∷ ys) x h p = (h.0, all_push P ys x h.1 p)

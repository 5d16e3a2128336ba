-- Pieces that were given one after another are their text.
use Rattle.std.proofs.Common.{ℕ, ◌≡◌, List, ◌++◌, take, drop, sym, ap, subst, ◌∙◌, take-append-drop}
use Rattle.std.specs.List.{flat_map}
use Rattle.std.proofs.lemmas.Grind.{flat_map-append}

module _ {S : Type 0} (Adds : S → S → List ℕ → Type 0) (more : (x y z : S) (a b : List ℕ) → Adds x y a → Adds y z b → Adds x z (a ++ b)) where
  pub same_as : (x y : S) (a t : List ℕ) → Adds x y a → a ≡ t → Adds x y t
  same_as x y a t p e = subst (λ (s : List ℕ). Adds x y s) e p

  pub two : (x y z : S) (a b t : List ℕ) → Adds x y a → Adds y z b → a ++ b ≡ t → Adds x z t
  two x y z a b t p q e = same_as x z (a ++ b) t (more x y z a b p q) e

  pub three : (w x y z : S) (a b c t : List ℕ) → Adds w x a → Adds x y b → Adds y z c → a ++ b ++ c ≡ t → Adds w z t
  three w x y z a b c t p q r e = two w y z (a ++ b) c t (more w x y a b p q) r e

  pub four : (v w x y z : S) (a b c d t : List ℕ) → Adds v w a → Adds w x b → Adds x y c → Adds y z d → a ++ b ++ c ++ d ≡ t → Adds v z t
  four v w x y z a b c d t p q r s e = three v x y z (a ++ b) c d t (more v w x a b p q) r s e

  pub five : (u v w x y z : S) (a b c d f t : List ℕ) → Adds u v a → Adds v w b → Adds w x c → Adds x y d → Adds y z f → a ++ b ++ c ++ d ++ f ≡ t → Adds u z t
  five u v w x y z a b c d f t p q r s o e = four u w x y z (a ++ b) c d f t (more u v w a b p q) r s o e

  pub six : (n u v w x y z : S) (a b c d f g t : List ℕ) → Adds n u a → Adds u v b → Adds v w c → Adds w x d → Adds x y f → Adds y z g → a ++ b ++ c ++ d ++ f ++ g ≡ t
      → Adds n z t
  six n u v w x y z a b c d f g t p q r s o i e = five n v w x y z (a ++ b) c d f g t (more n u v a b p q) r s o i e

  -- what has taken some of the pieces and is done needn't be given the others
  pub done : {X : Type 0} (f : X → List ℕ) (xs : List X) (x y : S) (i : ℕ) → Adds x y (flat_map f (take i xs)) → ((bytes : List ℕ) → Adds y y bytes) → Adds x y (flat_map f xs)
  done f xs x y i p d =
      two x y y (flat_map f (take i xs)) (flat_map f (drop i xs)) (flat_map f xs) p (d (flat_map f (drop i xs)))
      (sym (flat_map-append f (take i xs) (drop i xs)) ∙ ap (flat_map f) (take-append-drop i xs))

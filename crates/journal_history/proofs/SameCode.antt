-- Lists of bodies that differ in length aren't the same.
use Rattle.std.proofs.Common.{◌≡◌, ◌≢◌, ℕ, List, [], ◌∷◌, false, length, refl, ap, sym, suc}
use Rattle.std.proofs.lemmas.Bool.{and_right}
use Rattle.journal_history.specs.Same.{same_nats, same_bodies}

differ : (a b : List (List ℕ)) → length a ≢ length b → same_bodies a b ≡ false
differ [] [] h = absurd (h refl)
differ [] (y ∷ ys) h = refl
differ (x ∷ xs) [] h = refl
differ (x ∷ xs) (y ∷ ys) h = and_right (same_nats x y) (same_bodies xs ys) (differ xs ys (λ e. h (ap suc e)))

pub lengths_differ : (a b : List (List ℕ)) → length a ≢ length b → false ≡ same_bodies a b
lengths_differ a b h = sym (differ a b h)

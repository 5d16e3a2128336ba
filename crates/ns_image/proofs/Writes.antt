-- Pieces that are appended one after the other.
use Rattle.std.proofs.Common.{◌≡◌, ℕ, List, ◌++◌, ap, ◌∙◌, append_assoc}

pub three : (o a b c : List ℕ) {x y z : List ℕ} → x ≡ o ++ a → y ≡ x ++ b → z ≡ y ++ c → z ≡ o ++ (a ++ (b ++ c))
three o a b c e f g =
    let whole : ((o ++ a) ++ b) ++ c ≡ o ++ (a ++ (b ++ c)) = simp append_assoc in
    g ∙ ap (λ (t : List ℕ). t ++ c) (f ∙ ap (λ (t : List ℕ). t ++ b) e) ∙ whole

pub four : (o a b c d : List ℕ) {x y z w : List ℕ} → x ≡ o ++ a → y ≡ x ++ b → z ≡ y ++ c → w ≡ z ++ d → w ≡ o ++ (a ++ (b ++ (c ++ d)))
four o a b c d e f g h =
    let whole : (o ++ (a ++ (b ++ c))) ++ d ≡ o ++ (a ++ (b ++ (c ++ d))) = simp append_assoc in
    h ∙ ap (λ (t : List ℕ). t ++ d) (three o a b c e f g) ∙ whole

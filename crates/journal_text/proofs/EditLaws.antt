-- Laws of the reading of edits.
use Rattle.std.proofs.Common.{ℕ, ◌≡◌, ◌==◌, ◌∷◌, [], List, length, Some, false, refl, nat_le}
use Rattle.journal_core.specs.Views.{last_txid}
use Rattle.journal_core.specs.Limits.{max_number}
use Rattle.journal_text.specs.ReplyReading.{batch_of, batch_by, bodies_by}

-- bodies that are some
pub bodies_some : (from first : ℕ) (bodies : List (List ℕ)) → (length bodies == 0) ≡ false
    → bodies_by from first (Some bodies) ≡ batch_by (first == from) (nat_le (last_txid (batch_of first bodies)) max_number) (batch_of first bodies)
bodies_some from first [] h = absurd cc
bodies_some from first (b ∷ bs) h = refl

-- The calls of a log, and how far apart the entries of one call are.
use Rattle.std.specs.Prelude.{◌≡◌, ℕ, ◌+◌, ◌≤◌, List, [], ◌∷◌, ◌++◌, length, Option, Some, None}
use Rattle.edit_ops.specs.declared.call.Call.{Call}
use Rattle.edit_ops.specs.Records.{EditView}
use Rattle.ns_tree.specs.declared.inode.Noted.{Noted}
use Rattle.ns_tree.specs.Space.{most_calls}
use Rattle.ns_edits.specs.Decoded.{decoded}

abbrev pub noted_at : ℕ → Option Call → List Noted
noted_at txid None = []
noted_at txid (Some call) = record { call = call; txid = txid } ∷ []

abbrev pub call_in : ℕ → Option EditView → List Noted
call_in txid None = []
call_in txid (Some e) = noted_at txid e.call

-- of the entries with a call, after so many others
unfoldable pub calls_in : ℕ → List (List ℕ) → List Noted
calls_in t [] = []
calls_in t (body ∷ bodies) = call_in (t + 1) (decoded body) ++ calls_in (t + 1) bodies

-- between two entries of one call at least 1,024 have a call
abbrev pub CallsApart : List (List ℕ) → Type 0
CallsApart log =
    (xs ys zs : List (List ℕ)) (body later : List ℕ) (e f : EditView) (call : Call) → log ≡ xs ++ body ∷ (ys ++ later ∷ zs)
    → decoded body ≡ Some e → e.call ≡ Some call → decoded later ≡ Some f → f.call ≡ Some call → most_calls ≤ length (calls_in 0 ys)

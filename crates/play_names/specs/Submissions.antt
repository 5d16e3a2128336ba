-- Edits that a name node submits, one after the other: each is refused, repeats a call, would be
-- one too many, or is to be logged.
use Rattle.std.specs.Prelude.{ℕ, ◌+◌, nat_le, List, [], ◌∷◌, ◌++◌, length, Option, Some, None, Bool}
use Rattle.edit_ops.specs.Records.{EditView, record_of}
use Rattle.ns_tree.specs.Space.{Space}
use Rattle.ns_edits.specs.declared.refusal.AdmitRefusal.{AdmitRefusal}
use Rattle.ns_edits.specs.declared.refusal.AdmitRefusal.TheVariants.{RepeatedCall}
use Rattle.ns_edits.specs.Admit.{Refusal, admit_of}
use Rattle.ns_edits.specs.Apply.{apply_of}
use Rattle.writer_core.specs.Views.{WriterView}
use Rattle.writer_core.specs.Writer.{log_limit}

-- What becomes of an edit that is submitted: it is to be logged, or refused, or it repeats a call,
-- which may be to be logged too, or would be one too many.
pub data Due : Type 0 where
  Pends : Due
  Refused : (refusal : AdmitRefusal) → Due
  Repeats : (txid : ℕ) (pends : Bool) → Due
  TooLong : (number : ℕ) → Due

-- ## Edits that are submitted, one after the other
pub record Submission : Type 0 where
  -- the namespace with those that are to be logged, their bodies, and what became of each
  pub ahead : Space
  pub bodies : List (List ℕ)
  pub dues : List Due

-- an edit that would be too many is not logged
abbrev pub unless_long : Option ℕ → ℕ → EditView → Submission → Submission
unless_long (Some number) txid e x = record x { dues = x.dues ++ TooLong number ∷ [] }
unless_long None txid e x = record { ahead = apply_of x.ahead e txid; bodies = x.bodies ++ record_of e ∷ []; dues = x.dues ++ Pends ∷ [] }

abbrev pub unless_refused : ℕ → Refusal → Submission → Submission → Submission
unless_refused next None y x = y
unless_refused next (Some (RepeatedCall txid)) y x = record x { dues = x.dues ++ Repeats txid (nat_le next txid) ∷ [] }
unless_refused next (Some refusal) y x = record x { dues = x.dues ++ Refused refusal ∷ [] }

abbrev pub submitted_one : WriterView → EditView → Submission → Submission
submitted_one w e x =
    unless_refused w.next (admit_of x.ahead e) (unless_long (log_limit w (x.bodies ++ record_of e ∷ [])) (w.next + length x.bodies) e x) x

unfoldable pub submit_edits : WriterView → List EditView → Submission → Submission
submit_edits w [] x = x
submit_edits w (e ∷ es) x = submit_edits w es (submitted_one w e x)

abbrev pub nothing_submitted : Space → Submission
nothing_submitted s = record { ahead = s; bodies = []; dues = [] }

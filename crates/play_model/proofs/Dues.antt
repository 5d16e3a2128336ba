-- As many dues as edits are submitted, and as many results as dues.
use Rattle.std.proofs.Common.{◌≡◌, ℕ, suc, ◌+◌, List, [], ◌∷◌, ◌++◌, true, false, refl, ap, arith, length}
use Rattle.std.specs.Prelude.{Option, Some, None}
use Rattle.std.proofs.lemmas.List.{length-append}
use Rattle.edit_ops.specs.Records.{EditView, record_of}
use Rattle.writer_core.specs.Views.{WriterView}
use Rattle.writer_core.specs.Writer.{log_limit}
use Rattle.ns_edits.specs.declared.refusal.AdmitRefusal.TheVariants as refusal
use Rattle.ns_edits.specs.Admit.{Refusal, admit_of}
use Rattle.play_names.specs.Submissions.{Due, Pends, Refused, Repeats, TooLong, Submission, unless_long, unless_refused, submit_edits}
use Rattle.play_names.specs.Results.{dues_logged, dues_aborted}

pub one_due : (xs : List Due) (d : Due) → length (xs ++ d ∷ []) ≡ length xs + 1
one_due xs d = length-append xs (d ∷ [])

refused_due : (next : ℕ) (r : Refusal) (y x : Submission) → length y.dues ≡ length x.dues + 1 → length (unless_refused next r y x).dues ≡ length x.dues + 1
refused_due next None y x e = e
refused_due next (Some (refusal.RepeatedCall txid)) y x e = one_due x.dues _
refused_due next (Some refusal.NoParent) y x e = one_due x.dues _
refused_due next (Some refusal.Exists) y x e = one_due x.dues _
refused_due next (Some refusal.Missing) y x e = one_due x.dues _
refused_due next (Some refusal.NotDirectory) y x e = one_due x.dues _
refused_due next (Some refusal.NotFile) y x e = one_due x.dues _
refused_due next (Some refusal.NotEmpty) y x e = one_due x.dues _
refused_due next (Some refusal.UnderConstruction) y x e = one_due x.dues _
refused_due next (Some refusal.Root) y x e = one_due x.dues _
refused_due next (Some refusal.IntoItself) y x e = one_due x.dues _
refused_due next (Some refusal.BadName) y x e = one_due x.dues _
refused_due next (Some refusal.BadNumber) y x e = one_due x.dues _

long_due : (o : Option ℕ) (txid : ℕ) (e : EditView) (x : Submission) → length (unless_long o txid e x).dues ≡ length x.dues + 1
long_due (Some number) txid e x = one_due x.dues (TooLong number)
long_due None txid e x = one_due x.dues Pends

pub submitted_dues : (w : WriterView) (es : List EditView) (x : Submission) → length (submit_edits w es x).dues ≡ length x.dues + length es
unfolding submit_edits
submitted_dues w [] x = omega arith
submitted_dues w (e ∷ es) x =
    let y : Submission = unless_long (log_limit w (x.bodies ++ record_of e ∷ [])) (w.next + length x.bodies) e x in
    let one : length (unless_refused w.next (admit_of x.ahead e) y x).dues ≡ length x.dues + 1 =
    refused_due w.next (admit_of x.ahead e) y x (long_due (log_limit w (x.bodies ++ record_of e ∷ [])) (w.next + length x.bodies) e x) in
    omega (arith, one, submitted_dues w es (unless_refused w.next (admit_of x.ahead e) y x))

pub logged_length : (txid : ℕ) (ds : List Due) → length (dues_logged txid ds) ≡ length ds
unfolding dues_logged
logged_length txid [] = refl
logged_length txid (Pends ∷ ds) = ap suc (logged_length (txid + 1) ds)
logged_length txid (Refused r ∷ ds) = ap suc (logged_length txid ds)
logged_length txid (Repeats t pends ∷ ds) = ap suc (logged_length txid ds)
logged_length txid (TooLong number ∷ ds) = ap suc (logged_length txid ds)

pub aborted_length : (text : List ℕ) (ds : List Due) → length (dues_aborted text ds) ≡ length ds
unfolding dues_aborted
aborted_length text [] = refl
aborted_length text (Pends ∷ ds) = ap suc (aborted_length text ds)
aborted_length text (Refused r ∷ ds) = ap suc (aborted_length text ds)
aborted_length text (Repeats t true ∷ ds) = ap suc (aborted_length text ds)
aborted_length text (Repeats t false ∷ ds) = ap suc (aborted_length text ds)
aborted_length text (TooLong number ∷ ds) = ap suc (aborted_length text ds)

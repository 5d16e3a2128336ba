-- What becomes of edits that are submitted together, as the program keeps it, and their result
-- lines.
use Rattle.std.specs.Prelude.{ℕ, ◌+◌, List, map, codes, Bool, true, false}
use Rattle.play_names.specs.Submissions.{Due, Pends, Refused, Repeats, TooLong}
use Rattle.play_names.specs.declared.edit_due.EditDue.{EditDue}
use Rattle.play_names.specs.declared.edit_due.EditDue.TheVariants as due
use Rattle.play_names.specs.Results.{word, refusal_text}

abbrev pub due_of : EditDue → Due
due_of due.Pends = Pends
due_of (due.Refused refusal) = Refused refusal
due_of (due.Repeats txid pends) = Repeats txid pends
due_of (due.TooLong number) = TooLong number

abbrev pub dues_of : List EditDue → List Due
dues_of dues = map due_of dues

-- ## Results
abbrev pub text_if : Bool → List ℕ → List ℕ → List ℕ
text_if true text other = text
text_if false text other = other

-- of an edit, where those that pend have the txids from this one on
abbrev pub logged_text : ℕ → Due → List ℕ
logged_text txid Pends = word (codes "acked") txid
logged_text txid (Refused refusal) = refusal_text refusal
logged_text txid (Repeats t pends) = word (codes "repeated") t
logged_text txid (TooLong number) = word (codes "toolong") number

abbrev pub next_txid : ℕ → Due → ℕ
next_txid txid Pends = txid + 1
next_txid txid (Refused refusal) = txid
next_txid txid (Repeats t pends) = txid
next_txid txid (TooLong number) = txid

-- where those that pend come to this text
abbrev pub lost_text : List ℕ → Due → List ℕ
lost_text text Pends = text
lost_text text (Refused refusal) = refusal_text refusal
lost_text text (Repeats t pends) = text_if pends text (word (codes "repeated") t)
lost_text text (TooLong number) = word (codes "toolong") number

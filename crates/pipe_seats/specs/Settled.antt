-- A caller doesn't know which of its calls arrived of which it heard nothing. A plan of losses is
-- made of its record once that is settled.
use Rattle.std.specs.Prelude.{ℕ, Bool, true, false, List, [], ◌∷◌, ◌++◌}
use Rattle.journal_history.specs.declared.record.Record.{Record}
use Rattle.journal_history.specs.declared.record.Record.TheVariants.{Call, Late, Operator, Outcome}
use Rattle.journal_history.specs.declared.record.Told.{Told}
use Rattle.journal_history.specs.declared.record.Told.TheVariants as told
use Rattle.journal_history.specs.declared.mark.Mark.{Mark}
use Rattle.journal_history.specs.declared.mark.MarkKind.TheVariants as kind
use Rattle.mesh.specs.Marks.{mark, next_number}

-- a call of which nothing was heard arrived, so that its reply was lost, or it didn't
abbrev pub settled_told : Told → Bool → Told
settled_told (told.Reply reply) arrived = told.Reply reply
settled_told told.Dropped true = told.Muted
settled_told told.Dropped false = told.Dropped
settled_told told.Muted true = told.Muted
settled_told told.Muted false = told.Dropped
settled_told told.Silent true = told.Muted
settled_told told.Silent false = told.Dropped

-- the record with that settled, call by call; a call of which the list doesn't say it didn't arrive
abbrev pub settled : List Bool → List Record → List Record
settled arrived [] = []
settled [] (Call node r t ∷ rs) = Call node r (settled_told t false) ∷ settled [] rs
settled (b ∷ arrived) (Call node r t ∷ rs) = Call node r (settled_told t b) ∷ settled arrived rs
settled arrived (Late node r ∷ rs) = Late node r ∷ settled arrived rs
settled arrived (Operator node ask done ∷ rs) = Operator node ask done ∷ settled arrived rs
settled arrived (Outcome text ∷ rs) = Outcome text ∷ settled arrived rs

-- the mark of a call that was told so, if it has one
abbrev pub marks_of : ℕ → ℕ → Told → List Mark
marks_of node number (told.Reply reply) = []
marks_of node number told.Silent = []
marks_of node number told.Dropped = mark node number kind.Dropped ∷ []
marks_of node number told.Muted = mark node number kind.Muted ∷ []

-- these marks and those of the calls of a record, where these lines stand before it
abbrev pub losses_on : List Mark → List Record → List Record → List Mark
losses_on plan before [] = plan
losses_on plan before (Call node r t ∷ rs) = losses_on (plan ++ marks_of node (next_number node before) t) (before ++ Call node r t ∷ []) rs
losses_on plan before (Late node r ∷ rs) = losses_on plan (before ++ Late node r ∷ []) rs
losses_on plan before (Operator node ask done ∷ rs) = losses_on plan (before ++ Operator node ask done ∷ []) rs
losses_on plan before (Outcome text ∷ rs) = losses_on plan (before ++ Outcome text ∷ []) rs

-- the plan of the losses that a record tells
unfoldable pub losses : List Record → List Mark
losses rs = losses_on [] [] rs

-- a caller over pipes sends no copies
abbrev pub NoCopies : List Record → Type 0
NoCopies [] = Unit {0}
NoCopies (Call node r t ∷ rs) = NoCopies rs
NoCopies (Late node r ∷ rs) = ⊥
NoCopies (Operator node ask done ∷ rs) = NoCopies rs
NoCopies (Outcome text ∷ rs) = NoCopies rs

-- The changes of a file in memory since its last sync: what each allowed, and what takes it back.
use Rattle.std.specs.Prelude.{◌≡◌, ℕ, ◌+◌, ◌≤◌, List, [], ◌∷◌, ◌++◌, length, take, drop, Option, Some}
use Rattle.base_disk.specs.FileView.{Step, Wrote, CutTo, Allows}
use Rattle.base_disk.specs.declared.change.Change.{Change}
use Rattle.base_disk.specs.declared.change.Change.TheVariants.{Write, Cut}

-- a buffer, of which the first bytes are the file's
pub record Stage : Type 0 where
  pub bytes : List ℕ
  pub end : ℕ

abbrev pub content : Stage → List ℕ
content s = take s.end s.bytes

-- the stage before a change
abbrev pub undo : Change → Stage → Stage
undo (Write at len before size end) s = record { bytes = take size (take at s.bytes ++ before.items ++ drop (at + length before.items) s.bytes); end = end }
undo (Cut to end) s = record { bytes = s.bytes; end = end }

-- the stage before these changes
abbrev pub undone : List Change → Stage → Stage
undone [] s = s
undone (c ∷ cs) s = undo c (undone cs s)

abbrev pub step_of : Change → Step
step_of (Write at len before size end) = Wrote at len
step_of (Cut to end) = CutTo to

-- the parts that taking back a change needs are there
abbrev pub CanUndo : Change → Stage → Type 0
CanUndo (Write at len before size end) s = (at + length before.items ≤ length s.bytes) × (size ≤ length s.bytes) × (end ≤ size)
CanUndo (Cut to end) s = end ≤ length s.bytes

abbrev pub AllUndo : List Change → Stage → Type 0
AllUndo [] s = s.end ≤ length s.bytes
AllUndo (c ∷ cs) s = CanUndo c (undone cs s) × AllUndo cs s

-- the changes lead from this content to that of the stage
abbrev pub Leads : Option (List ℕ) → List Change → Stage → Type 0
Leads first [] s = first ≡ Some (content s)
Leads first (c ∷ cs) s = Allows (step_of c) first (Some (content (undone cs s))) × Leads (Some (content (undone cs s))) cs s

-- How many edits there are of each kind, with a client's call and without.
use Rattle.std.specs.Prelude.{◌≡◌, ◌<◌, get_or, ℕ, zero, suc, List, [], ◌∷◌, ◌++◌, length, count_by, codes, decimal, Bool, true, false, ◌==◌}
use Rattle.std.specs.List.{flat_map}
use Rattle.edit_ops.specs.declared.kind.OpKind.{OpKind}
use Rattle.edit_ops.specs.Kinds.{kinds}
use Rattle.edit_ops.specs.Words.{name}
use Rattle.edit_ops.specs.Records.{EditView, kind_of, called, opcode}

-- the first byte of an edit's record
abbrev pub code_of : EditView → ℕ
code_of edit = opcode (kind_of edit.op) (called edit)

abbrev pub count_of : ℕ → List EditView → ℕ
count_of code edits = count_by (λ edit. code_of edit == code) edits

-- a kind's name, the first byte of its records, and how many there are; nothing where there are
-- none
abbrev pub tally : OpKind → Bool → ℕ → List ℕ
tally kind with_call zero = []
tally kind with_call (suc n) = codes "OP_" ++ (name kind ++ 32 ∷ (decimal (opcode kind with_call) ++ 32 ∷ (decimal (suc n) ++ 10 ∷ [])))

abbrev pub tally_by : (ℕ → ℕ) → Bool → OpKind → List ℕ
tally_by count with_call kind = tally kind with_call (count (opcode kind with_call))

-- by the records' first bytes, where each occurs so often: edits without a call, edits with one,
-- and then all
abbrev pub statistics_by : (ℕ → ℕ) → ℕ → List ℕ
statistics_by count total = flat_map (tally_by count false) kinds ++ (flat_map (tally_by count true) kinds ++ (codes "total " ++ (decimal total ++ 10 ∷ [])))

abbrev pub statistics : List EditView → List ℕ
statistics edits = statistics_by (λ code. count_of code edits) (length edits)

-- how many edits have each first byte
abbrev pub AreCounts : List ℕ → List EditView → Type 0
AreCounts counts edits = (code : ℕ) → code < 128 → get_or counts code 0 ≡ count_of code edits

-- Marks of a plan, and a record that goes by them.
use Rattle.std.specs.Prelude.{◌≡◌, ◌≢◌, ℕ, ◌+◌, ◌-◌, ◌<◌, ◌≤◌, ◌↔◌, ◌==◌, ◌&&◌, Bool, true, false, List, [], ◌∷◌, ◌++◌, length, Option, Some, None}
use Rattle.std.specs.Prelude.{slice_get, Contains, if◌then◌else◌}
use Rattle.std.specs.List.{list_any, count_by}
use Rattle.journal_core.specs.declared.request.Request.{Request}
use Rattle.journal_history.specs.Same.{same_request}
use Rattle.journal_history.specs.declared.record.Record.{Record}
use Rattle.journal_history.specs.declared.record.Record.TheVariants.{Call, Late, Operator, Outcome}
use Rattle.journal_history.specs.declared.record.Told.{Told}
use Rattle.journal_history.specs.declared.record.Told.TheVariants as told
use Rattle.journal_history.specs.declared.mark.Mark.{Mark}
use Rattle.journal_history.specs.declared.mark.MarkKind.{MarkKind}
use Rattle.journal_history.specs.declared.mark.MarkKind.TheVariants as kind

abbrev pub mark : ℕ → ℕ → MarkKind → Mark
mark node number kind = record { node = node; number = number; kind = kind }

unfoldable pub same_kind : MarkKind → MarkKind → Bool
same_kind kind.Dropped kind.Dropped = true
same_kind kind.Muted kind.Muted = true
same_kind kind.Late kind.Late = true
same_kind _ _ = false

-- the plan marks this call to this node so
unfoldable pub is_marked : List Mark → ℕ → ℕ → MarkKind → Bool
is_marked plan node number kind = list_any (λ m. (m.node == node) && ((m.number == number) && same_kind m.kind kind)) plan

-- what the record's calls to this node asked, in order; late copies are no calls
unfoldable pub calls_to : ℕ → List Record → List Request
calls_to node [] = []
calls_to node (Call k r told ∷ rs) = if k == node then r ∷ calls_to node rs else calls_to node rs
calls_to node (Late k r ∷ rs) = calls_to node rs
calls_to node (Operator k ask done ∷ rs) = calls_to node rs
calls_to node (Outcome text ∷ rs) = calls_to node rs

-- the number of the next call to this node, from 1
abbrev pub next_number : ℕ → List Record → ℕ
next_number node rs = length (calls_to node rs) + 1

-- the call with this number to this node asked this
abbrev pub Asked : ℕ → ℕ → Request → List Record → Type 0
Asked node number r rs = (1 ≤ number) × (slice_get (calls_to node rs) (number - 1) ≡ Some r)

-- A call is dropped exactly where the plan drops it; else its reply is lost exactly where the plan
-- mutes it.
abbrev pub IsAsMarked : List Mark → ℕ → ℕ → Told → Type 0
IsAsMarked plan node number t =
    ((t ≡ told.Dropped) ↔ Contains plan (mark node number kind.Dropped))
    × (t ≢ told.Dropped → (t ≡ told.Muted) ↔ Contains plan (mark node number kind.Muted))

-- the line is a late copy of this request to this node
unfoldable pub is_copy_of : ℕ → Request → Record → Bool
is_copy_of node r (Late k q) = (k == node) && same_request q r
is_copy_of node r (Call k q told) = false
is_copy_of node r (Operator k ask done) = false
is_copy_of node r (Outcome text) = false

-- how many late copies of this request came to this node
abbrev pub copies_of : ℕ → Request → List Record → ℕ
copies_of node r rs = count_by (is_copy_of node r) rs

-- what the call with this number to this node asked, where these lines have it
unfoldable pub asked_in : ℕ → ℕ → List Record → Option Request
asked_in node number rs = if number == 0 then None else slice_get (calls_to node rs) (number - 1)

unfoldable pub is_request : Request → Option Request → Bool
is_request r (Some q) = same_request q r
is_request r None = false

-- the mark has a call to this node copied that asked this
unfoldable pub is_late_of : ℕ → Request → List Record → Mark → Bool
is_late_of node r rs m = same_kind m.kind kind.Late && ((m.node == node) && is_request r (asked_in m.node m.number rs))

-- how many late marks are of calls among these lines that asked this of this node
abbrev pub marked_late : List Mark → ℕ → Request → List Record → ℕ
marked_late plan node r rs = count_by (is_late_of node r rs) plan

-- A late copy is of a call that stands before it and that has a late mark without a copy yet.
abbrev pub IsCopy : List Mark → List Record → ℕ → Request → Type 0
IsCopy plan before node r = copies_of node r before < marked_late plan node r before

-- the record goes by the plan, where these lines stand before it
unfoldable pub IsMarked : List Mark → List Record → List Record → Type 0
IsMarked plan before [] = Unit {0}
IsMarked plan before (Call k r t ∷ rs) = IsAsMarked plan k (next_number k before) t × IsMarked plan (before ++ Call k r t ∷ []) rs
IsMarked plan before (Late k r ∷ rs) = IsCopy plan before k r × IsMarked plan (before ++ Late k r ∷ []) rs
IsMarked plan before (Operator k ask done ∷ rs) = IsMarked plan (before ++ Operator k ask done ∷ []) rs
IsMarked plan before (Outcome text ∷ rs) = IsMarked plan (before ++ Outcome text ∷ []) rs

-- Each late mark that came to its call has a copy of its own: two marks of calls that asked the
-- same of one node have two.
abbrev pub AreCopied : List Mark → List Record → Type 0
AreCopied plan rs = (node : ℕ) (r : Request) → marked_late plan node r rs ≤ copies_of node r rs

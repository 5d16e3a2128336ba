-- How a call is told by its marks, what is known of an actor's marks and of its calls, and what
-- each line of a record has to keep.
use Rattle.std.specs.Prelude.{◌≡◌, ℕ, ◌+◌, ◌<◌, ◌≤◌, ◌^◌, ◌==◌, ◌&&◌, Bool, not, List, length, slice_index, slice_index_or}
use Rattle.std.specs.List.{count_by}
use Rattle.std.specs.BTreeSet.{contains}
use Rattle.std.specs.Ordering.{nat_cmp}
use Rattle.journal_core.specs.declared.request.Request.{Request}
use Rattle.journal_history.specs.declared.record.Record.{Record}
use Rattle.journal_history.specs.declared.record.Record.TheVariants.{Call, Late, Operator, Outcome}
use Rattle.journal_history.specs.declared.record.Told.{Told}
use Rattle.journal_history.specs.declared.record.Told.TheVariants as told
use Rattle.journal_history.specs.declared.mark.Mark.{Mark}
use Rattle.journal_history.specs.declared.mark.MarkKind.{MarkKind}
use Rattle.journal_history.specs.declared.mark.MarkKind.TheVariants as kind
use Rattle.mesh.specs.Marks.{same_kind, next_number, copies_of, marked_late, IsAsMarked, IsCopy, is_marked}
use Rattle.mesh_judge.specs.declared.marking.Numbers.{Numbers}
use Rattle.mesh_judge.specs.declared.marking.MarkTable.{MarkTable}
use Rattle.mesh_judge.specs.declared.marking.CallTable.{CallTable}
use Rattle.mesh_judge.specs.declared.counts.Counts.{Counts}
use Rattle.mesh_judge.specs.Keys.{ask_key, call_key, count_of}

-- a call was told so, where it is marked as dropped, and as muted
abbrev pub as_marked : Told → Bool → Bool → Bool
as_marked told.Dropped dropped muted = dropped
as_marked told.Muted dropped muted = not dropped && muted
as_marked _ dropped muted = not dropped && not muted

-- node by node, the numbers of the calls that are marked so
pub record KnowsMarks (nodes : ℕ) (plan : List Mark) (kind : MarkKind) (lists : List Numbers) : Type 0 where
  pub count : length lists ≡ nodes
  pub each : (i number : ℕ) (d : Numbers) → i < nodes → contains nat_cmp (slice_index_or lists i d).set number ≡ is_marked plan (i + 1) number kind

-- the mark has the call with this number to this node copied
abbrev pub is_late_at : ℕ → ℕ → Mark → Bool
is_late_at node number m = same_kind m.kind kind.Late && ((m.node == node) && (m.number == number))

-- how often each call is marked to be copied
abbrev pub KnowsLate : List Mark → Counts → Type 0
KnowsLate plan late = (node number : ℕ) → count_of late (call_key node number) ≡ count_by (is_late_at node number) plan

-- there are lists for that many nodes
pub record HasNodes (nodes : ℕ) (marks : MarkTable) : Type 0 where
  pub dropped : length marks.dropped.items ≡ nodes
  pub muted : length marks.muted.items ≡ nodes

-- that of each kind
pub record KnowsPlan (nodes : ℕ) (plan : List Mark) (marks : MarkTable) : Type 0 where
  pub dropped : KnowsMarks nodes plan kind.Dropped marks.dropped.items
  pub muted : KnowsMarks nodes plan kind.Muted marks.muted.items
  pub late : KnowsLate plan marks.late

-- node by node, the number of the call that comes after these lines
pub record KnowsNext (nodes : ℕ) (before : List Record) (numbers : List ℕ) : Type 0 where
  pub count : length numbers ≡ nodes
  pub next : (i : ℕ) → i < nodes → slice_index numbers i ≡ next_number (i + 1) before

-- node by node, the number of the call that comes after these lines; and how many copies of each
-- request to each node are still due
pub record KnowsCalls (nodes : ℕ) (plan : List Mark) (before : List Record) (calls : CallTable) : Type 0 where
  pub count : length calls.next.items ≡ nodes
  pub next : (i : ℕ) → i < nodes → slice_index calls.next.items i ≡ next_number (i + 1) before
  pub due : (node : ℕ) (r : Request) → count_of calls.due (ask_key node r) + copies_of node r before ≡ marked_late plan node r before

-- a late copy is due
abbrev pub IsDue : CallTable → Record → Type 0
IsDue calls (Late k r) = 0 < count_of calls.due (ask_key k r)
IsDue calls (Call k r t) = Unit {0}
IsDue calls (Operator k ask done) = Unit {0}
IsDue calls (Outcome text) = Unit {0}

-- the copies that are due are few enough to be counted, whichever call comes next
abbrev pub HasRoom : CallTable → MarkTable → Type 0
HasRoom calls marks = (node number : ℕ) (r : Request) → count_of calls.due (ask_key node r) + count_of marks.late (call_key node number) < 2 ^ 64

-- the line goes by the plan, after these lines
abbrev pub LineIsMarked : List Mark → List Record → Record → Type 0
LineIsMarked plan before (Call k r t) = IsAsMarked plan k (next_number k before) t
LineIsMarked plan before (Late k r) = IsCopy plan before k r
LineIsMarked plan before (Operator k ask done) = Unit {0}
LineIsMarked plan before (Outcome text) = Unit {0}

-- the line is no call, or the record has a copy for each late mark of calls that asked its request
abbrev pub LineIsCopied : List Mark → List Record → Record → Type 0
LineIsCopied plan rs (Call k r t) = marked_late plan k r rs ≤ copies_of k r rs
LineIsCopied plan rs (Late k r) = Unit {0}
LineIsCopied plan rs (Operator k ask done) = Unit {0}
LineIsCopied plan rs (Outcome text) = Unit {0}

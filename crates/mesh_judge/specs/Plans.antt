-- When a record goes by some marks, and the marks that are told of it so far.
use Rattle.std.specs.Prelude.{◌≡◌, ℕ, ◌+◌, ◌<◌, List, [], ◌∷◌, ◌++◌, Contains}
use Rattle.journal_core.specs.declared.request.Request.{Request}
use Rattle.journal_history.specs.declared.record.Record.{Record}
use Rattle.journal_history.specs.declared.record.Record.TheVariants.{Call, Late, Operator, Outcome}
use Rattle.journal_history.specs.declared.record.Told.{Told}
use Rattle.journal_history.specs.declared.record.Told.TheVariants as told
use Rattle.journal_history.specs.declared.mark.Mark.{Mark}
use Rattle.journal_history.specs.declared.mark.MarkKind.TheVariants as kind
use Rattle.mesh.specs.Marks.{mark, calls_to, next_number, copies_of, marked_late, IsMarked, AreCopied}
use Rattle.mesh_judge.specs.declared.counts.Counts.{Counts}
use Rattle.mesh_judge.specs.declared.plans.ToldCalls.{ToldCalls}
use Rattle.mesh_judge.specs.Keys.{ask_key, count_of}
use Rattle.mesh_judge.specs.Marking.{KnowsNext}

-- the record goes by these marks
abbrev pub GoesBy : List Mark → List Record → Type 0
GoesBy plan rs = IsMarked plan [] rs × AreCopied plan rs

-- the line is no late copy, or one of these lines is a call that asked the same of its node
abbrev pub IsCalled : List Record → Record → Type 0
IsCalled before (Late k r) = Contains (calls_to k before) r
IsCalled before (Call k r t) = Unit {0}
IsCalled before (Operator k ask done) = Unit {0}
IsCalled before (Outcome text) = Unit {0}

-- Each late copy stands behind a call that asked the same of its node, where these lines stand
-- before all. Just such records go by some marks.
unfoldable pub AreCalled : List Record → List Record → Type 0
AreCalled before [] = Unit {0}
AreCalled before (r ∷ rs) = IsCalled before r × AreCalled (before ++ r ∷ []) rs

-- ## The marks that are told
-- that of a call which wasn't delivered, or whose reply was lost
abbrev pub loss_marks : ℕ → ℕ → Told → List Mark
loss_marks node number told.Dropped = mark node number kind.Dropped ∷ []
loss_marks node number told.Muted = mark node number kind.Muted ∷ []
loss_marks node number (told.Reply reply) = []
loss_marks node number told.Silent = []

-- how many copies of each request to each node are among these lines
abbrev pub KnowsCopies : List Record → Counts → Type 0
KnowsCopies rs copies = (node : ℕ) (r : Request) → count_of copies (ask_key node r) ≡ copies_of node r rs

-- After these lines of a record: each mark is of a call among them; they go by the marks, if they go
-- by any; and each copy in the whole record of what they asked has a late mark.
pub record TellsMarks (nodes : ℕ) (all before : List Record) (plan : List Mark) (calls : ToldCalls) : Type 0 where
  pub next : KnowsNext nodes before calls.next.items
  pub earlier : (m : Mark) → Contains plan m → m.number < next_number m.node before
  pub marked : AreCalled [] before → IsMarked plan [] before
  pub copied : (node : ℕ) (r : Request) → marked_late plan node r before + count_of calls.unmarked (ask_key node r) ≡ copies_of node r all
  pub asked : (node : ℕ) (r : Request) → Contains (calls_to node before) r → count_of calls.unmarked (ask_key node r) ≡ 0

-- ## The first copy of no call
-- which requests to which nodes were asked by calls among these lines
pub record KnowsAsked (before : List Record) (asked : Counts) : Type 0 where
  pub some : (node : ℕ) (r : Request) → 0 < count_of asked (ask_key node r) → Contains (calls_to node before) r
  pub all : (node : ℕ) (r : Request) → Contains (calls_to node before) r → 0 < count_of asked (ask_key node r)

-- The laws of runs, one a function of laws.rt.
use Rattle.std.specs.Prelude.{ℕ, ◌+◌, ◌≤◌, ◌≡◌, List, ◌∷◌, ◌++◌, reverse, Some, slice_get}
use Rattle.journal_core.specs.Views.{HeadView}
use Rattle.journal_core.specs.Limits.{head_of}
use Rattle.journal_core.specs.Reads.{served}
use Rattle.journal_core.specs.Segments.{find_segment}
use Rattle.journal_core.specs.declared.segment.Segment.{Segment}
use Rattle.journal_core.specs.declared.node_state.NodeState.{NodeState}
use Rattle.journal_core.specs.declared.request.Request.{Request}
use Rattle.run_safety.specs.Majority.{Member, IsMajority}
use Rattle.journal_history.specs.Entries.{Entry, Earlier, after_move, node_after}
use Rattle.run_safety.specs.Run.{IsRun}
use Rattle.run_safety.specs.Safe.{IsChosen, IsOnLine, IsOf, IsSafe}

-- a node after entries, oldest first
abbrev pub node_at : ℕ → List Entry → NodeState
node_at node entries = node_after node (reverse entries)

abbrev pub PrefixIsRun : Type 0
PrefixIsRun = (n : ℕ) (xs ys : List Entry) → IsRun n (xs ++ ys) → IsRun n xs

abbrev pub MajoritiesShareANode : Type 0
MajoritiesShareANode = (n : ℕ) (xs ys : List ℕ) → IsMajority n xs → IsMajority n ys → (node : ℕ) × Member node xs × Member node ys

abbrev pub PromiseNeverFalls : Type 0
PromiseNeverFalls = (node : ℕ) (xs ys : List Entry) → (node_at node xs).promised ≤ (node_at node (xs ++ ys)).promised

-- an entry that doesn't move its node leaves every node's state
abbrev pub UnmovedLeavesStates : Type 0
UnmovedLeavesStates =
    (node : ℕ) (past : List Entry) (e : Entry) → after_move (node_after e.node past) e.move ≡ node_after e.node past
    → node_after node (e ∷ past) ≡ node_after node past

abbrev pub EveryRunIsSafe : Type 0
EveryRunIsSafe = (n : ℕ) (entries : List Entry) → IsRun n entries → IsSafe n entries

-- ## The line
abbrev pub ChosenOnce : Type 0
ChosenOnce =
    (n : ℕ) (entries : List Entry) (e f txid : ℕ) (x y : List ℕ) → IsRun n entries
    → IsChosen n (reverse entries) e txid x → IsChosen n (reverse entries) f txid y → x ≡ y

abbrev pub ChosenIsOnLine : Type 0
ChosenIsOnLine =
    (n : ℕ) (entries : List Entry) (epoch txid : ℕ) (body : List ℕ) → IsRun n entries
    → IsChosen n (reverse entries) epoch txid body → IsOnLine n (reverse entries) txid body

abbrev pub LineGoesOn : Type 0
LineGoesOn =
    (n : ℕ) (xs ys : List Entry) (txid : ℕ) (body : List ℕ) → IsRun n (xs ++ ys)
    → IsOnLine n (reverse xs) txid body → IsOnLine n (reverse (xs ++ ys)) txid body

abbrev pub ServedIsOnLine : Type 0
ServedIsOnLine =
    (n : ℕ) (entries : List Entry) (node : ℕ) (g : Segment) (k : ℕ) (body : List ℕ) → IsRun n entries
    → find_segment g.start (node_at node entries).segments ≡ Some g
    → slice_get (served (node_at node entries) g) k ≡ Some body
    → IsOnLine n (reverse entries) (g.start + k) body

-- each txid up to the one that a node knows to be committed
abbrev pub KnownCommittedIsOnLine : Type 0
KnownCommittedIsOnLine =
    (n : ℕ) (entries : List Entry) (node txid : ℕ) → IsRun n entries
    → 1 ≤ txid → txid ≤ (node_at node entries).known → (body : List ℕ) × IsOnLine n (reverse entries) txid body

-- each txid up to the one that a request of the run carries
abbrev pub CarriedCommittedIsOnLine : Type 0
CarriedCommittedIsOnLine =
    (n : ℕ) (entries old : List Entry) (e : Entry) (request : Request) (head : HeadView) (txid : ℕ) → IsRun n entries
    → Earlier (e ∷ old) (reverse entries) → IsOf e request → head_of request ≡ Some head
    → 1 ≤ txid → txid ≤ head.committed → (body : List ℕ) × IsOnLine n (reverse entries) txid body

-- each txid up to the one that a node knows to be committed is chosen, under an epoch that its
-- promise isn't below
abbrev pub KnownCommittedIsChosen : ℕ → List Entry → Type 0
KnownCommittedIsChosen n past =
    (node txid : ℕ) → 1 ≤ txid → txid ≤ (node_after node past).known
    → (epoch : ℕ) × (body : List ℕ) × (epoch ≤ (node_after node past).promised) × IsChosen n past epoch txid body

-- each txid up to the one that a request of the run carries is chosen, under an epoch that isn't
-- above the request's
abbrev pub CarriedCommittedIsChosen : ℕ → List Entry → Type 0
CarriedCommittedIsChosen n past =
    (old : List Entry) (e : Entry) (request : Request) (head : HeadView) (txid : ℕ)
    → Earlier (e ∷ old) past → IsOf e request → head_of request ≡ Some head
    → 1 ≤ txid → txid ≤ head.committed
    → (epoch : ℕ) × (body : List ℕ) × (epoch ≤ head.epoch) × IsChosen n past epoch txid body

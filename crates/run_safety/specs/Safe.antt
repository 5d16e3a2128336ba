-- What a run keeps: acknowledged edits, recovered logs, the line of chosen edits. Lists of entries
-- stand newest first, but in IsSafe.
use Rattle.std.specs.Prelude.{ℕ, ◌+◌, ◌<◌, ◌≤◌, ◌≡◌, ◌⊎◌, Bool, true, List, [], ◌∷◌, ◌++◌, length, reverse, Some, slice_get}
use Rattle.journal_core.specs.Views.{HeadView, BatchView}
use Rattle.journal_core.specs.declared.segment.Segment.{Segment}
use Rattle.journal_core.specs.declared.request.Request.{Request}
use Rattle.journal_core.specs.declared.request.Request.TheVariants.{Start, Journal}
use Rattle.journal_core.specs.declared.reply.Reply.{Reply}
use Rattle.journal_core.specs.declared.reply.Reply.TheVariants.{Ok}
use Rattle.journal_core.specs.Segments.{find_segment, HasAt}
use Rattle.run_safety.specs.Majority.{Member, IsMajority}
use Rattle.journal_history.specs.Entries.{Way, Heard, Answer, Stop, Entry, Earlier, node_after}

-- the k-th body of a list that begins at a txid
abbrev pub HasBody : ℕ → List (List ℕ) → ℕ → List ℕ → Type 0
HasBody first bodies txid body = (k : ℕ) × (txid ≡ first + k) × (slice_get bodies k ≡ Some body)

-- ## The line
-- a node held this segment at some place of the list
abbrev pub IsHeld : List Entry → ℕ → Segment → Type 0
IsHeld past node g = (old : List Entry) × Earlier old past × (find_segment g.start (node_after node old).segments ≡ Some g)

-- a majority of nodes each held, at some place, a segment with this header epoch that has this body
-- at this txid
abbrev pub IsChosen : ℕ → List Entry → ℕ → ℕ → List ℕ → Type 0
IsChosen n past epoch txid body =
    (nodes : List ℕ) × IsMajority n nodes
    × ((node : ℕ) → Member node nodes → (g : Segment) × IsHeld past node g × (g.epoch ≡ epoch) × HasAt g txid body)

-- The line has this body at this txid: each txid up to it has a chosen body, and this one is chosen
-- under the least epoch there.
pub record IsOnLine (n : ℕ) (past : List Entry) (txid : ℕ) (body : List ℕ) : Type 0 where
  pub from_one : 1 ≤ txid
  pub below : (t : ℕ) → 1 ≤ t → t < txid → (e : ℕ) × (b : List ℕ) × IsChosen n past e t b
  pub epoch : ℕ
  pub chosen : IsChosen n past epoch txid body
  pub least : (e : ℕ) (b : List ℕ) → e ≤ epoch → IsChosen n past e txid b → b ≡ body

-- ## Acknowledged edits
-- a node answered Ok to this request, and its caller heard it
abbrev pub SaidOk : List Entry → ℕ → Request → Type 0
SaidOk past node request =
    (old : List Entry) × (e : Entry) × Earlier (e ∷ old) past × (e.node ≡ node)
    × ((caller : ℕ) × (e.move ≡ Answer caller Heard request Ok))

-- a `journal` round under this epoch that has this body at this txid was done
abbrev pub IsAcknowledged : ℕ → List Entry → ℕ → ℕ → List ℕ → Type 0
IsAcknowledged n past epoch txid body =
    (head : HeadView) × (start : ℕ) × (batch : BatchView) × (head.epoch ≡ epoch) × HasBody batch.first batch.bodies txid body
    × ((nodes : List ℕ) × IsMajority n nodes × ((node : ℕ) → Member node nodes → SaidOk past node (Journal head start batch)))

-- ## Recovered logs
-- the entry had this request, and an answer or an effect of it
abbrev pub IsOf : Entry → Request → Type 0
IsOf e request =
    ((caller : ℕ) × (way : Way) × (reply : Reply) × (e.move ≡ Answer caller way request reply))
    ⊎ ((caller : ℕ) × (late : Bool) × (keep : ℕ) × (e.move ≡ Stop caller late request keep) × (0 < keep))

abbrev pub IsStart : Entry → ℕ → ℕ → Type 0
IsStart e epoch start = (head : HeadView) × (head.epoch ≡ epoch) × IsOf e (Start head start)

-- the first `start` under this epoch comes right after these entries, and asks for this start
abbrev pub IsFirstStart : List Entry → ℕ → ℕ → List Entry → Type 0
IsFirstStart past epoch first old =
    (e : Entry) × Earlier (e ∷ old) past × IsStart e epoch first
    × ((older : List Entry) (x : Entry) (start : ℕ) → Earlier (x ∷ older) old → IsStart x epoch start → ⊥)

-- the node holds this final segment now
abbrev pub HoldsFinal : ℕ → List Entry → ℕ → Segment → Type 0
HoldsFinal n old node g =
    (1 ≤ node) × (node ≤ n) × (find_segment g.start (node_after node old).segments ≡ Some g) × (g.is_final ≡ true)

-- and no lower node holds a final one with its start
abbrev pub IsLowestFinal : ℕ → List Entry → Segment → Type 0
IsLowestFinal n old g =
    (node : ℕ) × HoldsFinal n old node g
    × ((lower : ℕ) (other : Segment) → lower < node → other.start ≡ g.start → HoldsFinal n old lower other → ⊥)

-- final segments that nodes hold now reach from the one txid to right below the other, without a
-- gap, with these bodies
pub data Reaches (n : ℕ) (old : List Entry) : ℕ → ℕ → List (List ℕ) → Type 0 where
  there : {first : ℕ} → Reaches n old first first []
  segment : {first : ℕ} {bodies : List (List ℕ)} (g : Segment) → IsLowestFinal n old g
      → Reaches n old (g.start + length g.bodies) first bodies → Reaches n old g.start first (g.bodies ++ bodies)

-- The log that an epoch recovered: just before its first `start`, the final segments that reach to
-- it from the least txid.
pub record IsRecovered (n : ℕ) (past : List Entry) (epoch first kept : ℕ) (log : List (List ℕ)) : Type 0 where
  pub at_place : List Entry
  pub is_first : IsFirstStart past epoch first at_place
  pub reaches : Reaches n at_place kept first log
  pub least : (k : ℕ) (other : List (List ℕ)) → Reaches n at_place k first other → kept ≤ k

-- ## Safety
-- Each acknowledged edit is on the line. And for each higher epoch that began a segment, it stands
-- below the first one's start, and in the recovered log where that reaches back to it.
abbrev pub AcknowledgedSurvive : ℕ → List Entry → Type 0
AcknowledgedSurvive n past =
    (epoch txid : ℕ) (body : List ℕ) → IsAcknowledged n past epoch txid body
    → IsOnLine n past txid body
    × ((higher first kept : ℕ) (log : List (List ℕ)) → epoch < higher → IsRecovered n past higher first kept log
    → (txid < first) × (kept ≤ txid → HasBody kept log txid body))

-- final segments with one start are equal
abbrev pub FinalisedAgree : List Entry → Type 0
FinalisedAgree past =
    (i j : ℕ) (g h : Segment) → IsHeld past i g → IsHeld past j h → g.is_final ≡ true → h.is_final ≡ true → g.start ≡ h.start
    → g.bodies ≡ h.bodies

-- over entries oldest first
pub record IsSafe (n : ℕ) (entries : List Entry) : Type 0 where
  pub acknowledged_survive : AcknowledgedSurvive n (reverse entries)
  pub finalised_agree : FinalisedAgree (reverse entries)

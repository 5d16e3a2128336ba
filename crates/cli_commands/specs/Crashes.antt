-- What a crash in the middle of a session at a node leaves in its files.
use Rattle.std.specs.Prelude.{ℕ, ◌≡◌, ◌⊎◌, ◌≤◌, List, [], ◌∷◌, length, take, drop, Option, Some, None}
use Rattle.base_disk.specs.Files.{Files}
use Rattle.base_disk.specs.View.{View, LeavesOnly}
use Rattle.journal_core.specs.declared.node_state.NodeState.{NodeState}
use Rattle.journal_core.specs.Step.{effects_of}
use Rattle.disk_files.specs.Durable.{StandsAs}
use Rattle.disk_node.specs.Held.{StandsStopped}
use Rattle.disk_node.specs.Node.{NodeParts}
use Rattle.disk_node.specs.Acted.{IsActed}
use Rattle.disk_node.specs.Opening.{StandsAsBefore}
use Rattle.journal_session.specs.Session.{AreAnswered, Asks}
use Rattle.journal_session.specs.Asking.{IsTrail}
use Rattle.journal_session.specs.declared.served.Served.{Served}

-- the files stand for the state, stopped after some of the effects of the next of these lines,
-- where there is one
abbrev pub StandsInNext : NodeState → List (List ℕ) → Files → Type 0
StandsInNext s [] files = StandsAs files s
StandsInNext s (line ∷ lines) files = Asks line (λ r. StandsStopped s (effects_of s r) files)

-- The files stand for the state after the first of these lines, some number of them but no fewer
-- than `least`, stopped inside the next one.
pub record StandsInside (s : NodeState) (lines : List (List ℕ)) (least : ℕ) (files : Files) : Type 0 where
  pub count : ℕ
  pub enough : least ≤ count
  pub within : count ≤ length lines
  pub replies : List ℕ
  pub state : NodeState
  pub answered : AreAnswered s (take count lines) replies state
  pub stands : StandsInNext state (drop count lines) files

-- the lines, and this one after them, where there is one
abbrev pub with_next : List (List ℕ) → Option (List ℕ) → List (List ℕ)
with_next [] None = []
with_next [] (Some line) = line ∷ []
with_next (first ∷ lines) next = first ∷ with_next lines next

-- The disk when so many lines were answered: a crash up to then left no more than these, stopped
-- inside one of them, and one since then leaves no fewer.
pub record IsReached {D : Type 0} (view : D → View) (old now : D) (s : NodeState) (lines : List (List ℕ)) (next : Option (List ℕ)) (count : ℕ) : Type 0 where
  pub disk : D
  pub until : LeavesOnly (view old) (view disk) (λ c. StandsAsBefore (view old) c ⊎ StandsInside s (take count lines) 0 c)
  pub since : LeavesOnly (view disk) (view now) (StandsInside s (with_next lines next) count)

-- A crash at any moment of a session at a node that was opened with this state: it leaves files
-- that stand for what a crash before the opening could have left, or for the state after some of
-- the lines, stopped inside the next one; and no fewer than were answered by then.
pub record OutlastsCrashes {D : Type 0} (view : D → View) (old now : D) (s : NodeState) (lines : List (List ℕ)) (next : Option (List ℕ)) : Type 0 where
  pub moments : LeavesOnly (view old) (view now) (λ c. StandsAsBefore (view old) c ⊎ StandsInside s (with_next lines next) 0 c)
  pub reached : (count : ℕ) → count ≤ length lines → IsReached view old now s lines next count

-- all that was asked of the node was these lines, and this one after them, what was written is its
-- replies, and the disk is now the node's
pub record WasAsked {D : Type 0} (tells : D → Type 0) (view : D → View) (node : NodeParts D) (now : D) (before : Option (List ℕ)) (lines : List (List ℕ)) (next : Option (List ℕ))
    (outcome : Served) (replied : Option (List ℕ)) : Type 0 where
  pub last : NodeParts D
  pub trail : IsTrail (IsActed tells view) lines next outcome node last before replied
  pub disk : last.disk ≡ now

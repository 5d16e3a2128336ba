-- What a crash at any moment leaves in the files of a node that clients share.
use Rattle.std.specs.Prelude.{ℕ, ◌≡◌, ◌≤◌, ◌+◌, List, [], ◌∷◌, length, take, drop}
use Rattle.base_disk.specs.Files.{Files}
use Rattle.base_disk.specs.View.{View, LeavesOnly}
use Rattle.journal_core.specs.declared.node_state.NodeState.{NodeState}
use Rattle.journal_core.specs.declared.request.Request.{Request}
use Rattle.journal_core.specs.declared.reply.Reply.{Reply}
use Rattle.journal_core.specs.Answers.{IsAnswer}
use Rattle.journal_core.specs.Step.{effects_of}
use Rattle.disk_files.specs.Durable.{StandsAs}
use Rattle.disk_node.specs.Held.{StandsStopped}
use Rattle.disk_node.specs.Node.{IsNoFault}

-- none of these answers told a fault of the disk or lack of memory
abbrev pub AreFine : List (Request × Reply) → Type 0
AreFine [] = Unit {0}
AreFine (c ∷ calls) = IsNoFault c.1 × AreFine calls

-- these were answered one after the other, from the one state to the other
abbrev pub AreAnsweredFrom : NodeState → List (Request × Reply) → NodeState → Type 0
AreAnsweredFrom s [] t = t ≡ s
AreAnsweredFrom s (c ∷ calls) t = (mid : NodeState) × IsAnswer s c.0 c.1 mid × AreAnsweredFrom mid calls t

-- the files stand for the state, stopped after some of the effects of the next of these requests,
-- where there is one
abbrev pub StandsInNext : NodeState → List (Request × Reply) → Files → Type 0
StandsInNext s [] files = StandsAs files s
StandsInNext s (c ∷ calls) files = StandsStopped s (effects_of s c.0) files

-- The files stand for the state after the first of these calls, some number of them but no fewer
-- than `least`, stopped inside the next one.
pub record StandsInside (s : NodeState) (calls : List (Request × Reply)) (least : ℕ) (files : Files) : Type 0 where
  pub count : ℕ
  pub enough : least ≤ count
  pub within : count ≤ length calls
  pub state : NodeState
  pub answered : AreAnsweredFrom s (take count calls) state
  pub stands : StandsInNext state (drop count calls) files

-- The disk when so many calls were answered, and when one more was, where there is one. A crash up
-- to the first left no more than these, stopped inside one of them; one between the two leaves no
-- fewer, stopped inside the one more.
pub record IsReached {D : Type 0} (view : D → View) (old new : D) (s : NodeState) (calls : List (Request × Reply)) (count : ℕ) : Type 0 where
  pub disk : D
  pub next : D
  pub until : LeavesOnly (view old) (view disk) (StandsInside s (take count calls) 0)
  pub since : LeavesOnly (view disk) (view next) (StandsInside s (take (count + 1) calls) count)
  pub last : count ≡ length calls → new ≡ disk

-- A crash at any moment, up to the end of the first call whose answer told a fault of the disk or
-- lack of memory: it leaves files that stand for the state after some of the calls, stopped inside
-- the next one, and no fewer than were answered by then.
abbrev pub OutlastsCrashes : {D : Type 0} → (D → View) → D → D → NodeState → List (Request × Reply) → Type 0
OutlastsCrashes view old new s calls = (count : ℕ) → count ≤ length calls → AreFine (take count calls) → IsReached view old new s calls count

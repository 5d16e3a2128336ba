-- What is known of an answer of a node over a disk, beside the reply and the state that it tells.
use Rattle.base_disk.specs.View.{View, IsSound, LeavesOnly}
use Rattle.journal_core.specs.declared.node_state.NodeState.{NodeState}
use Rattle.journal_core.specs.declared.request.Request.{Request}
use Rattle.journal_core.specs.declared.reply.Reply.{Reply}
use Rattle.journal_core.specs.Step.{effects_of}
use Rattle.journal_core.specs.Answers.{IsAnswer}
use Rattle.disk_node.specs.Held.{StandsStopped}
use Rattle.disk_node.specs.Node.{NodeParts, IsUp, HasState}

-- Of a disk that tells its bytes: the node goes by the step from each state that it has, and a
-- crash at any moment of the call leaves files that stand for the state after the first effects of
-- the request, some number of them.
pub record IsActed {D : Type 0} (tells : D → Type 0) (view : D → View) (old : NodeParts D) (r : Request) (a : Reply) (new : NodeParts D) : Type 0 where
  pub tells_still : tells old.disk → tells new.disk
  pub sound : tells new.disk → IsSound (view new.disk)
  pub goes : tells old.disk → (s : NodeState) → HasState old.memory.up (view old.disk) old.memory old.rows s
      → (t : NodeState) × HasState new.memory.up (view new.disk) new.memory new.rows t × IsAnswer s r a t
  pub moments : tells old.disk → (s : NodeState) → IsUp (view old.disk) old.memory old.rows s → LeavesOnly (view old.disk) (view new.disk) (StandsStopped s (effects_of s r))

-- What contracts see of plain nodes that are called in memory, and what a call does.
use Rattle.std.specs.Prelude.{ℕ, ◌≡◌, ◌-◌, List, Some, slice_get, slice_set}
use Rattle.journal_core.specs.declared.node_state.NodeState.{NodeState}
use Rattle.journal_core.specs.declared.request.Request.{Request}
use Rattle.journal_core.specs.declared.heard.Heard.{Heard}
use Rattle.journal_core.specs.declared.heard.Heard.TheVariants.{Answer}
use Rattle.journal_core.specs.declared.peer_call.PeerCall.{PeerCall}
use Rattle.journal_core.specs.Step.{node_step}

pub record PlainPeersView : Type 0 where
  pub nodes : List NodeState
  pub calls : List PeerCall

-- the node took its step, and its answer is the step's; the other nodes stand as before
pub record IsStepOf (old : List NodeState) (node : ℕ) (r : Request) (heard : Heard) (new : List NodeState) : Type 0 where
  pub state : NodeState
  pub here : slice_get old (node - 1) ≡ Some state
  pub heard_is : heard ≡ Answer (node_step state r).reply
  pub stepped : new ≡ slice_set old (node - 1) (node_step state r).state

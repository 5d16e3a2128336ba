-- Nodes that one caller calls directly: what contracts see of them, and what a call does.
use Rattle.std.specs.Prelude.{◌≡◌, ◌≢◌, ◌-◌, List, [], ◌∷◌, ◌++◌, Option, Some, slice_get, slice_set}
use Rattle.journal_core.specs.Answers.{Answers}
use Rattle.journal_core.specs.declared.heard.Heard.TheVariants.{Answer}
use Rattle.journal_core.specs.declared.node_state.NodeState.{NodeState}
use Rattle.journal_core.specs.declared.peer_call.PeerCall.{PeerCall}
use Rattle.journal_core.specs.declared.refusal.Refusal.TheVariants.{DiskFault, OutOfMemory}
use Rattle.journal_core.specs.declared.reply.Reply.{Reply}
use Rattle.journal_core.specs.declared.reply.Reply.TheVariants.{Refused}
use Rattle.journal_core.specs.declared.request.Request.{Request}

-- the nodes, and the calls made so far
pub record DirectView (N : Type 0) : Type 0 where
  pub nodes : List N
  pub calls : List PeerCall

-- a node answered so, and memory sufficed
pub record IsActed {N : Type 0} (state : N → Option NodeState) (steady : N → Type 0) (old : N) (r : Request) (reply : Reply) (new : N) : Type 0 where
  pub step : Answers (state old) r reply (state new)
  pub own : steady old → steady new × (reply ≢ Refused DiskFault)
  pub memory : reply ≢ Refused OutOfMemory

-- the node that was called answered as it does; the others stand as before
pub record CallGoes {N : Type 0} (state : N → Option NodeState) (steady : N → Type 0) (call : PeerCall) (old new : List N) : Type 0 where
  pub before : N
  pub after : N
  pub reply : Reply
  pub here : slice_get old (call.node - 1) ≡ Some before
  pub heard_is : call.heard ≡ Answer reply
  pub acted : IsActed state steady before call.request reply after
  pub left : new ≡ slice_set old (call.node - 1) after

unfoldable pub CallsGo : {N : Type 0} → (N → Option NodeState) → (N → Type 0) → List PeerCall → List N → List N → Type 0
CallsGo state steady [] old new = new ≡ old
CallsGo {N} state steady (call ∷ calls) old new = (mid : List N) × CallGoes state steady call old mid × CallsGo state steady calls mid new

-- some calls were made and listed
pub record AreCalled {N : Type 0} (state : N → Option NodeState) (steady : N → Type 0) (old new : DirectView N) : Type 0 where
  pub made : List PeerCall
  pub listed : new.calls ≡ old.calls ++ made
  pub went : CallsGo state steady made old.nodes new.nodes

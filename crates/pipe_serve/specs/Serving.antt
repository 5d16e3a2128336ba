-- A node that clients share, and how its process ends.
use Rattle.std.specs.Prelude.{ℕ, Bool, ◌≡◌, ◌≢◌, ◌⊎◌, List, [], ◌∷◌, Option}
use Rattle.std.specs.Io.KnownBytes.{Consumes, IsAtEnd}
use Rattle.base_disk.specs.View.{View}
use Rattle.base_outside.specs.Faults.{Rose}
use Rattle.journal_core.specs.declared.node_state.NodeState.{NodeState}
use Rattle.journal_core.specs.declared.refusal.Refusal.TheVariants.{DiskFault}
use Rattle.journal_core.specs.declared.request.Request.{Request}
use Rattle.journal_core.specs.declared.reply.Reply.{Reply}
use Rattle.journal_core.specs.declared.reply.Reply.TheVariants.{Refused}
use Rattle.journal_core.specs.Answers.{Answers}
use Rattle.disk_node.specs.Acted.{IsActed}
use Rattle.disk_node.specs.Node.{NodeParts, told_state}
use Rattle.pipe_serve.specs.Sessions.{SourceUse}

-- ## The node
-- a node's state, where its disk tells it
abbrev pub state_told : {D : Type 0} → (D → Bool) → (D → View) → NodeParts D → Option NodeState
state_told is_told view n = told_state (is_told n.disk) (view n.disk).seen n.memory n.rows

-- these were answered one after the other, from the one state to the other
abbrev pub AreAnswered : Option NodeState → List (Request × Reply) → Option NodeState → Type 0
AreAnswered old [] new = new ≡ old
AreAnswered old (c ∷ calls) new = (mid : Option NodeState) × Answers old c.0 c.1 mid × AreAnswered mid calls new

-- some requests, answered one after the other, lead from the one state to the other
pub record Leads (old new : Option NodeState) : Type 0 where
  pub calls : List (Request × Reply)
  pub answered : AreAnswered old calls new

-- what is known of an answer of the node: it is that of a node over such a disk, which the request
-- brought on
pub record IsSharedAnswer {D : Type 0} (tells : D → Type 0) (view : D → View) (was_steady : Type 0) (r : Request) (a : Reply) : Type 0 where
  pub old : NodeParts D
  pub new : NodeParts D
  pub acted : IsActed tells view old r a new
  pub steady : was_steady → a ≢ Refused DiskFault

-- ## The input
-- it was read until it ended, or failed
pub record IsReadOut (source : SourceUse) : Type 0 where
  pub bytes : List ℕ
  pub read : Consumes source.given source.left bytes
  pub cause : IsAtEnd source.left ⊎ Rose source.before source.now

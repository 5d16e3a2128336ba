-- Entries of a run: what moved which node, and the state that a list of entries leaves a node in.
use Rattle.std.specs.Prelude.{ℕ, ◌==◌, Bool, List, [], ◌∷◌, if◌then◌else◌}
use Rattle.journal_core.specs.declared.node_state.NodeState.{NodeState}
use Rattle.journal_core.specs.declared.request.Request.{Request}
use Rattle.journal_core.specs.declared.reply.Reply.{Reply}
use Rattle.journal_core.specs.Step.{node_step, crashed, stopped, restarted, fresh_state}

-- how a call went: its answer was heard, its reply was lost, or it was a late copy, whose reply
-- goes to nobody
pub data Way : Type 0 where
  Heard : Way
  Muted : Way
  Late : Way

-- One move of a node: it answered a request, was stopped in a request (maybe a late copy) after
-- that many of its effects, was killed or was restarted.
pub data Move : Type 0 where
  Answer : (caller : ℕ) (way : Way) (request : Request) (reply : Reply) → Move
  Stop : (caller : ℕ) (late : Bool) (request : Request) (keep : ℕ) → Move
  Kill : Move
  Restart : Move

pub record Entry : Type 0 where
  pub node : ℕ
  pub move : Move

abbrev pub after_move : NodeState → Move → NodeState
after_move s (Answer caller way request reply) = (node_step s request).state
after_move s (Stop caller late request keep) = stopped s request keep
after_move s Kill = crashed s
after_move s Restart = restarted s

-- A node's state after entries, the newest of which stands first.
unfoldable pub node_after : ℕ → List Entry → NodeState
node_after i [] = fresh_state
node_after i (e ∷ past) = if e.node == i then after_move (node_after i past) e.move else node_after i past

-- The first list is what stood before some place of the second, or all of it. Both stand newest
-- first.
pub data Earlier : List Entry → List Entry → Type 0 where
  now : {past : List Entry} → Earlier past past
  before : {old past : List Entry} {e : Entry} → Earlier old past → Earlier old (e ∷ past)

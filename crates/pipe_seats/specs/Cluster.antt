-- A cluster: nodes and name nodes in processes of their own, at the ends of pipes.
use Rattle.std.specs.Prelude.{◌≡◌, ℕ, ◌+◌, ◌<◌, Bool, List, [], ◌∷◌, ◌++◌, length, map, slice_index_or}
use Rattle.journal_history.specs.declared.history_line.HistoryLine.{HistoryLine}
use Rattle.journal_history.specs.declared.record.Record.{Record}
use Rattle.journal_history.specs.Cell.{fresh_cell, IsLocalRun}
use Rattle.run_safety.specs.Safe.{IsSafe}
use Rattle.mesh.specs.declared.whole.Mesh.{Mesh}
use Rattle.mesh.specs.Makers.{IsOfChores, IsOperators}
use Rattle.mesh.specs.Matches.{reached, lines_of, AreSame, AreWithin, CallersWithin}
use Rattle.mesh.specs.Agree.{Agrees}
use Rattle.mesh.specs.Order.{epoch_order}
use Rattle.pipe_seats.specs.Settled.{settled, losses, NoCopies}

-- One life of a name node, from the start of its process to its end: what it lists, with the calls
-- under way at its end of which it heard nothing, and which of its calls arrived.
pub record Life : Type 0 where
  pub past : List Record
  pub arrived : List Bool

abbrev pub settled_life : Life → List Record
settled_life l = settled l.arrived l.past

abbrev pub no_life : Life
no_life = record { past = []; arrived = [] }

-- what all nodes list over all their restarts, all lives of all name nodes, and who kills and
-- restarts the nodes
pub record Cluster : Type 0 where
  pub nodes : ℕ
  pub histories : List (List HistoryLine)
  pub lives : List Life
  pub operator : List Record

abbrev pub history_of : Cluster → ℕ → List HistoryLine
history_of c i = slice_index_or c.histories i []

abbrev pub life_of : Cluster → ℕ → Life
life_of c k = slice_index_or c.lives k no_life

-- What is known of each node, of each life, and of the pipes between them.
pub record IsCluster (c : Cluster) : Type 0 where
  -- of each node: its history is what one node answers from its beginning on, with its stops, kills
  -- and restarts
  pub count : length c.histories ≡ c.nodes
  pub local : (i : ℕ) → i < c.nodes → IsLocalRun fresh_cell (history_of c i)
  pub callers : (i : ℕ) → i < c.nodes → CallersWithin (length c.lives) (history_of c i)
  -- of each life: its calls are those of some tasks and tails, by what it heard
  pub made : (k : ℕ) → k < length c.lives → IsOfChores c.nodes (life_of c k).past
  pub within : (k : ℕ) → k < length c.lives → AreWithin c.nodes (life_of c k).past
  pub no_copies : (k : ℕ) → k < length c.lives → NoCopies (life_of c k).past
  -- of the pipes: they keep order and invent nothing. What a node lists of a life are the calls
  -- that arrived, in order and each once, and what was heard of one is what the node answered
  pub pipes : (i k : ℕ) → i < c.nodes → k < length c.lives → AreSame (reached (i + 1) (settled_life (life_of c k))) (lines_of k (history_of c i))
  -- of who kills and restarts the nodes
  pub operated : IsOperators c.operator
  pub operator_within : AreWithin c.nodes c.operator
  pub operator_same : (i : ℕ) → i < c.nodes → AreSame (reached (i + 1) c.operator) (lines_of (length c.lives) (history_of c i))

-- its lists, with the plan of what was lost
abbrev pub mesh_of : Cluster → Mesh
mesh_of c = record {
  nodes = c.nodes;
  histories = c.histories;
  records = map settled_life c.lives ++ c.operator ∷ [];
  plan = map (λ l. losses (settled_life l)) c.lives;
}

abbrev pub ClustersAgree : Type 0
ClustersAgree = (c : Cluster) → IsCluster c → Agrees (mesh_of c)

abbrev pub ClustersAreSafe : Type 0
ClustersAreSafe = (c : Cluster) → IsCluster c → IsSafe c.nodes (epoch_order (mesh_of c))

-- what a life had done at any moment are calls of some tasks and tails, too
abbrev pub FrontsAreMade : Type 0
FrontsAreMade = (nodes : ℕ) (rs more : List Record) → IsOfChores nodes (rs ++ more) → IsOfChores nodes rs

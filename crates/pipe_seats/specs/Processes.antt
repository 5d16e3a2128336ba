-- Processes at the ends of pipes: nodes, each with its lives over one folder, and the lives of name
-- nodes.
use Rattle.std.specs.Prelude.{ℕ, ◌≡◌, ◌<◌, ◌==◌, suc, Bool, true, List, [], ◌∷◌, ◌++◌, length, map, Option, Some, None, slice_index_or, if◌then◌else◌}
use Rattle.journal_core.specs.Step.{fresh_state}
use Rattle.journal_history.specs.declared.history_line.HistoryLine.{HistoryLine}
use Rattle.journal_history.specs.declared.node_ask.NodeAsk.TheVariants.{Kill, Restart, Arm}
use Rattle.journal_history.specs.declared.node_ask.NodeAnswer.TheVariants.{Replied, Stopped}
use Rattle.journal_history.specs.declared.stop.Stop.TheVariants.{Effects}
use Rattle.journal_history.specs.declared.record.Record.{Record}
use Rattle.journal_history.specs.declared.record.Record.TheVariants.{Operator}
use Rattle.mesh.specs.Makers.{IsOfChores}
use Rattle.mesh.specs.Matches.{AreWithin}
use Rattle.pipe_seats.specs.Carried.{Got, IsCarried}
use Rattle.pipe_seats.specs.Cluster.{Life, Cluster, IsCluster}
use Rattle.pipe_seats.specs.Lives.{Answered, Cut, NodeLife, AreLives, lives_lines}

-- ## What a node got of one caller
abbrev pub own_answered : ℕ → List Answered → List Got
own_answered k [] = []
own_answered k (a ∷ more) = if a.caller == k then record { request = a.request; answer = Replied a.reply } ∷ own_answered k more else own_answered k more

abbrev pub own_cut : ℕ → Option Cut → List Got
own_cut k None = []
own_cut k (Some c) = if c.caller == k then record { request = c.request; answer = Stopped c.effects } ∷ [] else []

abbrev pub own_lives : ℕ → List NodeLife → List Got
own_lives k [] = []
own_lives k (life ∷ lives) = (own_answered k life.answered ++ own_cut k life.cut) ++ own_lives k lives

-- each caller is below this one
abbrev pub AnsweredBelow : ℕ → List Answered → Type 0
AnsweredBelow n [] = Unit {0}
AnsweredBelow n (a ∷ more) = (a.caller < n) × AnsweredBelow n more

abbrev pub CutBelow : ℕ → Option Cut → Type 0
CutBelow n None = Unit {0}
CutBelow n (Some c) = c.caller < n

abbrev pub LivesBelow : ℕ → List NodeLife → Type 0
LivesBelow n [] = Unit {0}
LivesBelow n (life ∷ lives) = AnsweredBelow n life.answered × CutBelow n life.cut × LivesBelow n lives

-- ## All of them
-- the lives of each node, and what each life of a name node lists, with the calls under way at its
-- end of which it heard nothing
pub record Processes : Type 0 where
  pub nodes : List (List NodeLife)
  pub leads : List (List Record)

-- by a node's number, from 1 on
abbrev pub lives_of : Processes → ℕ → List NodeLife
lives_of p node = slice_index_or ([] ∷ p.nodes) node []

abbrev pub past_of : Processes → ℕ → List Record
past_of p k = slice_index_or p.leads k []

-- Each node's lives begin from what the one before left; each name node's calls are those of some
-- tasks and tails; and pipes keep order and invent nothing.
pub record AreProcesses (p : Processes) : Type 0 where
  pub lives : (i : ℕ) → i < length p.nodes → AreLives fresh_state (slice_index_or p.nodes i [])
  pub callers : (i : ℕ) → i < length p.nodes → LivesBelow (length p.leads) (slice_index_or p.nodes i [])
  pub made : (k : ℕ) → k < length p.leads → IsOfChores (length p.nodes) (past_of p k)
  pub within : (k : ℕ) → k < length p.leads → AreWithin (length p.nodes) (past_of p k)
  pub carried : (k node : ℕ) → IsCarried node (past_of p k) (own_lives k (lives_of p node))

-- ## What the operator did
abbrev pub death_record : ℕ → Option Cut → Record
death_record node None = Operator node Kill true
death_record node (Some c) = Operator node (Arm 1 (Effects c.effects)) true

abbrev pub lives_record : ℕ → List NodeLife → List Record
lives_record node [] = []
lives_record node (life ∷ lives) = death_record node life.cut ∷ Operator node Restart true ∷ lives_record node lives

abbrev pub nodes_record : ℕ → List (List NodeLife) → List Record
nodes_record node [] = []
nodes_record node (lives ∷ more) = lives_record node lives ++ nodes_record (suc node) more

-- Such processes are a cluster, of these histories and these records.
pub record IsClusterOf (p : Processes) (c : Cluster) : Type 0 where
  pub is : IsCluster c
  pub nodes : c.nodes ≡ length p.nodes
  pub histories : c.histories ≡ map (lives_lines (length p.leads)) p.nodes
  pub lives : map (λ (l : Life). l.past) c.lives ≡ p.leads

abbrev pub ProcessesAreClusters : Type 0
ProcessesAreClusters = (p : Processes) → AreProcesses p → (c : Cluster) × IsClusterOf p c

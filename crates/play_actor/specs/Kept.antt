-- What the program keeps of a play, and the play that this is.
use Rattle.std.specs.Prelude.{◌≡◌, ℕ, Bool, false, ◌-◌, List, [], ◌∷◌, ◌++◌, length, map, Option, Some, None, slice_index_or, slice_set, replicate}
use Rattle.journal_core.specs.declared.request.Request.{Request}
use Rattle.journal_core.specs.declared.node_state.NodeState.{NodeState}
use Rattle.journal_history.specs.declared.node_ask.NodeAsk.{NodeAsk}
use Rattle.journal_history.specs.declared.node_ask.NodeAsk.TheVariants.{Act}
use Rattle.journal_history.specs.declared.node_ask.NodeAnswer.{NodeAnswer}
use Rattle.journal_history.specs.declared.record.Record.{Record}
use Rattle.journal_history.specs.declared.record.Record.TheVariants.{Operator}
use Rattle.journal_history.specs.declared.record.Told.{Told}
use Rattle.journal_history.specs.declared.history_line.HistoryLine.{HistoryLine}
use Rattle.journal_history.specs.Cell.{cell_takes}
use Rattle.journal_history.specs.NodeCells.{CellView, new_cell}
use Rattle.mesh.specs.declared.whole.Mesh.{Mesh}
use Rattle.ns_tree.specs.declared.end.End.{End}
use Rattle.ns_edits.specs.Replay.{Image}
use Rattle.play_model.specs.Lines.{Line}
use Rattle.play_model.specs.Actor.{last_of, images_of}
use Rattle.play_model.specs.KeptActor.{KeptActor, new_actor, resting}
use Rattle.play_model.specs.Plays.{Play, play_steps, histories_from, Delivery, Delivered, ReplyLost, NotDelivered, told_of, is_done}

-- with names or without, the nodes with what each has listed, the actors, and the operator's number
-- and record
pub record Kept : Type 0 where
  pub named : Bool
  pub nodes : List CellView
  pub actors : List KeptActor
  pub operator : ℕ
  pub operated : List Record

abbrev pub node_at : Kept → ℕ → CellView
node_at k node = slice_index_or k.nodes (node - 1) new_cell

abbrev pub actor_of : Kept → ℕ → KeptActor
actor_of k c = slice_index_or k.actors c (new_actor k.named (length k.nodes) [])

-- ## What reaches a node
abbrev pub answer_to : CellView → NodeAsk → NodeAnswer
answer_to v ask = (cell_takes v.cell ask).answer

-- the node once it has taken and listed what this caller asked
abbrev pub list_ask : CellView → ℕ → NodeAsk → CellView
list_ask v c ask =
    record { cell = (cell_takes v.cell ask).cell; history = v.history ++ record { caller = c; ask = ask; answer = answer_to v ask } ∷ [] }

-- ## One call
-- a call that isn't delivered reaches no node
abbrev pub reached_by : Delivery → CellView → ℕ → Request → CellView
reached_by NotDelivered v c r = v
reached_by ReplyLost v c r = list_ask v c (Act false r)
reached_by Delivered v c r = list_ask v c (Act false r)

abbrev pub told_by : Delivery → CellView → Request → Told
told_by d v r = told_of d (answer_to v (Act false r))

abbrev pub with_actor_at : Kept → ℕ → KeptActor → Kept
with_actor_at k c a = record k { actors = slice_set k.actors c a }

-- the operator does this to the node
abbrev pub operates : Kept → ℕ → NodeAsk → Kept
operates k node ask =
    record k {
      nodes = slice_set k.nodes (node - 1) (list_ask (node_at k node) k.operator ask);
      operated = k.operated ++ Operator node ask (is_done (answer_to (node_at k node) ask)) ∷ [];
    }

-- ## The play that this is
-- all but the actors
pub record Stands (k : Kept) (p : Play) : Type 0 where
  pub named : p.named ≡ k.named
  pub nodes : length k.nodes ≡ p.nodes
  pub cells : p.cells ≡ map (λ v. v.cell) k.nodes
  pub histories : histories_from 1 p.nodes p.trace ≡ map (λ v. v.history) k.nodes
  pub names : p.names ≡ map (λ a. a.name) k.actors
  pub operator : p.operator ≡ k.operator
  pub operated : p.operated ≡ k.operated

-- between two lines, with these lines to come
pub record IsAtRest (lines : List Line) (k : Kept) (p : Play) : Type 0 where
  pub stands : Stands k p
  pub lines_are : p.lines ≡ lines
  pub turn : p.turn ≡ None
  pub actors : p.actors ≡ map resting k.actors

-- some steps lead from one to the other
pub record Leads (p q : Play) : Type 0 where
  pub steps : ℕ
  pub reached : play_steps steps p ≡ q

-- wherever the play stands as the first says, it comes to stand as the second says
abbrev pub LeadsTo : (Play → Type 0) → (Play → Type 0) → Type 0
LeadsTo P Q = (p : Play) → P p → (q : Play) × Leads p q × Q q

-- before the first line
abbrev pub new_kept : Bool → ℕ → ℕ → Kept
new_kept named nodes operator = record { named = named; nodes = replicate nodes new_cell; actors = []; operator = operator; operated = [] }

-- one more actor
abbrev pub with_actor : Kept → List ℕ → Kept
with_actor k name = record k { actors = k.actors ++ new_actor k.named (length k.nodes) name ∷ [] }

-- the mesh and the ends of what is kept
abbrev pub mesh_kept : Kept → Mesh
mesh_kept k =
    record {
      nodes = length k.nodes;
      histories = map (λ v. v.history) k.nodes;
      records = map (λ a. a.past) k.actors ++ k.operated ∷ [];
      plan = map (λ a. a.marks) k.actors;
    }

-- an actor's name, and what it holds at last
abbrev pub end_of : KeptActor → End
end_of a = record { name = a.name; last = last_of a.holds }

abbrev pub ends_kept : Kept → List End
ends_kept k = map end_of k.actors

-- ## The nodes at the end
abbrev pub states_kept : Kept → List (Option NodeState)
states_kept k = map (λ v. Some v.cell.state) k.nodes

-- ## The images at the end
abbrev pub images_kept : Kept → List (List Image)
images_kept k = map (λ a. images_of a.holds) k.actors

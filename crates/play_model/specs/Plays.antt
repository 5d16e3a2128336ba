-- A script played: its lines are taken in order, and the calls of each line are made one after the
-- other.
use Rattle.std.specs.List.{AllZip}
use Rattle.std.specs.Prelude.{◌≡◌, ℕ, zero, suc, ◌+◌, ◌-◌, ◌&&◌, Bool, true, false, List, [], ◌∷◌, ◌++◌, map, replicate, slice_index_or, slice_set, is_none, Option, Some, None}
use Rattle.journal_core.specs.declared.request.Request.{Request}
use Rattle.journal_core.specs.declared.node_state.NodeState.{NodeState}
use Rattle.journal_history.specs.declared.node_ask.NodeAsk.{NodeAsk}
use Rattle.journal_history.specs.declared.node_ask.NodeAsk.TheVariants.{Act}
use Rattle.journal_history.specs.declared.history_line.HistoryLine.{HistoryLine}
use Rattle.journal_history.specs.declared.record.Record.{Record}
use Rattle.journal_history.specs.declared.record.Record.TheVariants.{Call, Late, Operator, Outcome}
use Rattle.journal_history.specs.declared.record.Told.TheVariants as told
use Rattle.journal_history.specs.Cell.{Cell, fresh_cell, Taken, cell_takes, cell_after}
use Rattle.journal_history.specs.Moving.{Placed}
use Rattle.mesh.specs.declared.whole.Mesh.{Mesh}
use Rattle.mesh.specs.Marks.{next_number}
unfoldable pub use Rattle.mesh.specs.Traces.{history_of}
use Rattle.base_disk.specs.declared.mem_disk.MemDisk.{MemDisk}
use Rattle.ns_tree.specs.declared.end.End.{End}
use Rattle.ns_edits.specs.Replay.{Image}
use Rattle.play_names.specs.ImageDisks.{HoldsOn}
use Rattle.play_script.specs.Scripts.{ScriptView}
pub use Rattle.play_calls.specs.declared.delivery.Delivery.{Delivery}
pub use Rattle.play_calls.specs.declared.delivery.Delivery.TheVariants.{Delivered, ReplyLost, NotDelivered}
unfoldable pub use Rattle.mesh.specs.Marks.{same_kind, is_marked}
unfoldable pub use Rattle.play_calls.specs.Deliveries.{delivery, told_of, is_done}
use Rattle.play_model.specs.Lines.{Line, Declares, Acts, Operates, lines_of, count_actors}
use Rattle.play_model.specs.Actor.{Actor, fresh_actor, hand_action, Want, WantsCall, WantsCopy, Says, Rests, wants, goes_on, last_of, images_of}

pub record Play : Type 0 where
  -- with names or without
  pub named : Bool
  pub nodes : ℕ
  -- the operator's number, after those of all actors
  pub operator : ℕ
  -- the lines still to come, and the actor whose line is under way
  pub lines : List Line
  pub turn : Option ℕ
  pub names : List (List ℕ)
  pub cells : List Cell
  pub actors : List Actor
  -- all that reached the nodes, in order, and the operator's record
  pub trace : List Placed
  pub operated : List Record

unfoldable pub play_begins : Bool → ℕ → List Line → Play
play_begins named nodes lines =
    record { named = named; nodes = nodes; operator = count_actors lines; lines = lines; turn = None; names = []; cells = replicate nodes fresh_cell; actors = []; trace = []; operated = [] }

unfoldable pub actor_at : Play → ℕ → Actor
actor_at p c = slice_index_or p.actors c (fresh_actor p.named p.nodes)

-- ## What a node is asked
abbrev pub taken_at : ℕ → NodeAsk → Play → Taken
taken_at node ask p = cell_takes (slice_index_or p.cells (node - 1) fresh_cell) ask

unfoldable pub node_asked : ℕ → ℕ → Bool → NodeAsk → Play → Play
node_asked node caller muted ask p =
    record p {
      cells = slice_set p.cells (node - 1) (taken_at node ask p).cell;
      trace = p.trace ++ record { node = node; line = record { caller = caller; ask = ask; answer = (taken_at node ask p).answer }; muted = muted } ∷ [];
    }

-- the actor goes on by one line of its record
unfoldable pub note_record : ℕ → Record → Play → Play
note_record c r p = record p { actors = slice_set p.actors c (goes_on (actor_at p c) r) }

-- ## How a call goes, by the actor's marks
unfoldable pub call_made : Delivery → ℕ → ℕ → Request → Play → Play
call_made NotDelivered c node r p = note_record c (Call node r told.Dropped) p
call_made ReplyLost c node r p = note_record c (Call node r told.Muted) (node_asked node c true (Act false r) p)
call_made Delivered c node r p = note_record c (Call node r (told_of Delivered (taken_at node (Act false r) p).answer)) (node_asked node c false (Act false r) p)

unfoldable pub copy_made : ℕ → ℕ → Request → Play → Play
copy_made c node r p = note_record c (Late node r) (node_asked node c false (Act true r) p)

-- ## One step: what the actor in turn wants, or the end of its turn; else the next line
unfoldable pub meet_want : Want → ℕ → Play → Play
meet_want Rests c p = record p { turn = None }
meet_want (Says text) c p = note_record c (Outcome text) p
meet_want (WantsCall node r) c p = call_made (delivery (actor_at p c).marks node (next_number node (actor_at p c).past)) c node r p
meet_want (WantsCopy node r) c p = copy_made c node r p

unfoldable pub line_taken : Line → Play → Play
line_taken (Declares name) p = record p { names = p.names ++ name ∷ []; actors = p.actors ++ fresh_actor p.named p.nodes ∷ [] }
line_taken (Acts c d) p = record p { turn = Some c; actors = slice_set p.actors c (hand_action d (actor_at p c)) }
line_taken (Operates node ask) p =
    record (node_asked node p.operator false ask p) { operated = p.operated ++ Operator node ask (is_done (taken_at node ask p).answer) ∷ [] }

unfoldable pub next_line : List Line → Play → Play
next_line [] p = p
next_line (l ∷ ls) p = line_taken l (record p { lines = ls })

unfoldable pub take_turn : Option ℕ → Play → Play
take_turn None p = next_line p.lines p
take_turn (Some c) p = meet_want (wants (actor_at p c)) c p

unfoldable pub play_step : Play → Play
play_step p = take_turn p.turn p

unfoldable pub play_steps : ℕ → Play → Play
play_steps zero p = p
play_steps (suc n) p = play_steps n (play_step p)

-- ## A play: the steps from the beginning to the end
unfoldable pub no_lines : List Line → Bool
no_lines [] = true
no_lines (l ∷ ls) = false

unfoldable pub has_ended : Play → Bool
has_ended p = no_lines p.lines && is_none p.turn

pub record IsPlay (named : Bool) (nodes : ℕ) (lines : List Line) (p : Play) : Type 0 where
  pub steps : ℕ
  pub reached : play_steps steps (play_begins named nodes lines) ≡ p
  pub ended : has_ended p ≡ true

abbrev pub Plays : ScriptView → Play → Type 0
Plays s p = IsPlay s.named s.nodes (lines_of s) p

-- ## Its mesh and its ends
-- of so many nodes, from this one on
unfoldable pub histories_from : ℕ → ℕ → List Placed → List (List HistoryLine)
histories_from node zero xs = []
histories_from node (suc count) xs = history_of node xs ∷ histories_from (node + 1) count xs

unfoldable pub mesh_of : Play → Mesh
mesh_of p =
    record {
      nodes = p.nodes;
      histories = histories_from 1 p.nodes p.trace;
      records = map (λ a. a.past) p.actors ++ p.operated ∷ [];
      plan = map (λ a. a.marks) p.actors;
    }

unfoldable pub ends_from : List (List ℕ) → List Actor → List End
ends_from [] rest = []
ends_from (name ∷ names) [] = []
ends_from (name ∷ names) (a ∷ rest) = record { name = name; last = last_of a.holds } ∷ ends_from names rest

unfoldable pub ends_of : Play → List End
ends_of p = ends_from p.names p.actors

-- This is what some play of a script with these lines, with names or without, is known by at its
-- end.
pub record IsPlayed (named : Bool) (nodes : ℕ) (lines : List Line) (m : Mesh) (ends : List End) : Type 0 where
  pub play : Play
  pub plays : IsPlay named nodes lines play
  pub mesh : m ≡ mesh_of play
  pub ends_are : ends ≡ ends_of play

-- ## The nodes at the end
-- the states that nodes tell after these histories
abbrev pub states_after : List (List HistoryLine) → List (Option NodeState)
states_after histories = map (λ h. Some (cell_after fresh_cell h).state) histories

-- ## The images at the end
-- those that each actor kept, the newest first
abbrev pub images_in : Play → List (List Image)
images_in p = map (λ a. images_of a.holds) p.actors

-- The mesh and the ends are those of a play with these lines, and the disks, one for each actor in
-- order of declaration, hold the images that its actors kept.
pub record LeavesImages (named : Bool) (nodes : ℕ) (lines : List Line) (m : Mesh) (ends : List End) (disks : List MemDisk) : Type 0 where
  pub played : IsPlayed named nodes lines m ends
  pub images : AllZip HoldsOn disks (images_in played.play)

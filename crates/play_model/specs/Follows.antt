-- When a mesh follows a script.
use Rattle.std.specs.Prelude.{◌≡◌, ℕ, ◌<◌, Bool, List, [], ◌∷◌, length, map, Some, slice_get}
use Rattle.journal_history.specs.declared.record.Record.{Record}
use Rattle.journal_history.specs.declared.record.Record.TheVariants.{Operator}
use Rattle.journal_history.specs.declared.mark.Mark.{Mark}
use Rattle.mesh.specs.declared.whole.Mesh.{Mesh}
use Rattle.ns_tree.specs.declared.end.End.{End}
use Rattle.mesh.specs.Agree.{operator_of, record_of, plan_of}
use Rattle.play_script.specs.Scripts.{ScriptView}
use Rattle.play_model.specs.Lines.{Action, Line, Operation, lines_of, count_actors, names_in, actions_of, operations_in}
use Rattle.play_model.specs.Actor.{Actor, fresh_actor, settle, wants, Rests, IsLed, actor_after, last_of}

-- an actor of that many nodes with these actions, before its first line, and after a record
abbrev pub actor_with : Bool → ℕ → List Action → Actor
actor_with named nodes actions = settle actions (fresh_actor named nodes)

-- The record is what such an actor does by the answers in it, to its end, the plan has the marks
-- that its actions set, and the end is what it is left with.
pub record Follows (named : Bool) (nodes : ℕ) (actions : List Action) (rs : List Record) (plan : List Mark) (e : End) : Type 0 where
  pub led : IsLed (actor_with named nodes actions) rs
  pub ended : wants (actor_after (actor_with named nodes actions) rs) ≡ Rests
  pub marks : plan ≡ (actor_after (actor_with named nodes actions) rs).marks
  pub end : e.last ≡ last_of (actor_after (actor_with named nodes actions) rs).holds

-- the operator's lines, in order; whether each took place is the node's answer
unfoldable pub AreOperations : List Operation → List Record → Type 0
AreOperations [] [] = Unit {0}
AreOperations (o ∷ os) (Operator node ask done ∷ rs) = (node ≡ o.node) × (ask ≡ o.ask) × AreOperations os rs
AreOperations _ _ = ⊥

pub record FollowsLines (named : Bool) (nodes : ℕ) (lines : List Line) (m : Mesh) (ends : List End) : Type 0 where
  pub nodes_are : m.nodes ≡ nodes
  pub actors_are : length m.plan ≡ count_actors lines
  pub names : map (λ e. e.name) ends ≡ names_in lines
  pub actors :
      (c : ℕ) (e : End) → c < operator_of m → slice_get ends c ≡ Some e
      → Follows named nodes (actions_of c lines) (record_of m c) (plan_of m c) e
  pub operator : AreOperations (operations_in lines) (record_of m (operator_of m))

-- its nodes, its actors with their names, plan and records, and the operator's record are the
-- script's
abbrev pub FollowsScript : ScriptView → Mesh → List End → Type 0
FollowsScript s m ends = FollowsLines s.named s.nodes (lines_of s) m ends

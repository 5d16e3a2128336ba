-- What a caller's thread does with the lines of a script, whatever it hears.
use Rattle.std.specs.Prelude.{◌≡◌, ℕ, ◌==◌, Bool, true, false, List, [], ◌∷◌, ◌++◌, Option, Some, None}
use Rattle.journal_history.specs.declared.record.Record.{Record}
use Rattle.journal_history.specs.declared.record.Record.TheVariants.{Operator}
use Rattle.journal_history.specs.declared.mark.Mark.{Mark}
use Rattle.journal_history.specs.declared.node_ask.NodeAsk.{NodeAsk}
use Rattle.ns_tree.specs.declared.end.End.{End}
use Rattle.ns_tree.specs.declared.end.LastSpace.{LastSpace}
use Rattle.mesh.specs.Makers.{IsOperation, IsOperators}
use Rattle.play_calls.specs.Logs.{LogView}
use Rattle.play_model.specs.Lines.{Action, Line, Declares, Acts, Operates, actions_of, operations_in}
use Rattle.play_model.specs.Follows.{actor_with, Follows, AreOperations}
use Rattle.play_model.specs.KeptActor.{KeptActor, resting}
use Rattle.play_model.specs.Actions.{LedTo, IsIdleActor, TakesIf}

-- ## An actor
-- the line is this actor's
abbrev pub is_by : ℕ → Option (ℕ × Action) → Bool
is_by c None = false
is_by c (Some d) = d.0 == c

-- the action was taken, if it is this actor's
abbrev pub TakesOwn : Bool → ℕ → Option (ℕ × Action) → KeptActor → KeptActor → Type 0
TakesOwn true nodes d old new = TakesIf nodes d old new
TakesOwn false nodes d old new = new ≡ old

-- these actions were taken, from the beginning on
pub record HasDone (named : Bool) (nodes : ℕ) (actions : List Action) (k : KeptActor) : Type 0 where
  pub idle : IsIdleActor nodes k
  pub leads : LedTo (actor_with named nodes actions) (resting k)

-- ## The operator
-- what it lists of a line
abbrev pub OperatesOn : Line → List Record → List Record → Type 0
OperatesOn (Declares name) old new = new ≡ old
OperatesOn (Acts actor action) old new = new ≡ old
OperatesOn (Operates node ask) old new = IsOperation ask × ((done : Bool) × (new ≡ old ++ Operator node ask done ∷ []))

-- what the line asks of a node, and of which; nothing if it isn't the operator's
abbrev pub Asks : Option (ℕ × NodeAsk) → Line → Type 0
Asks None (Declares name) = Unit {0}
Asks None (Acts actor action) = Unit {0}
Asks None (Operates node ask) = ⊥
Asks (Some o) line = (line ≡ Operates o.0 o.1) × IsOperation o.1

-- these lines' operations were done, from the beginning on
pub record HasOperated (lines : List Line) (past : List Record) : Type 0 where
  pub operations : AreOperations (operations_in lines) past
  pub operates : IsOperators past

-- ## A caller: the operator, or an actor
-- an actor does its actions, and holds this at last; its end has its name beside it
abbrev pub FollowsActions : Bool → ℕ → List Action → List Record → List Mark → Option LastSpace → Type 0
FollowsActions named nodes actions rs plan last = (e : End) → e.last ≡ last → Follows named nodes actions rs plan e

-- in a script with names or without, by the operator or by an actor
abbrev pub DoesLines : Bool → Bool → ℕ → ℕ → List Line → LogView → Option LastSpace → Type 0
DoesLines named true nodes caller lines log last = HasOperated lines log.past
DoesLines named false nodes caller lines log last = FollowsActions named nodes (actions_of caller lines) log.past log.marks last

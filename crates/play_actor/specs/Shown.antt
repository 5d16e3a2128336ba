-- What contracts see of the program's nodes and actors.
use Rattle.std.specs.Prelude.{◌≡◌, ℕ, Bool, List, All, map}
use Rattle.journal_history.specs.declared.record.Record.{Record}
use Rattle.journal_history.specs.NodeCells.{CellView}
use Rattle.play_actor.specs.declared.player.Player.{Player}
use Rattle.play_model.specs.Actions.{ActorView}
use Rattle.play_model.specs.KeptActor.{KeptActor}
use Rattle.play_actor.specs.Kept.{Kept}

-- where this is seen of each actor
abbrev pub keeps : {A : Type 0} → (A → ActorView) → Player A → KeptActor
keeps seen p = record { name = p.name; writer = (seen p.actor).writer; holds = (seen p.actor).holds; past = p.log.past; marks = p.log.marks }

abbrev pub kept : {A : Type 0} → (A → ActorView) → Bool → List CellView → List (Player A) → ℕ → List Record → Kept
kept seen named nodes players operator operated = record { named = named; nodes = nodes; actors = map (keeps seen) players; operator = operator; operated = operated }

-- each lists its calls to so many nodes
abbrev pub AreSeated : {A : Type 0} → ℕ → List (Player A) → Type 0
AreSeated nodes players = All (λ p. p.log.nodes ≡ nodes) players

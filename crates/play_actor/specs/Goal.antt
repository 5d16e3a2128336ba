-- A script's lines, taken one after the other.
use Rattle.std.specs.Prelude.{◌≡◌, ℕ, ◌+◌, ◌<◌, Bool, List, length, map}
use Rattle.play_script.specs.declared.script_line.ScriptLine.{ScriptLine}
use Rattle.play_script.specs.declared.script_line.ScriptLine.TheVariants as line
use Rattle.play_model.specs.Lines.{Line, Declares, Acts, Operates, line_of, ArePlayable, AreInRange}
use Rattle.play_model.specs.Actions.{MayCome}
use Rattle.play_model.specs.Plays.{Play, play_begins}
use Rattle.play_actor.specs.Kept.{Kept, IsAtRest, Leads}
use Rattle.play_actor.specs.Ready.{IsIdle}

-- the actor of a line
abbrev pub IsDeclared : ℕ → Line → Type 0
IsDeclared actors (Declares name) = Unit {0}
IsDeclared actors (Acts actor action) = actor < actors
IsDeclared actors (Operates node ask) = Unit {0}

-- the line may come in a script with names or without, where there are so many nodes and so many
-- actors are declared
abbrev pub MayTake : Bool → ℕ → ℕ → ScriptLine → Type 0
MayTake named nodes actors line = IsDeclared actors (line_of line) × MayCome named nodes line

abbrev pub actors_after : ℕ → ScriptLine → ℕ
actors_after actors (line.Declare name) = actors + 1
actors_after actors _ = actors

-- the play of these lines has come to where these are still to come
pub record IsUnderWay (named : Bool) (nodes : ℕ) (lines : List Line) (rest : List ScriptLine) (k : Kept) : Type 0 where
  pub idle : IsIdle k
  pub same_nodes : length k.nodes ≡ nodes
  pub as_named : k.named ≡ named
  pub playable : ArePlayable named nodes (length k.actors) (map line_of rest)
  pub in_range : AreInRange nodes rest
  pub play : Play
  pub leads : Leads (play_begins named nodes lines) play
  pub at_rest : IsAtRest (map line_of rest) k play

-- What holds of a play between two lines: its actors are idle.
use Rattle.std.specs.Prelude.{◌≡◌, ℕ, ◌≤◌, ◌<◌, Bool, List, ◌∷◌, length, is_some}
use Rattle.play_model.specs.Lines.{Line}
use Rattle.play_model.specs.KeptActor.{KeptActor}
use Rattle.play_model.specs.Actions.{IsIdleActor}
use Rattle.play_actor.specs.Kept.{Kept, actor_of, IsAtRest, LeadsTo}

-- an idle actor, which holds something in a play with names alone
pub record IsIdleIn (named : Bool) (nodes : ℕ) (a : KeptActor) : Type 0 where
  pub idle : IsIdleActor nodes a
  pub holds_if : is_some a.holds ≡ named

-- no actor has a call to make
pub record IsIdle (k : Kept) : Type 0 where
  pub some : 1 ≤ length k.nodes
  pub actors : (c : ℕ) → c < length k.actors → IsIdleIn k.named (length k.nodes) (actor_of k c)

-- a line was taken
pub record TakesLine (line : Line) (actors : ℕ) (old new : Kept) : Type 0 where
  pub nodes : length new.nodes ≡ length old.nodes
  pub actors_are : length new.actors ≡ actors
  pub named : new.named ≡ old.named
  pub idle : IsIdle new
  pub leads : (lines : List Line) → LeadsTo (IsAtRest (line ∷ lines) old) (IsAtRest lines new)

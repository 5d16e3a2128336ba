-- What holds of worlds, whatever comes.
use Rattle.std.specs.Prelude.{◌≡◌, ◌≢◌, ℕ, ◌⊎◌, ◌↔◌, true, false, List, [], ◌∷◌, Option, Some}
use Rattle.journal_core.specs.declared.request.Request.{Request}
use Rattle.writer_core.specs.declared.task.Task.{Task}
use Rattle.writer_core.specs.declared.task.Begun.TheVariants.{Going}
use Rattle.writer_core.specs.Writer.{writer_begun, is_under_way, next_call}
use Rattle.journal_history.specs.declared.stop.Stop.{Stop}
use Rattle.run_safety.specs.declared.event.Fate.{Fate}
use Rattle.run_safety.specs.declared.event.Event.{Event}
use Rattle.run_safety.specs.declared.event.Event.TheVariants.{Begin, Call, Late, Kill, Restart, Arm}
use Rattle.run_world.specs.declared.seen.Seen.TheVariants.{Idle, NotNext}
use Rattle.journal_history.specs.Moving.{moving_of}
use Rattle.run_safety.specs.Run.{IsRun}
use Rattle.run_safety.specs.Safe.{IsSafe}
use Rattle.run_safety.specs.Actings.{CallMade}
use Rattle.run_world.specs.World.{World, new_world, cell_at, acting_at, is_reading, world_step, world_after, AreEvents}

-- what reached the nodes, less what doesn't move, is a run
abbrev pub WorldStepsAreARun : Type 0
WorldStepsAreARun = (n actors : ℕ) (events : List Event) → AreEvents n actors events → IsRun n (moving_of (world_after (new_world n actors) events).trace)

-- and so it is safe
abbrev pub WorldsAreSafe : Type 0
WorldsAreSafe = (n actors : ℕ) (events : List Event) → AreEvents n actors events → IsSafe n (moving_of (world_after (new_world n actors) events).trace)

-- an event that can't come leaves all as it was
abbrev pub NotNextChangesNothing : Type 0
NotNextChangesNothing = (w : World) (e : Event) → (world_step w e).seen ≡ NotNext → (world_step w e).world ≡ w

-- the call is one of these
abbrev pub IsAmong : ℕ → Request → List CallMade → Type 0
IsAmong node r [] = ⊥
IsAmong node r (x ∷ xs) = (x ≡ record { node = node; request = r }) ⊎ IsAmong node r xs

-- Which events can't come: a task while one is under way, or one that the writer refuses; a call
-- that neither reads nor is the next one of its actor's writer; a copy of what the actor didn't ask
-- this node. And which are idle.
pub record SeesExactly (w : World) : Type 0 where
  pub begin : (actor : ℕ) (task : Task) → ((world_step w (Begin actor task)).seen ≡ NotNext)
      ↔ ((is_under_way (acting_at actor w).writer.phase ≡ true) ⊎ ((writer_begun (acting_at actor w).writer task).begun ≢ Going))
  pub call : (actor node : ℕ) (r : Request) (fate : Fate) → ((world_step w (Call actor node r fate)).seen ≡ NotNext)
      ↔ ((is_reading r ≡ false) × (next_call (acting_at actor w).writer ≢ Some (node, r)))
  pub late : (actor node : ℕ) (r : Request) (stop : Option ℕ) → ((world_step w (Late actor node r stop)).seen ≡ NotNext) ↔ (IsAmong node r (acting_at actor w).calls → ⊥)
  pub kill : (node : ℕ) → ((world_step w (Kill node)).seen ≡ Idle) ↔ ((cell_at node w).state.up ≡ false)
  pub restart : (node : ℕ) → ((world_step w (Restart node)).seen ≡ Idle) ↔ ((cell_at node w).state.up ≡ true)
  pub arm : (node calls : ℕ) (stop : Stop) → ((world_step w (Arm node calls stop)).seen ≡ Idle) ↔ ((cell_at node w).state.up ≡ false)

abbrev pub SeenExactly : Type 0
SeenExactly = (w : World) → SeesExactly w

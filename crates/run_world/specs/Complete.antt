-- When a takeover is bound to be taken: a majority of nodes stays up and answers each call that it
-- makes to them.
use Rattle.std.specs.Prelude.{◌≡◌, ◌≢◌, ℕ, ◌<◌, ◌⊎◌, true, false, List, [], ◌∷◌, ◌++◌}
use Rattle.journal_core.specs.Limits.{max_number}
use Rattle.journal_core.specs.declared.request.Request.{Request}
use Rattle.journal_core.specs.declared.refusal.Refusal.TheVariants.{EpochRefused, Limit}
use Rattle.journal_core.specs.declared.reply.Reply.{Reply}
use Rattle.journal_core.specs.declared.reply.Reply.TheVariants.{State, Refused}
use Rattle.journal_core.specs.declared.heard.Heard.TheVariants.{Answer, Silent}
use Rattle.writer_core.specs.declared.phase.Phase.TheVariants.{Writing}
use Rattle.writer_core.specs.declared.task.Task.TheVariants.{Takeover}
use Rattle.writer_core.specs.Views.{WriterView}
use Rattle.writer_core.specs.Writer.{writer_begun, is_under_way}
use Rattle.run_safety.specs.declared.event.Fate.{Fate}
use Rattle.run_safety.specs.declared.event.Event.{Event}
use Rattle.run_safety.specs.declared.event.Event.TheVariants.{Begin, Call, GiveUp}
use Rattle.run_world.specs.declared.seen.Seen.{Seen}
use Rattle.run_world.specs.declared.seen.Seen.TheVariants as seen
use Rattle.run_safety.specs.Majority.{Member, IsMajority}
use Rattle.run_world.specs.World.{World, new_world, cell_at, acting_at, is_reading, world_step, world_after, AreEvents}

-- no refusal by a higher promise or by a limit
abbrev pub IsHeeded : Reply → Type 0
IsHeeded (Refused (EpochRefused promised)) = ⊥
IsHeeded (Refused (Limit number)) = ⊥
IsHeeded _ = Unit {0}

-- the call was answered so; or it wasn't one, and nothing changed
abbrev pub IsAnswered : Seen → Type 0
IsAnswered (seen.Heard (Answer reply)) = IsHeeded reply
IsAnswered (seen.Heard Silent) = ⊥
IsAnswered _ = Unit {0}

-- a promise that was told is below 2 ^ 62
abbrev pub IsLow : Seen → Type 0
IsLow (seen.Heard (Answer (State promised))) = promised < max_number
IsLow _ = Unit {0}

-- the actor neither begins nor gives up
abbrev pub LetsRun : ℕ → Event → Type 0
LetsRun actor (Begin other task) = other ≢ actor
LetsRun actor (GiveUp other) = other ≢ actor
LetsRun actor _ = Unit {0}

-- These nodes are up when the event comes, and answer where it is a call of the actor to them.
pub record IsServed (actor : ℕ) (nodes : List ℕ) (w : World) (e : Event) : Type 0 where
  pub up : (node : ℕ) → Member node nodes → (cell_at node w).state.up ≡ true
  pub answered : (node : ℕ) (r : Request) (fate : Fate) → e ≡ Call actor node r fate → Member node nodes → is_reading r ≡ false → IsAnswered (world_step w e).seen
  pub low : (node : ℕ) (r : Request) (fate : Fate) → e ≡ Call actor node r fate → IsLow (world_step w e).seen
  pub runs : LetsRun actor e

unfoldable pub AreServed : ℕ → List ℕ → World → List Event → Type 0
AreServed actor nodes w [] = Unit {0}
AreServed actor nodes w (e ∷ es) = IsServed actor nodes w e × AreServed actor nodes (world_step w e).world es

-- a writer that has just begun a takeover
abbrev pub HasBegun : WriterView → Type 0
HasBegun v = (before : WriterView) × (v ≡ (writer_begun before Takeover).writer)

-- A takeover that one majority serves from its begin on is under way, or was taken: its writer
-- writes.
abbrev pub TakeoversComplete : Type 0
TakeoversComplete =
    (n actors actor : ℕ) (nodes : List ℕ) (before events : List Event) → AreEvents n actors (before ++ events) → IsMajority n nodes
    → HasBegun (acting_at actor (world_after (new_world n actors) before)).writer
    → AreServed actor nodes (world_after (new_world n actors) before) events
    → (is_under_way (acting_at actor (world_after (new_world n actors) (before ++ events))).writer.phase ≡ true)
    ⊎ ((acting_at actor (world_after (new_world n actors) (before ++ events))).writer.phase ≡ Writing)

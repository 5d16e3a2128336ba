-- A name node that begins with what it holds already, as the namespace of an image, or with
-- nothing; and what it has done since.
use Rattle.std.specs.Prelude.{ℕ, ◌≡◌, List, Option, Some, true}
use Rattle.journal_history.specs.declared.record.Record.{Record}
use Rattle.journal_history.specs.declared.mark.Mark.{Mark}
use Rattle.writer_core.specs.Writer.{new_writer}
use Rattle.ns_tree.specs.declared.end.LastSpace.{LastSpace}
use Rattle.play_names.specs.Holding.{Holding, Free}
use Rattle.play_calls.specs.Logs.{new_log}
use Rattle.play_model.specs.Lines.{Action}
use Rattle.play_model.specs.Actor.{Actor, wants, Rests, settle, IsLed, actor_after, last_of}
use Rattle.play_model.specs.KeptActor.{KeptActor, resting}
use Rattle.play_model.specs.Actions.{ActorView, kept_by, LedTo, IsIdleActor}

-- its writer has made no call, and it holds a namespace, of which nothing is under way
pub record IsBegun (nodes : ℕ) (v : ActorView) : Type 0 where
  pub writer : v.writer ≡ new_writer nodes
  pub holding : Holding
  pub holds : v.holds ≡ Some holding
  pub free : holding.work ≡ Free

-- with these actions before it, and nothing listed yet
abbrev pub begun_with : ActorView → ℕ → List Action → Actor
begun_with v nodes actions = settle actions (resting (kept_by v (new_log nodes true)))

-- they were taken, from the beginning on
pub record HasDoneFrom (v : ActorView) (nodes : ℕ) (actions : List Action) (k : KeptActor) : Type 0 where
  pub idle : IsIdleActor nodes k
  pub leads : LedTo (begun_with v nodes actions) (resting k)

-- The record is what it does by the answers in it, to its end, the plan has the marks that it sets,
-- and this is what it is left with.
pub record FollowsFrom (v : ActorView) (nodes : ℕ) (actions : List Action) (rs : List Record) (plan : List Mark) (last : Option LastSpace) : Type 0 where
  pub led : IsLed (begun_with v nodes actions) rs
  pub ended : wants (actor_after (begun_with v nodes actions) rs) ≡ Rests
  pub marks : plan ≡ (actor_after (begun_with v nodes actions) rs).marks
  pub end : last ≡ last_of (actor_after (begun_with v nodes actions) rs).holds

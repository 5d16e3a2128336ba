-- What contracts see of an actor, by what it is.
use Rattle.std.specs.Prelude.{ℕ, ◌≡◌, List, Some, None, true, false}
use Rattle.ns_edits.specs.Replay.{Image}
use Rattle.writer_core.specs.Writer.{new_writer, is_writing}
use Rattle.play_names.specs.Holding.{Holding, Free}
use Rattle.play_standby.specs.Standbys.{StandbyView, held}
use Rattle.play_model.specs.Actions.{ActorView}
use Rattle.play_actor.specs.Nodes.{NameView}
use Rattle.play_actor.specs.declared.script_actor.Kind.{Kind}
use Rattle.play_actor.specs.declared.script_actor.Kind.TheVariants as kind

abbrev pub seen_name : NameView → ActorView
seen_name node = record { writer = node.writer; holds = Some node.holding }

abbrev pub seen_kind : Kind → ActorView
seen_kind (kind.Raw writer) = record { writer = writer; holds = None }
seen_kind (kind.Named node) = record { writer = node.writer; holds = Some node.holding }
seen_kind kind.Spent = record { writer = new_writer 0; holds = None }

-- one that begins as a standby which stands here, with these images
abbrev pub begun_actor : ℕ → List Image → StandbyView → ActorView
begun_actor nodes images s = record { writer = new_writer nodes; holds = Some (held images s) }

-- it is this standby, with some images
pub record IsStandbyAt (a : ActorView) (s : StandbyView) : Type 0 where
  pub images : List Image
  pub holds : a.holds ≡ Some (held images s)
  pub rests : is_writing a.writer.phase ≡ false

-- it is active: it holds an open segment of this epoch, and met no bad entry
pub record IsActiveIn (a : ActorView) (epoch : ℕ) : Type 0 where
  pub holding : Holding
  pub holds : a.holds ≡ Some holding
  pub free : holding.work ≡ Free
  pub opened : is_writing a.writer.phase ≡ true
  pub epoch_is : a.writer.epoch ≡ epoch

-- it isn't
abbrev pub IsNotActive : ActorView → Type 0
IsNotActive a = (epoch : ℕ) → IsActiveIn a epoch → ⊥

-- it is none
abbrev pub IsNoStandby : ActorView → Type 0
IsNoStandby a = (s : StandbyView) → IsStandbyAt a s → ⊥

-- A name node of a script: what contracts see of it, and what is kept of it with its log.
use Rattle.std.specs.Prelude.{ℕ, ◌≡◌, List, [], Bool, true, false, Some}
use Rattle.ns_edits.specs.Replay.{Image}
use Rattle.writer_core.specs.Views.{WriterView}
use Rattle.writer_core.specs.Writer.{new_writer, is_writing}
use Rattle.play_names.specs.Holding.{Holding, Broken, new_holding, with_work, reload_image}
use Rattle.play_names.specs.declared.tailed.Tailed.{Tailed}
use Rattle.play_names.specs.declared.tailed.Tailed.TheVariants as tailed
use Rattle.play_standby.specs.Standbys.{StandbyView, empty_standby, held}
use Rattle.play_standby.specs.Actives.{ActiveView, is_open}
use Rattle.play_calls.specs.Logs.{LogView}
use Rattle.play_model.specs.KeptActor.{KeptActor}
use Rattle.play_model.specs.Actions.{kept_of}

pub record NameView : Type 0 where
  pub writer : WriterView
  pub holding : Holding

abbrev pub new_name : ℕ → NameView
new_name nodes = record { writer = new_writer nodes; holding = new_holding }

-- it begins as a standby that stands here, with these images
abbrev pub begun_name : ℕ → List Image → StandbyView → NameView
begun_name nodes images s = record { writer = new_writer nodes; holding = held images s }

-- it is this standby, with some images
pub record RestsAt (n : NameView) (s : StandbyView) : Type 0 where
  pub images : List Image
  pub holding : n.holding ≡ held images s
  pub rests : is_writing n.writer.phase ≡ false

-- it is no standby: it holds an open segment, or met a bad entry
abbrev pub RestsNowhere : NameView → Type 0
RestsNowhere n = (s : StandbyView) → RestsAt n s → ⊥

-- ## An active one
-- it holds an open segment, no edit pends, and no round was aborted
pub record IsServing (a : ActiveView) : Type 0 where
  pub opened : is_open a ≡ true
  pub none : a.bodies ≡ []
  pub whole : a.whole ≡ true

-- its namespace, where no edit pends
abbrev pub standing : ActiveView → StandbyView
standing a = record { space = a.ahead; position = a.position }

-- ## With its log
abbrev pub kept_node : NameView → LogView → KeptActor
kept_node node log = kept_of node.writer (Some node.holding) log

abbrev pub kept_resting : WriterView → List Image → StandbyView → LogView → KeptActor
kept_resting w images s log = kept_of w (Some (held images s)) log

abbrev pub kept_active : List Image → ActiveView → LogView → KeptActor
kept_active images a log = kept_of a.writer (Some (held images (standing a))) log

-- ## What is held then
-- after a round: an active one goes on, and one that isn't begins again from its newest image
abbrev pub held_after : Bool → List Image → ActiveView → Holding
held_after true images a = held images (standing a)
held_after false images a = reload_image (held images empty_standby)

-- after a tail
abbrev pub is_bad_entry : Tailed → Bool
is_bad_entry (tailed.BadEntry txid) = true
is_bad_entry _ = false

abbrev pub broken_if : Bool → Holding → Holding
broken_if true h = with_work Broken h
broken_if false h = h

-- What a takeover leaves and says, by its answer.
use Rattle.std.specs.Prelude.{ℕ, ◌≡◌, List, [], ◌∷◌, codes, false}
use Rattle.ns_edits.specs.Replay.{Image}
use Rattle.writer_core.specs.Views.{WriterView}
use Rattle.writer_core.specs.Writer.{is_writing}
use Rattle.play_names.specs.Holding.{Holding, Broken, with_work, reload_image}
use Rattle.play_names.specs.Results.{word, took}
use Rattle.play_names.specs.ResultLists.{aborted_text, behind_text}
use Rattle.play_standby.specs.Standbys.{held}
use Rattle.play_standby.specs.declared.entered.Entered.{Entered}
use Rattle.play_standby.specs.declared.entered.Entered.TheVariants as entered
use Rattle.play_actor.specs.Nodes.{IsServing, standing}

abbrev pub texts_entered : Entered → List (List ℕ)
texts_entered (entered.Active active epoch first) = took epoch first ∷ []
texts_entered (entered.Aborted writer standby causes) = aborted_text (codes "takeover ") causes ∷ []
texts_entered (entered.EpochLimit writer standby told) = word (codes "takeover limit") told ∷ []
texts_entered (entered.Behind writer standby txid causes) = behind_text (codes "takeover behind") txid causes ∷ []
texts_entered (entered.Purged writer standby first) = word (codes "takeover purged") first ∷ []
texts_entered (entered.BadEntry writer standby txid) = []
texts_entered (entered.OutOfMemory writer standby) = []

abbrev pub writer_entered : Entered → WriterView
writer_entered (entered.Active active epoch first) = active.writer
writer_entered (entered.Aborted writer standby causes) = writer
writer_entered (entered.EpochLimit writer standby told) = writer
writer_entered (entered.Behind writer standby txid causes) = writer
writer_entered (entered.Purged writer standby first) = writer
writer_entered (entered.BadEntry writer standby txid) = writer
writer_entered (entered.OutOfMemory writer standby) = writer

abbrev pub holding_entered : List Image → Entered → Holding
holding_entered images (entered.Active active epoch first) = held images (standing active)
holding_entered images (entered.Aborted writer standby causes) = reload_image (held images standby)
holding_entered images (entered.EpochLimit writer standby told) = held images standby
holding_entered images (entered.Behind writer standby txid causes) = held images standby
holding_entered images (entered.Purged writer standby first) = held images standby
holding_entered images (entered.BadEntry writer standby txid) = with_work Broken (held images standby)
holding_entered images (entered.OutOfMemory writer standby) = held images standby

-- an active one holds an open segment, and a standby none
abbrev pub StandsSo : Entered → Type 0
StandsSo (entered.Active active epoch first) = IsServing active
StandsSo (entered.Aborted writer standby causes) = is_writing writer.phase ≡ false
StandsSo (entered.EpochLimit writer standby told) = is_writing writer.phase ≡ false
StandsSo (entered.Behind writer standby txid causes) = is_writing writer.phase ≡ false
StandsSo (entered.Purged writer standby first) = is_writing writer.phase ≡ false
StandsSo (entered.BadEntry writer standby txid) = Unit {0}
StandsSo (entered.OutOfMemory writer standby) = Unit {0}

-- What contracts see of a name node, by what it is.
use Rattle.std.specs.Prelude.{◌≡◌, List, false}
use Rattle.ns_edits.specs.Replay.{Image}
use Rattle.writer_core.specs.Views.{WriterView}
use Rattle.writer_core.specs.Writer.{is_writing}
use Rattle.play_names.specs.Holding.{Holding, Broken, with_work}
use Rattle.play_standby.specs.Standbys.{held}
use Rattle.play_actor.specs.declared.role.Role.{Role}
use Rattle.play_actor.specs.declared.role.Role.TheVariants as role
use Rattle.play_actor.specs.Nodes.{IsServing, standing}

abbrev pub writer_in : Role → WriterView
writer_in (role.Standby rest) = rest.writer
writer_in (role.Active a) = a.writer
writer_in (role.Broken rest) = rest.writer

abbrev pub holding_in : List Image → Role → Holding
holding_in images (role.Standby rest) = held images rest.standby
holding_in images (role.Active a) = held images (standing a)
holding_in images (role.Broken rest) = with_work Broken (held images rest.standby)

abbrev pub StandsIn : Role → Type 0
StandsIn (role.Standby rest) = is_writing rest.writer.phase ≡ false
StandsIn (role.Active a) = IsServing a
StandsIn (role.Broken rest) = Unit {0}

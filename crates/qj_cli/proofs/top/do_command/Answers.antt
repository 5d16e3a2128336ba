use Rattle.std.proofs.Common.{refl, subst}
use Rattle.cli_commands.specs.Commands.{asked_in, IsAllowed}
use Rattle.cli_commands.specs.declared.command.Command.TheVariants as command
use Rattle.cli_commands.specs.Uses.{read_from, written_to, done_to}
use Rattle.qj_cli.proofs.CompleteLaws.{does_as}
use Rattle.qj_cli.proofs.top.do_command.Goals as goal

pub returns-in-Play-clause-done : goal.returns-in-Play-clause-done
returns-in-Play-clause-done g c =
    does_as c.args.command command.Play (read_from g.S.Source.left g.S.Source.faults c.args.source.now c.play_script.new.source)
    (written_to g.K.Sink.taken g.K.Sink.faults g.K.Sink.kept_back c.args.sink.now c.play_script.new.sink)
    (done_to g.D.DiskModel.tells g.D.DiskModel.view g.D.DiskModel.faults g.D.DiskModel.steady g.D.DiskModel.left c.args.disk c.args.disk)
    c.play_script.result c.in-Play.is (c.play_script.ensures, refl)

pub returns-in-Judge-clause-done : goal.returns-in-Judge-clause-done
returns-in-Judge-clause-done g c =
    does_as c.args.command command.Judge (read_from g.S.Source.left g.S.Source.faults c.args.source.now c.judge_report.new.source)
    (written_to g.K.Sink.taken g.K.Sink.faults g.K.Sink.kept_back c.args.sink.now c.judge_report.new.sink)
    (done_to g.D.DiskModel.tells g.D.DiskModel.view g.D.DiskModel.faults g.D.DiskModel.steady g.D.DiskModel.left c.args.disk c.args.disk)
    c.judge_report.result c.in-Judge.is (c.judge_report.ensures, refl)

pub returns-in-States-clause-done : goal.returns-in-States-clause-done
returns-in-States-clause-done g c =
    does_as c.args.command command.States (read_from g.S.Source.left g.S.Source.faults c.args.source.now c.tell_report.new.source)
    (written_to g.K.Sink.taken g.K.Sink.faults g.K.Sink.kept_back c.args.sink.now c.tell_report.new.sink)
    (done_to g.D.DiskModel.tells g.D.DiskModel.view g.D.DiskModel.faults g.D.DiskModel.steady g.D.DiskModel.left c.args.disk c.args.disk)
    c.tell_report.result c.in-States.is (c.tell_report.ensures, refl)

pub returns-in-Gen-clause-done : goal.returns-in-Gen-clause-done
returns-in-Gen-clause-done g c =
    does_as c.args.command (command.Gen c.in-Gen.number c.in-Gen.edits c.in-Gen.nodes) (read_from g.S.Source.left g.S.Source.faults c.args.source.now c.args.source.now)
    (written_to g.K.Sink.taken g.K.Sink.faults g.K.Sink.kept_back c.args.sink.now c.play_generated.new.sink)
    (done_to g.D.DiskModel.tells g.D.DiskModel.view g.D.DiskModel.faults g.D.DiskModel.steady g.D.DiskModel.left c.args.disk c.args.disk)
    c.play_generated.result c.in-Gen.is (c.play_generated.ensures, refl)

pub play_generated-requires : goal.play_generated-requires
play_generated-requires g c = subst (λ x. IsAllowed (asked_in x)) c.in-Gen.is c.requires

pub list_file-status-requires : goal.list_file-status-requires
list_file-status-requires g c = subst (λ x. IsAllowed (asked_in x)) c.in-Listing.is c.requires

pub returns-in-Mirror-clause-done : goal.returns-in-Mirror-clause-done
returns-in-Mirror-clause-done g c =
    does_as c.args.command command.Mirror (read_from g.S.Source.left g.S.Source.faults c.args.source.now c.mirror_script.new.source)
    (written_to g.K.Sink.taken g.K.Sink.faults g.K.Sink.kept_back c.args.sink.now c.mirror_script.new.sink)
    (done_to g.D.DiskModel.tells g.D.DiskModel.view g.D.DiskModel.faults g.D.DiskModel.steady g.D.DiskModel.left c.args.disk c.args.disk)
    c.mirror_script.result c.in-Mirror.is (c.mirror_script.ensures, refl)

pub returns-in-Boot-clause-done : goal.returns-in-Boot-clause-done
returns-in-Boot-clause-done g c =
    does_as c.args.command command.Boot (read_from g.S.Source.left g.S.Source.faults c.args.source.now c.boot_script.new.source)
    (written_to g.K.Sink.taken g.K.Sink.faults g.K.Sink.kept_back c.args.sink.now c.boot_script.new.sink)
    (done_to g.D.DiskModel.tells g.D.DiskModel.view g.D.DiskModel.faults g.D.DiskModel.steady g.D.DiskModel.left c.args.disk c.args.disk)
    c.boot_script.result c.in-Boot.is (c.boot_script.ensures, refl)

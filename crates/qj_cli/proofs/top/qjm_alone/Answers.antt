use Rattle.std.proofs.Common.{refl, sym, subst, ◌∙◌}
use Rattle.std.proofs.lemmas.Result.{IfOk-weaker, IfErr-weaker}
use Rattle.play_script.proofs.ScriptLaws.{breaks_no_rule}
use Rattle.cli_commands.specs.Commands.{asked_in}
use Rattle.cli_commands.specs.Usage.{bytes_of}
use Rattle.cli_commands.specs.Uses.{read_from, written_to, done_to}
use Rattle.qj_cli.specs.Does.{ReadsNone, NeedsThreads}
use Rattle.cli_commands.proofs.WordLaws.{one_command, right_words}
use Rattle.qj_cli.proofs.CompleteLaws.{completes, does_for, refused, no_exit}
use Rattle.qj_cli.proofs.top.qjm_alone.Goals as goal

pub returns-in-Ok-clause-refused : goal.returns-in-Ok-clause-refused
returns-in-Ok-clause-refused g c = λ place e. absurd (right_words (bytes_of c.args.words.now) (asked_in c.in-Ok.command) place c.in-Ok.ensures e)

pub returns-in-Ok-clause-refused_unread : goal.returns-in-Ok-clause-refused_unread
returns-in-Ok-clause-refused_unread g c = λ place e. absurd (right_words (bytes_of c.args.words.now) (asked_in c.in-Ok.command) place c.in-Ok.ensures e)

pub returns-in-Ok-clause-done : goal.returns-in-Ok-clause-done
returns-in-Ok-clause-done g c =
    let source = read_from g.S.Source.left g.S.Source.faults c.args.source.now c.do_command.new.source in
    let sink = written_to g.K.Sink.taken g.K.Sink.faults g.K.Sink.kept_back c.args.sink.now c.do_command.new.sink in
    λ asked e.
    IfOk-weaker c.do_command.result _ _
    (λ exit does. does_for (bytes_of c.args.words.now) (asked_in c.in-Ok.command) asked source sink
    (done_to g.D.DiskModel.tells g.D.DiskModel.view g.D.DiskModel.faults g.D.DiskModel.steady g.D.DiskModel.left c.args.disk exit.disk) exit.status c.in-Ok.ensures e does)
    c.do_command.ensures.done

pub returns-in-Ok-clause-unread : goal.returns-in-Ok-clause-unread
returns-in-Ok-clause-unread g c =
    λ asked e none. c.do_command.ensures.unread (subst ReadsNone (sym (one_command (bytes_of c.args.words.now) (asked_in c.in-Ok.command) asked c.in-Ok.ensures e)) none)

pub returns-in-Ok-clause-complete : goal.returns-in-Ok-clause-complete
returns-in-Ok-clause-complete g c =
    let source = read_from g.S.Source.left g.S.Source.faults c.args.source.now c.do_command.new.source in
    let sink = written_to g.K.Sink.taken g.K.Sink.faults g.K.Sink.kept_back c.args.sink.now c.do_command.new.sink in
    λ asked e.
    IfOk-weaker c.do_command.result _ _
    (λ exit does.
    let disk = done_to g.D.DiskModel.tells g.D.DiskModel.view g.D.DiskModel.faults g.D.DiskModel.steady g.D.DiskModel.left c.args.disk exit.disk in
    completes asked source sink disk exit.status breaks_no_rule (does_for (bytes_of c.args.words.now) (asked_in c.in-Ok.command) asked source sink disk exit.status c.in-Ok.ensures e does))
    c.do_command.ensures.done

pub returns-in-Ok-clause-tells : goal.returns-in-Ok-clause-tells
returns-in-Ok-clause-tells g c = c.do_command.ensures.tells

pub returns-in-Ok-clause-threads : goal.returns-in-Ok-clause-threads
returns-in-Ok-clause-threads g c =
    IfErr-weaker c.do_command.result _ _ (λ left h. ((asked_in c.in-Ok.command, h.0, c.in-Ok.ensures), h.1, h.2, h.3)) c.do_command.ensures.threads

pub returns-in-Ok-clause-alone : goal.returns-in-Ok-clause-alone
returns-in-Ok-clause-alone g c =
    λ asked needs asks.
    no_exit c.do_command.result
    (IfOk-weaker c.do_command.result _ _ (λ exit no. no (subst NeedsThreads
    (one_command (bytes_of c.args.words.now) asked (asked_in c.in-Ok.command) asks c.in-Ok.ensures) needs)) c.do_command.ensures.alone)

pub returns-in-Err-clause-refused : goal.returns-in-Err-clause-refused
returns-in-Err-clause-refused g c =
    λ place e.
    refused c.in-Err.place place (written_to g.K.Sink.taken g.K.Sink.faults g.K.Sink.kept_back c.args.sink.now c.write_fault.new.sink)
    (done_to g.D.DiskModel.tells g.D.DiskModel.view g.D.DiskModel.faults g.D.DiskModel.steady g.D.DiskModel.left c.args.disk c.args.disk) c.write_fault.result
    (sym c.in-Err.ensures ∙ e) (c.write_fault.ensures, refl)

pub returns-in-Err-clause-refused_unread : goal.returns-in-Err-clause-refused_unread
returns-in-Err-clause-refused_unread g c = λ place e. refl

pub returns-in-Err-clause-done : goal.returns-in-Err-clause-done
returns-in-Err-clause-done g c = λ asked e. absurd (right_words (bytes_of c.args.words.now) asked c.in-Err.place e c.in-Err.ensures)

pub returns-in-Err-clause-unread : goal.returns-in-Err-clause-unread
returns-in-Err-clause-unread g c = λ asked e. absurd (right_words (bytes_of c.args.words.now) asked c.in-Err.place e c.in-Err.ensures)

pub returns-in-Err-clause-complete : goal.returns-in-Err-clause-complete
returns-in-Err-clause-complete g c = λ asked e. absurd (right_words (bytes_of c.args.words.now) asked c.in-Err.place e c.in-Err.ensures)

pub returns-in-Err-clause-tells : goal.returns-in-Err-clause-tells
returns-in-Err-clause-tells g c = ((λ t. t), (λ t. t))

pub returns-in-Err-clause-alone : goal.returns-in-Err-clause-alone
returns-in-Err-clause-alone g c = λ asked needs asks. absurd (right_words (bytes_of c.args.words.now) asked c.in-Err.place asks c.in-Err.ensures)

pub do_command-requires : goal.do_command-requires
do_command-requires g c = c.in-Ok.ensures.allowed

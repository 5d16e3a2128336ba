use Rattle.std.proofs.Common.{subst, sym}
use Rattle.play_script.proofs.ScriptLaws.{breaks_no_rule}
use Rattle.cli_commands.specs.Usage.{bytes_of}
use Rattle.cli_commands.specs.Uses.{read_from, written_to, done_to}
use Rattle.qj_cli.specs.Does.{ReadsNone, ByThreads}
use Rattle.cli_commands.proofs.WordLaws.{one_command, right_words}
use Rattle.qj_cli.proofs.CompleteLaws.{completes, does_for, does_by_threads, reads_some}
use Rattle.qj_cli.proofs.top.qjm.Goals as goal

pub returns-in-Err-clause-refused : goal.returns-in-Err-clause-refused
returns-in-Err-clause-refused g c =
    λ place e. absurd (right_words (bytes_of c.args.words.now) c.in-Err.ensures.threads.0.0 place c.in-Err.ensures.threads.0.2 e)

pub returns-in-Err-clause-refused_unread : goal.returns-in-Err-clause-refused_unread
returns-in-Err-clause-refused_unread g c =
    λ place e. absurd (right_words (bytes_of c.args.words.now) c.in-Err.ensures.threads.0.0 place c.in-Err.ensures.threads.0.2 e)

pub returns-in-Err-clause-done : goal.returns-in-Err-clause-done
returns-in-Err-clause-done g c =
    let source = read_from g.S.Source.left g.S.Source.faults c.args.source.now c.play_by_threads.new.source in
    let sink = written_to g.K.Sink.taken g.K.Sink.faults g.K.Sink.kept_back c.args.sink.now c.play_by_threads.new.sink in
    let disk = done_to g.D.DiskModel.tells g.D.DiskModel.view g.D.DiskModel.faults g.D.DiskModel.steady g.D.DiskModel.left c.args.disk c.in-Err.disk in
    let by = c.play_by_threads.ensures in
    let s = c.play_by_threads.result in
    let plays : ByThreads by.0 source sink s =
    subst (λ k. ByThreads by.0 source (written_to g.K.Sink.taken g.K.Sink.faults g.K.Sink.kept_back k c.play_by_threads.new.sink) s) c.in-Err.ensures.threads.3
    (subst (λ z. ByThreads by.0 (read_from g.S.Source.left g.S.Source.faults z c.play_by_threads.new.source)
    (written_to g.K.Sink.taken g.K.Sink.faults g.K.Sink.kept_back c.qjm_alone.new.sink c.play_by_threads.new.sink) s) c.in-Err.ensures.threads.2 by.3) in
    λ asked e. does_for (bytes_of c.args.words.now) by.0 asked source sink disk s by.2 e (does_by_threads by.0 source sink disk s plays c.in-Err.ensures.threads.1)

pub returns-in-Err-clause-unread : goal.returns-in-Err-clause-unread
returns-in-Err-clause-unread g c =
    let by = c.in-Err.ensures.threads.0 in
    λ asked e none. absurd (reads_some by.0 by.1 (subst ReadsNone (one_command (bytes_of c.args.words.now) asked by.0 e by.2) none))

pub returns-in-Err-clause-complete : goal.returns-in-Err-clause-complete
returns-in-Err-clause-complete g c =
    let source = read_from g.S.Source.left g.S.Source.faults c.args.source.now c.play_by_threads.new.source in
    let sink = written_to g.K.Sink.taken g.K.Sink.faults g.K.Sink.kept_back c.args.sink.now c.play_by_threads.new.sink in
    let disk = done_to g.D.DiskModel.tells g.D.DiskModel.view g.D.DiskModel.faults g.D.DiskModel.steady g.D.DiskModel.left c.args.disk c.in-Err.disk in
    λ asked e. completes asked source sink disk c.play_by_threads.result breaks_no_rule (returns-in-Err-clause-done g c asked e)

pub returns-in-Err-clause-tells : goal.returns-in-Err-clause-tells
returns-in-Err-clause-tells g c = subst (λ d. (g.D.DiskModel.tells c.args.disk → g.D.DiskModel.tells d)
    × (g.D.DiskModel.tells d → g.D.DiskModel.tells c.args.disk)) (sym c.in-Err.ensures.threads.1) ((λ t. t), (λ t. t))

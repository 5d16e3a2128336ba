use Rattle.std.proofs.Common.{ℕ, List, subst}
use Rattle.cli_commands.specs.Told.{TellsText, wrote_text, told_fault}
use Rattle.cli_commands.specs.Uses.{written_to}
use Rattle.qj_cli.proofs.telling.tell_report.Goals as goal

pub returns-in-Ok : goal.returns-in-Ok
returns-in-Ok g c =
    wrote_text c.in-Ok.due.status c.in-Ok.due.text.items c.in-Ok.ensures.due (subst
    (λ (text : List ℕ). TellsText c.in-Ok.due.status text c.write_text.result (written_to g.K.Sink.taken g.K.Sink.faults g.K.Sink.kept_back c.args.sink.now c.write_text.new.sink))
    c.deref.ensures.value c.write_text.ensures)

pub returns-in-Err : goal.returns-in-Err
returns-in-Err g c = told_fault c.in-Err.fault c.in-Err.ensures.fault c.write_fault.ensures

use Rattle.std.proofs.Common.{subst}
use Rattle.cli_commands.specs.Told.{TellsFault, told_fault}
use Rattle.cli_commands.specs.Uses.{written_to}
use Rattle.qj_cli.proofs.WriteLaws.{told_written}
use Rattle.qj_cli.proofs.piping.pipe_script.Goals as goal

pub returns-in-Ok : goal.returns-in-Ok
returns-in-Ok g c = told_written _ _ _ (written_to g.K.Sink.taken g.K.Sink.faults g.K.Sink.kept_back c.args.sink.now c.pipe_source.new.sink) c.in-Ok.ensures.text

pub returns-in-Err : goal.returns-in-Err
returns-in-Err g c =
    told_fault c.in-Err.fault c.in-Err.ensures.fault
    (subst (λ k. TellsFault c.in-Err.fault c.write_fault.result (written_to g.K.Sink.taken g.K.Sink.faults g.K.Sink.kept_back k c.write_fault.new.sink))
    c.in-Err.ensures.still c.write_fault.ensures)

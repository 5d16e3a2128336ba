use Rattle.std.proofs.Common.{refl}
use Rattle.std.proofs.lemmas.Result.{IfErr-weaker}
use Rattle.cli_commands.specs.Uses.{written_to}
use Rattle.qj_cli.proofs.PipeLaws.{piped_report, piped_fault}
use Rattle.qj_cli.proofs.WriteLaws.{writes}
use Rattle.qj_cli.proofs.piping.pipe_source.Goals as goal

pub returns-clause-text : goal.returns-clause-text
returns-clause-text g c =
    writes c.write_played.result _ _ _ (written_to g.K.Sink.taken g.K.Sink.faults g.K.Sink.kept_back c.args.sink.now c.write_played.new.sink)
    (λ within. piped_report _ c.in_ok-script.script c.in-Ok.played.mesh c.in-Ok.played.ends _ c.in_ok-script.ensures.script c.in-Ok.ensures refl within)
    c.write_played.ensures.text c.write_played.ensures.within

pub returns-clause-fault : goal.returns-clause-fault
returns-clause-fault g c =
    IfErr-weaker c.write_played.result _ _
    (λ of is. piped_fault _ c.in_ok-script.script c.in-Ok.played.mesh c.in-Ok.played.ends of c.in_ok-script.ensures.script c.in-Ok.ensures is)
    c.write_played.ensures.fault

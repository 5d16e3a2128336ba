use Rattle.std.proofs.Common.{refl}
use Rattle.std.proofs.lemmas.Result.{IfErr-weaker}
use Rattle.cli_commands.specs.Uses.{written_to}
use Rattle.qj_cli.proofs.BootDueLaws.{gives_booted, text_fault}
use Rattle.qj_cli.proofs.WriteLaws.{writes}
use Rattle.qj_cli.proofs.booting.boot_source.Goals as goal

pub returns-in-Ok-clause-text : goal.returns-in-Ok-clause-text
returns-in-Ok-clause-text g c =
    writes c.write_booted.result _ _ _ (written_to g.K.Sink.taken g.K.Sink.faults g.K.Sink.kept_back c.args.sink.now c.write_booted.new.sink)
    (λ within. gives_booted _ c.in_ok-script.script c.in-Ok.booted c.in_ok-script.ensures.script c.in-Ok.ensures.boots c.in-Ok.ensures.may _ refl within.0 within.1)
    c.write_booted.ensures.text c.write_booted.ensures.within

pub returns-in-Ok-clause-fault : goal.returns-in-Ok-clause-fault
returns-in-Ok-clause-fault g c =
    IfErr-weaker c.write_booted.result _ _
    (λ of is. text_fault _ c.in_ok-script.script c.in-Ok.booted c.in_ok-script.ensures.script c.in-Ok.ensures.boots c.in-Ok.ensures.may of is)
    c.write_booted.ensures.fault

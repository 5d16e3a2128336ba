use Rattle.std.proofs.Common.{sym, ◌∙◌}
use Rattle.std.proofs.lemmas.Result.{IfOk-weaker, IfErr-weaker}
use Rattle.play_script.specs.Grammar.{IsScriptText}
use Rattle.qj_cli.specs.Plays.{IsTextFault}
use Rattle.qj_cli.specs.Boots.{IsNamesFault}
use Rattle.qj_cli.proofs.BootLaws.{names_fault}
use Rattle.qj_cli.proofs.booting.names_script_of_bytes.Goals as goal

pub returns-in-None-clause-script : goal.returns-in-None-clause-script
returns-in-None-clause-script c =
    IfOk-weaker c.script_of_bytes.result (λ script. IsScriptText c.args.bytes.now script) _
    (λ script is. (is, c.others_have_names.ensures c.args.bytes.now script is (sym c.raw_line.ensures ∙ c.in-None.is))) c.script_of_bytes.ensures.script

pub returns-in-None-clause-fault : goal.returns-in-None-clause-fault
returns-in-None-clause-fault c =
    IfErr-weaker c.script_of_bytes.result (IsTextFault c.args.bytes.now) (IsNamesFault c.args.bytes.now)
    (λ fault is. names_fault c.args.bytes.now fault (sym c.raw_line.ensures ∙ c.in-None.is) is) c.script_of_bytes.ensures.fault

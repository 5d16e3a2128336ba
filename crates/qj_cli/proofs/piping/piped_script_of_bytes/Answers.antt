use Rattle.qj_cli.proofs.PipeLaws.{carried, not_carried}
use Rattle.qj_cli.proofs.piping.piped_script_of_bytes.Goals as goal

pub returns-in-None-clause-script : goal.returns-in-None-clause-script
returns-in-None-clause-script c = (
  c.in-Ok.ensures.script,
  carried c.args.bytes.now c.in-Ok.script c.pipe_line-other.result c.pipe_line-other.ensures c.in-None.is c.in-Ok.ensures.script,
)

pub returns-in-Ok-clause-fault : goal.returns-in-Ok-clause-fault
returns-in-Ok-clause-fault c =
    not_carried c.args.bytes.now c.in-Ok.script c.pipe_line-other.result c.in-Some.line c.in-Some.rule c.pipe_line-other.ensures c.in-Some.is c.in-Ok.ensures.script

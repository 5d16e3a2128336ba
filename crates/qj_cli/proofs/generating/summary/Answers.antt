use Rattle.qj_cli.proofs.ReportLaws.{summed}
use Rattle.qj_cli.proofs.generating.summary.Goals as goal

pub returns : goal.returns
returns c =
    summed c.args.number c.args.edits c.args.nodes c.in_ok-text.text.items c.in_ok-script.script c.in_ok-played.played.mesh c.in_ok-played.played.ends c.in_ok-script.ensures.generated
    c.in_ok-played.ensures.comes c.in_ok-text.ensures

use Rattle.report_judge.specs.Places.{AreOf}
use Rattle.report_judge.proofs.FrontLaws.{begins, none_of}
use Rattle.report_judge.proofs.fronts.made_lines.Goals as goal

pub loop-broken-init : goal.loop-broken-init
loop-broken-init c = begins (AreOf c.args.caller c.args.nodes) c.args.lines.now (none_of c.args.caller c.args.nodes) c.requires

use Rattle.journal_step.proofs.DecisionLaws.{decided_by}
use Rattle.journal_step.proofs.deciding.decide.Goals as goal

pub returns : goal.returns
returns g c = decided_by c.args.numbers.now (g.I.SegmentIndex.found c.args.index.now) c.args.request.now c.decide_by.result c.requires c.decide_by.ensures

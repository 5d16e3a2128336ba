use Rattle.disk_opening.proofs.ToldLemmas.{no_way_file}
use Rattle.disk_opening.proofs.settling.way_named.Goals as goal

pub returns-in_default : goal.returns-in_default
returns-in_default c = no_way_file c.args.name.now c.in-Some.start c.in-Some.kind c.in-Some.ensures c.in_default.not-UnderWay

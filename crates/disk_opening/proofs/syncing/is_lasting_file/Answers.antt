use Rattle.disk_opening.specs.Kinds.{kind_told}
use Rattle.disk_opening.proofs.ToldLemmas.{lasting_file, no_lasting_file}
use Rattle.disk_opening.proofs.syncing.is_lasting_file.Goals as goal

pub returns-in-Some : goal.returns-in-Some
returns-in-Some c = lasting_file c.args.name.now c.in-Some._start (kind_told c.in-Some.kind) c.is_lasting.result c.in-Some.ensures c.is_lasting.ensures

pub returns-in-None : goal.returns-in-None
returns-in-None c = no_lasting_file c.args.name.now c.in-None.ensures

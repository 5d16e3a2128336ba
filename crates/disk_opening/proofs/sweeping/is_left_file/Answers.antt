use Rattle.disk_opening.specs.Kinds.{kind_told}
use Rattle.disk_opening.proofs.ToldLemmas.{left_file}
use Rattle.disk_opening.proofs.sweeping.is_left_file.Goals as goal

pub returns-in-Some : goal.returns-in-Some
returns-in-Some c = left_file c.args.finals.now c.args.name.now c.in-Some.start (kind_told c.in-Some.kind) c.is_left_kind.result c.in-Some.ensures c.is_left_kind.ensures

use Rattle.std.proofs.Common.{ap, rules}
use Rattle.std.specs.Prelude.{Some}
use Rattle.base_disk.specs.FileView.{FileView}
use Rattle.base_disk.proofs.Maps.{sets_file, sets_to}
use Rattle.base_disk.proofs.file_map.exchange.Goals as goal

pub returns-in-Some-clause-set : goal.returns-in-Some-clause-set
returns-in-Some-clause-set c = λ _.
    sets_to c.args.name.now (Some c.replace.new.dest) (Some c.args.by) _ _
    (sets_file c.args.name.now c.args.files.now (c.get_mut.follows.lender c.replace.new.dest) (Some c.replace.new.dest) ((c.get_mut.follows.holds c.replace.new.dest).3 (search rules)))
    (ap (λ (f : FileView). Some f) c.replace.ensures.after)

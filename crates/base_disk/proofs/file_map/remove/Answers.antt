use Rattle.std.specs.Prelude.{None}
use Rattle.base_disk.proofs.Maps.{sets_file}
use Rattle.base_disk.proofs.file_map.remove.Goals as goal

pub returns : goal.returns
returns c = sets_file c.args.name.now c.args.files.now c.remove.new.self None c.remove.ensures.updates

use Rattle.std.proofs.Common.{rules}
use Rattle.base_files.proofs.PutsLemmas.{one_cut}
use Rattle.disk_segment.proofs.discarding.remove_file.Goals as goal

pub returns-clause-cut : goal.returns-clause-cut
returns-clause-cut g c = one_cut _ _ _ _ (g.D.DiskModel.view c.args.disk.now) (g.D.DiskModel.view c.remove.new.self) c.remove.result (search rules) c.remove.ensures.budget

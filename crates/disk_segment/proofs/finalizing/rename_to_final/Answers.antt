use Rattle.std.proofs.Common.{rules}
use Rattle.base_files.proofs.PutsLemmas.{one_cut}
use Rattle.disk_segment.proofs.finalizing.rename_to_final.Goals as goal

pub returns-clause-cut : goal.returns-clause-cut
returns-clause-cut g c = one_cut _ _ _ _ (g.D.DiskModel.view c.args.disk.now) (g.D.DiskModel.view c.rename.new.self) c.rename.result (search rules) c.rename.ensures.budget

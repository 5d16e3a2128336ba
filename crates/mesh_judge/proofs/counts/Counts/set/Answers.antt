use Rattle.mesh_judge.proofs.KeyLaws.{count_set}
use Rattle.mesh_judge.proofs.counts.Counts.set.Goals as goal

pub returns : goal.returns
returns c = count_set c.args.self.now (record { counts = c.insert.new.self }) c.args.key c.args.count c.in_ok-insert.ensures.entries

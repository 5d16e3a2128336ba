use Rattle.std.proofs.Common.{refl}
use Rattle.disk_segment.proofs.AcceptLemmas.{record_effect, record_cut, record_absent}
use Rattle.disk_segment.proofs.accepting.put_record.Goals as goal

pub put-requires-clause-absent : goal.put-requires-clause-absent
put-requires-clause-absent g c = λ t. record_absent c.args.batch.now.first c.first.result (g.D.DiskModel.view c.args.disk.now) c.first.ensures (c.requires.absent t)

pub returns-clause-put : goal.returns-clause-put
returns-clause-put g c = λ t. record_effect c.args.batch.now.first c.first.result _ c.last.result c.args.epoch _ _ _ _ c.first.ensures c.last.ensures refl (c.put.ensures.put t)

pub returns-clause-cut : goal.returns-clause-cut
returns-clause-cut g c = record_cut c.args.batch.now.first c.first.result _ _ _ _ _ _ _ c.first.ensures refl c.put.ensures.cut

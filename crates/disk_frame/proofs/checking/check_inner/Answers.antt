use Rattle.disk_frame.proofs.ReadLaws.{judged_inner}
use Rattle.disk_frame.proofs.checking.check_inner.Goals as goal

pub returns-in-Some : goal.returns-in-Some
returns-in-Some c = judged_inner c.args.next c.in-Some.first c.in-Some.count c.args.inner.now c.in-Some.entries.now c.check_entries.result c.in-Some.ensures c.check_entries.ensures

use Rattle.std.proofs.Common.{refl, inr}
use Rattle.report_judge.proofs.Complete.{no_report_parted, spelled_otherwise}
use Rattle.report_judge.proofs.whole.read_printed.Goals as goal

pub returns-in-Some-clause-unread : goal.returns-in-Some-clause-unread
returns-in-Some-clause-unread c = (
  no_report_parted c.args.bytes.now c.in_ok-lists.lists c.in_ok-lists.ensures.taken c.in-Some.ensures.parts,
  inr (refl, spelled_otherwise c.args.bytes.now c.in_ok-lists.lists c.in_ok-lists.ensures.taken c.in-Some.ensures.parts),
)

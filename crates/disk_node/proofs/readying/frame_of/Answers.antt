use Rattle.std.proofs.Common.{◌≤◌, ◌^◌, subst, sym}
use Rattle.journal_core.specs.Views.{BatchView, last_txid}
use Rattle.disk_effects.proofs.ApplyLaws.{last_within}
use Rattle.disk_node.proofs.readying.frame_of.Goals as goal

pub of-requires : goal.of-requires
of-requires c = subst (λ (b : BatchView). last_txid b ≤ 2 ^ 62) (sym c.in-Some.ensures.batch) (last_within c.args.request.now c.requires)

use Rattle.list_oev.proofs.ListLaws.{five_appended}
use Rattle.list_oev.proofs.counts.put_statistics.Goals as goal

pub returns : goal.returns
returns c = five_appended c.args.out.now.items _ _ _ _ _ _ _ _ _ _ c.in_ok-put_tallies.ensures c.in_ok-put_tallies-2.ensures c.in_ok-extend_from_slice.ensures.items
    c.in_ok-put_decimal.ensures.ok c.in_ok-push.ensures.items

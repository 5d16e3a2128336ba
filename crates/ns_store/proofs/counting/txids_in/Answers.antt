use Rattle.std.specs.Prelude.{map, string_bytes}
use Rattle.ns_store.proofs.ListLaws.{if_ok_both, lists_named}
use Rattle.ns_store.proofs.counting.txids_in.Goals as goal

pub returns : goal.returns
returns c = if_ok_both c.in_both.result _ _ _
    (λ v each sorted. lists_named (map string_bytes c.args.names.now) c.in_ok-images.images c.in_ok-digests.digests v.items c.in_ok-images.ensures c.in_ok-digests.ensures each sorted)
    c.in_both.ensures.each c.in_both.ensures.sorted

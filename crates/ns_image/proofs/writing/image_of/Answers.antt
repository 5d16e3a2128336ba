use Rattle.std.proofs.Common.{refl, inr, arith}
use Rattle.ns_image.proofs.Whole.{answered}
use Rattle.ns_image.proofs.writing.image_of.Goals as goal

pub returns-clause-read_back : goal.returns-clause-read_back
returns-clause-read_back c =
    answered c.args.namespace.now c.args.txid c.in_ok-image.image.items c.in_ok-image.ensures.bytes
    (record {
      tree = c.show_invariant.ensures;
      counted = omega (arith, c.row_count-count.ensures.count, c.row_count-count.ensures.most);
      txid = c.requires.txid;
      rising = c.requires.calls;
      sent = c.in_ok-image.ensures.sent;
      layout = inr refl;
    })

use Rattle.std.proofs.Common.{refl, arith}
use Rattle.disk_frame.proofs.ReadLaws.{whole_from, bad_from}
use Rattle.disk_frame.proofs.checking.check_front.Goals as goal

pub returns-in-Ok : goal.returns-in-Ok
returns-in-Ok c = whole_from c.args.next c.args.bytes.now c.in-Some.inner.now c.in-Ok.count _ (λ i. omega (arith, c.type_inv.bytes i)) c.requires
    c.in-Some.ensures.0 c.in-Some.ensures.1 c.in-Ok.ensures refl

pub returns-in-Err : goal.returns-in-Err
returns-in-Err c = bad_from c.args.next c.args.bytes.now c.in-Some.inner.now c.in-Err.cause (λ i. omega (arith, c.type_inv.bytes i)) c.requires c.in-Some.ensures.0 c.in-Some.ensures.1 c.in-Err.ensures

use Rattle.std.proofs.Common.{arith}
use Rattle.ns_image.proofs.Whole.{is_within}
use Rattle.ns_image.proofs.reading.read_image.Goals as goal

pub returns-clause-within : goal.returns-clause-within
returns-clause-within c = is_within c.args.bytes.now c.reading_in.result (λ i. omega (arith, c.type_inv.bytes i)) c.reading_in.ensures.reading

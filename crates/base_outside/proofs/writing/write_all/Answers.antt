use Rattle.std.proofs.Common.{arith}
use Rattle.std.proofs.KnownBytes.{Appends-kept}
use Rattle.base_outside.proofs.KnownBytes.{Appends-next}
use Rattle.base_outside.proofs.writing.write_all.Goals as goal

pub loop-at-preserved : goal.loop-at-preserved
loop-at-preserved g c = (
  Appends-next _ _ _ c.args.bytes.now c.loop-at.at c.in_ok-at.field-0 c.loop-at.invariant.0 (rw c.split_at.ensures.back at c.in_ok-at.ensures.bytes),
  omega (arith, c.split_at.ensures.back_len, c.in_ok-at.ensures.count.bound),
  omega (arith, c.loop-at.invariant.2, c.in_ok-at.ensures.cause.ok),
)

pub returns-clause-front : goal.returns-clause-front
returns-clause-front g c = (c.loop-at.at, Appends-kept _ _ _ _ c.loop-at.invariant.0 c.flush.ensures.bytes)

use Rattle.std.proofs.KnownBytes.{Consumes-trans}
use Rattle.base_outside.proofs.reading.read_all.Goals as goal

pub returns-then-is_err-clause-front : goal.returns-then-is_err-clause-front
returns-then-is_err-clause-front g c =
    (_, Consumes-trans _ _ _ _ _ c.loop-source.invariant.0 c.in-Ok-read.ensures.bytes.0)

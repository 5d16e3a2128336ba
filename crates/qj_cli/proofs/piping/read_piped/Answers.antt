use Rattle.std.proofs.Common.{refl, inl}
use Rattle.qj_cli.proofs.PlayLaws.{too_long}
use Rattle.qj_cli.proofs.piping.read_piped.Goals as goal

pub returns-in-TooLong-clause-fault : goal.returns-in-TooLong-clause-fault
returns-in-TooLong-clause-fault g c = inl (too_long _ (c.in-TooLong.ensures.too_long refl) (c.in-TooLong.ensures.no_fault (λ e. cc e)))

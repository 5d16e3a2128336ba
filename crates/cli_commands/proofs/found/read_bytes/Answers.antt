use Rattle.cli_commands.proofs.ListLaws.{carried, one_more}
use Rattle.cli_commands.proofs.found.read_bytes.Goals as goal

pub returns-in_err-count-clause-lasting : goal.returns-in_err-count-clause-lasting
returns-in_err-count-clause-lasting g c =
    λ k e failed.
    (c.read.ensures.budget.counts k (one_more _ k e)).0
    (carried c.read.result c.from_residual-in_err-count.result c.in_err-count.field-0.0 c.in_err-count.was c.from_residual-in_err-count.ensures.1 failed)

use Rattle.std.proofs.Common.{suc}
use Rattle.cli_commands.proofs.ListLaws.{carried, two_more, one_left}
use Rattle.cli_commands.proofs.found.find.Goals as goal

pub returns-in_err-length-clause-lasting : goal.returns-in_err-length-clause-lasting
returns-in_err-length-clause-lasting g c =
    λ k e failed.
    (c.length.ensures.budget.counts (suc k) (two_more _ k e)).0
    (carried c.length.result c.from_residual.result c.in_err-length.field-0.0 c.in_err-length.was c.from_residual.ensures.1 failed)

pub returns-in-Some-2-clause-lasting : goal.returns-in-Some-2-clause-lasting
returns-in-Some-2-clause-lasting g c = λ k e. c.read_bytes.ensures.lasting k (one_left _ k (c.length.ensures.budget.counts (suc k) (two_more _ k e)).1)

use Rattle.std.proofs.Common.{ap, sym, ◌∙◌, refl}
use Rattle.report_judge.specs.Pieces.{pieces, behind}
use Rattle.report_judge.specs.Reading.{rows_in}
use Rattle.report_judge.proofs.ReadLaws.{space_taken}
use Rattle.report_judge.proofs.last_space.read_space.Goals as goal

pub returns-clause-taken : goal.returns-clause-taken
returns-clause-taken c =
    space_taken c.args.position (pieces c.args.text.now) (pieces c.in_ok-rest.rest.now) c.read_rows.new.rows.items c.of-rows.result _
    (ap (λ xs. behind xs (rows_in (pieces c.args.text.now))) (sym c.new-rows.ensures.items) ∙ c.in_ok-rest.ensures.taken) c.of-rows.ensures refl

use Rattle.std.proofs.Common.{ℕ, subst, rules}
use Rattle.std.specs.Prelude.{IsSome}
use Rattle.disk_segment.specs.Rows.{find_row}
use Rattle.disk_opening.proofs.OpenJudged.{second_refused, some_found, read_start}
use Rattle.disk_opening.proofs.opening.judge_beside.Goals as goal

pub returns-then-is_some-clause-told : goal.returns-then-is_some-clause-told
returns-then-is_some-clause-told g c = λ t.
    let told = c.in-Row.ensures.told t in
    let there : IsSome (find_row c.in-Row.row.info.start c.args.table.now) = some_found c.find.result _ c.find.ensures.found (search rules) in
    second_refused (g.D.DiskModel.view c.args.disk.now).seen c.args.name.now c.args.table.now told.0 told.1 told.2 c.bad_file.result c.bad_file.ensures
    (subst (λ (n : ℕ). IsSome (find_row n c.args.table.now)) (read_start (g.D.DiskModel.view c.args.disk.now).seen told.0 told.1 told.3.0 c.in-Row.row told.3.1) there)

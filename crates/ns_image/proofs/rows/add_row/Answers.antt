use Rattle.std.proofs.lemmas.Result.{err_from_is_err_and}
use Rattle.ns_image.proofs.Stepping.{row_fails, may_take, taken_next}
use Rattle.ns_image.proofs.rows.add_row.Goals as goal

pub returns-in_err-row : goal.returns-in_err-row
returns-in_err-row g c rows taken at =
    let p = err_from_is_err_and c.from_residual.result c.from_residual.ensures.1 in
    rw (p.1, p.2) (row_fails rows c.args.last.now c.args.directory at c.args.bytes.now c.in_err-row.field-0.0 c.in_err-row.ensures.read)

pub take_row-requires : goal.take_row-requires
take_row-requires g c =
    may_take g.S.RowSink.has_taken c.args.sink.now c.args.last.now c.args.directory c.args.bytes.now c.in_ok-row.row c.in_ok-row.rest.now c.requires c.in_ok-row.ensures.read c.in_ok-row.ensures.good

pub returns : goal.returns
returns g c rows taken at =
    taken_next g.S.RowSink.has_taken c.take_row.new.self c.args.last.now c.args.directory c.args.bytes.now c.in_ok-row.row c.in_ok-row.path.now c.in_ok-row.rest.now c.is_directory-directory.result
    c.in_ok-row.ensures.read c.in_ok-row.ensures.good c.in_ok-row.ensures.path c.is_directory-directory.ensures rows (c.in_ok-take_row.ensures rows taken) at

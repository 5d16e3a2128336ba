use Rattle.std.proofs.lemmas.Result.{err_from_is_err_and}
use Rattle.serde_json.specs.View.{view}
use Rattle.list_back.proofs.Entries.{no_called_op}
use Rattle.list_back.proofs.reading.read_called_edit.Goals as goal

pub returns-in_err-op : goal.returns-in_err-op
returns-in_err-op c =
    let p = err_from_is_err_and c.from_residual-in_err-op.result c.from_residual-in_err-op.ensures.1 in
    rw (p.1, p.2) (no_called_op c.args.kind (view c.args.object.now) c.in_err-op.field-0.0 c.in_err-op.ensures)

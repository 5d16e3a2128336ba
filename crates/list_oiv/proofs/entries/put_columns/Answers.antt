use Rattle.std.proofs.Common.{refl, ap, arith}
use Rattle.json.specs.Tree.{json_tokens}
use Rattle.list_text.specs.Values.{object_of}
use Rattle.list_text.proofs.Trees.{adds_same}
use Rattle.list_text.specs.Columns.{ColumnsView, shown}
use Rattle.list_oiv.specs.Entries.{members, row_json}
use Rattle.list_oiv.proofs.Fitting.{members_ascii}
use Rattle.list_oiv.proofs.entries.put_columns.Goals as goal

pub overflow_cast-columns : goal.overflow_cast-columns
overflow_cast-columns c = omega (arith, c.requires.size)

pub put_object-requires : goal.put_object-requires
put_object-requires c = members_ascii (shown c.args.columns.now) c.requires

pub returns : goal.returns
returns c row e =
    let same = adds_same c.put_object.result c.args.writer.now c.put_object.new.writer (json_tokens (object_of (members (shown c.args.columns.now)))) c.put_object.ensures (rw c.from.ensures refl) in
    adds_same c.put_object.result c.args.writer.now c.put_object.new.writer (json_tokens (row_json row)) same (ap (λ (v : ColumnsView). json_tokens (object_of (members v))) e)

use Rattle.serde_json.specs.View.{view}
use Rattle.list_back.proofs.Coding.{op_gives}
use Rattle.list_back.proofs.reading.read_fields.Goals as goal

pub returns : goal.returns
returns c = op_gives c.args.kind (view c.args.object.now) _ _ c.read_op.result c.keys.ensures c.read_op.ensures

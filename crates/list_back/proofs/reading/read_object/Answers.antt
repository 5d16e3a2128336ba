use Rattle.serde_json.specs.View.{view}
use Rattle.edit_ops.specs.Records.{kind_of, called}
use Rattle.std.proofs.Common.{true, false}
use Rattle.list_back.proofs.Entries.{front_of}
use Rattle.list_back.proofs.Coding.{object_gives}
use Rattle.list_back.proofs.reading.read_object.Goals as goal

pub returns-in_default : goal.returns-in_default
returns-in_default c = λ e is. c.in_default.ensures (kind_of e.op) (called e) (front_of c.args.txid e (view c.args.object.now) c.requires.txid is)

pub returns-then-with_call : goal.returns-then-with_call
returns-then-with_call c = object_gives c.args.txid c.in-Some.kind c.in-Some.with_call true (view c.args.object.now) c.read_called_edit.result
    c.requires.txid c.requires.ordered c.in-Some.ensures c.if-with_call.true c.read_called_edit.ensures

pub returns-else-with_call : goal.returns-else-with_call
returns-else-with_call c = object_gives c.args.txid c.in-Some.kind c.in-Some.with_call false (view c.args.object.now) c.read_plain_edit.result
    c.requires.txid c.requires.ordered c.in-Some.ensures c.if-with_call.false c.read_plain_edit.ensures

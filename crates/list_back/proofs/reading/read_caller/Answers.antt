use Rattle.serde_json.specs.View.{view}
use Rattle.list_back.proofs.Coding.{call_gives}
use Rattle.list_back.proofs.reading.read_caller.Goals as goal

pub returns : goal.returns
returns c = call_gives (view c.args.object.now) _ _ c.read_call.result c.keys.ensures c.read_call.ensures

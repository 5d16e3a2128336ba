use Rattle.list_back.proofs.Coding.{value_found, no_value}
use Rattle.serde_json.specs.View.{view}
use Rattle.list_back.proofs.object_source.value_at.Goals as goal

pub returns-in-Some-clause-value : goal.returns-in-Some-clause-value
returns-in-Some-clause-value c = value_found (view c.args.object.now) (view c.in-Some.value.now) c.args.next c.args.keys.now _ c.if-next-keys.false c.in-Some.ensures

pub returns-in-None-clause-value : goal.returns-in-None-clause-value
returns-in-None-clause-value c = no_value (view c.args.object.now) c.args.next c.args.keys.now _ c.if-next-keys.false c.in-None.ensures

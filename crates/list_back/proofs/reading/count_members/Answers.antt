use Rattle.serde_json.specs.View.{view}
use Rattle.list_back.proofs.Coding.{members_counted}
use Rattle.list_back.proofs.reading.count_members.Goals as goal

pub returns-in-Some : goal.returns-in-Some
returns-in-Some c = members_counted (view c.args.object.now) c.in-Some.members.now.entries c.len.result c.len.ensures.len c.in-Some.ensures

use Rattle.std.proofs.Common.{Some, rules}
use Rattle.std.specs.List.{flat_map}
use Rattle.list_text.specs.Values.{member_tokens}
use Rattle.list_text.proofs.Trees.{adds_same}
use Rattle.list_oev.specs.Entries.{call_members}
use Rattle.list_oev.proofs.entries.put_call.Goals as goal

pub returns : goal.returns
returns c = adds_same c.put_members.result c.args.writer.now c.put_members.new.writer (flat_map member_tokens (call_members (Some c.args.call.now))) c.put_members.ensures (search rules)

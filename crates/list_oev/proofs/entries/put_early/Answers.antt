use Rattle.std.proofs.Common.{refl}
use Rattle.std.specs.List.{flat_map}
use Rattle.list_text.specs.Values.{member_tokens}
use Rattle.list_text.proofs.Trees.{adds_same}
use Rattle.list_oev.specs.Entries.{early}
use Rattle.list_oev.proofs.entries.put_early.Goals as goal

pub returns-in-Add : goal.returns-in-Add
returns-in-Add c = adds_same c.put_members.result c.args.writer.now c.put_members.new.writer (flat_map member_tokens (early c.args.op.now)) c.put_members.ensures (rw c.in-Add.is refl)

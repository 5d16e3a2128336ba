use Rattle.std.proofs.Common.{map}
use Rattle.list_text.specs.Shown.{shown}
use Rattle.list_text.proofs.Trees.{object_added}
use Rattle.list_text.proofs.writing.put_object.Goals as goal

pub returns : goal.returns
returns c =
    object_added c.close_object.result c.args.writer.now c.open_object.new.writer c.put_members.new.writer c.close_object.new.writer (map shown c.args.members.now)
    c.in_ok-open_object.ensures c.in_ok-put_members.ensures c.close_object.ensures

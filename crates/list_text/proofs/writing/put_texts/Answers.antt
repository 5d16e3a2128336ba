use Rattle.std.proofs.Common.{map}
use Rattle.json.specs.Json.{string}
use Rattle.list_text.proofs.Trees.{array_added}
use Rattle.list_text.proofs.writing.put_texts.Goals as goal

pub returns : goal.returns
returns c =
    array_added c.close_array.result c.args.writer.now c.open_array.new.writer c.put_each_text.new.writer c.close_array.new.writer (map string c.args.texts.now)
    c.in_ok-open_array.ensures c.in_ok-put_each_text.ensures c.close_array.ensures

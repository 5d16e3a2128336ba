use Rattle.std.proofs.Common.{map}
use Rattle.list_text.specs.Values.{number_of}
use Rattle.list_text.proofs.Trees.{array_added}
use Rattle.list_text.proofs.writing.put_numbers.Goals as goal

pub returns : goal.returns
returns c =
    array_added c.close_array.result c.args.writer.now c.open_array.new.writer c.put_each_number.new.writer c.close_array.new.writer (map number_of c.args.numbers.now)
    c.in_ok-open_array.ensures c.in_ok-put_each_number.ensures c.close_array.ensures

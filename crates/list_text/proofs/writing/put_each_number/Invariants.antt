use Rattle.std.proofs.Common.{◌≡◌, ◌++◌, take, map}
use Rattle.std.specs.List.{flat_map}
use Rattle.json.specs.Tree.{json_tokens}
use Rattle.list_text.specs.Values.{number_of}
use Rattle.list_text.proofs.writing.put_each_number.Given as goal

-- the numbers so far are added
abbrev pub invariant-loop-number : goal.invariant-loop-number
invariant-loop-number l = (l.writer.tokens ≡ l.fn.writer.tokens ++ flat_map json_tokens (map number_of (take l.number-index l.numbers))) × (l.writer.before ≡ l.fn.writer.before)

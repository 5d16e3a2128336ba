use Rattle.std.proofs.Common.{◌≡◌, ◌++◌, take, map}
use Rattle.std.specs.List.{flat_map}
use Rattle.json.specs.Json.{string}
use Rattle.json.specs.Tree.{json_tokens}
use Rattle.list_text.proofs.writing.put_each_text.Given as goal

-- the texts so far are added
abbrev pub invariant-loop-text : goal.invariant-loop-text
invariant-loop-text l = (l.writer.tokens ≡ l.fn.writer.tokens ++ flat_map json_tokens (map string (take l.text-index l.texts))) × (l.writer.before ≡ l.fn.writer.before)

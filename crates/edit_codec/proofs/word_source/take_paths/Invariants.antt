use Rattle.std.proofs.Common.{◌≡◌, ◌-◌, map}
use Rattle.edit_ops.specs.Fields.{path, text, Text_}
use Rattle.edit_codec.specs.Saying.{items_said}
use Rattle.edit_codec.proofs.SayItems.{with_items}
use Rattle.edit_codec.proofs.word_source.take_paths.Given as goal

-- the items so far, and those that are left, are all
abbrev pub invariant-loop : goal.invariant-loop
invariant-loop l = with_items (map (Text_ path) l.items) (items_said (65535 - l.counter) (text path) l.rest) ≡ items_said 65535 (text path) l.words

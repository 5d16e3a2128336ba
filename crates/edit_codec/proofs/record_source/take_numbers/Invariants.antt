use Rattle.std.proofs.Common.{◌≡◌, ◌-◌, map, length}
use Rattle.std.specs.Prelude.{replicate}
use Rattle.edit_ops.specs.Fields.{number, Number_}
use Rattle.edit_ops.specs.Reading.{items_at}
use Rattle.edit_ops.proofs.SourceLaws.{with_front}
use Rattle.edit_codec.proofs.record_source.take_numbers.Given as goal

-- the items so far, and those that are left, are all
abbrev pub invariant-loop : goal.invariant-loop
invariant-loop l = record {
  all : length l.items ≡ l.counter;
  so_far : with_front (map Number_ l.items) (items_at (replicate (l.count - l.counter) number) l.rest) ≡ items_at (replicate l.count number) l.bytes;
}

use Rattle.std.proofs.Common.{◌≡◌, ◌-◌, [], length}
use Rattle.ns_tree.specs.Space.{AreLengths}
use Rattle.ns_image.specs.Reading.{repeated, length_at}
use Rattle.ns_image.proofs.fields.lengths_of.Given as goal

-- what is left to be read goes on from the lengths so far
abbrev pub invariant-loop : goal.invariant-loop
invariant-loop l = record {
  so_far : repeated length_at (l.count - l.counter) l.lengths.items l.rest ≡ repeated length_at l.count [] l.bytes;
  good : AreLengths l.lengths.items;
  all : length l.lengths.items ≡ l.counter;
}

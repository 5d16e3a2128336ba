use Rattle.std.proofs.Common.{◌≡◌, ◌++◌, take, map}
use Rattle.std.specs.List.{flat_map}
use Rattle.edit_codec.specs.Forms.{written}
use Rattle.edit_ops.specs.Fields.{Number_}
use Rattle.edit_codec.proofs.field.put_numbers.Given as goal

abbrev pub invariant-loop-number : goal.invariant-loop-number
invariant-loop-number l = l.out.items ≡ l.fn.out.items ++ flat_map (written l.form) (map Number_ (take l.number-index l.numbers))

use Rattle.std.proofs.Common.{◌≡◌, ◌++◌, take, map}
use Rattle.std.specs.List.{flat_map}
use Rattle.edit_codec.specs.Forms.{written}
use Rattle.edit_codec.specs.Shown.{shown}
use Rattle.edit_codec.proofs.field.put_fields.Given as goal

-- the fields so far are appended
abbrev pub invariant-loop-field : goal.invariant-loop-field
invariant-loop-field l = l.out.items ≡ l.fn.out.items ++ flat_map (written l.form) (map shown (take l.field-index l.fields))

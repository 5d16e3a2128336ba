use Rattle.std.proofs.Common.{◌≡◌, ◌++◌, take, map}
use Rattle.std.specs.List.{flat_map}
use Rattle.edit_codec.specs.Forms.{written}
use Rattle.edit_ops.specs.Fields.{path, Text_}
use Rattle.edit_codec.proofs.field.put_paths.Given as goal

abbrev pub invariant-loop-path : goal.invariant-loop-path
invariant-loop-path l = l.out.items ≡ l.fn.out.items ++ flat_map (written l.form) (map (Text_ path) (take l.path-index l.paths))

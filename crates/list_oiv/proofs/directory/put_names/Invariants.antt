use Rattle.std.proofs.Common.{◌≡◌, ◌++◌, take}
use Rattle.std.specs.List.{flat_map}
use Rattle.list_oiv.specs.Directory.{path_in, line_at}
use Rattle.list_oiv.proofs.directory.put_names.Given as goal

-- the lines so far are appended
abbrev pub invariant-loop-name : goal.invariant-loop-name
invariant-loop-name l = l.out.items ≡ l.fn.out.items ++ flat_map (λ name. line_at l.namespace.pairs (path_in l.directory name)) (take l.name-index l.names)

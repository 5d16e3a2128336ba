use Rattle.edit_ops.specs.Fields.{path}
use Rattle.list_back.specs.Values.{text_in}
use Rattle.list_back.proofs.Coding.{ListedFrom}
use Rattle.list_back.proofs.object_source.read_each_path.Given as goal

-- the items so far, and those of the values that are left, are all
abbrev pub invariant-loop-value : goal.invariant-loop-value
invariant-loop-value l = ListedFrom (text_in path) l.values l.items l.value-index

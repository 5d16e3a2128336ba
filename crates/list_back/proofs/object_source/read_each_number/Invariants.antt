use Rattle.list_back.specs.Values.{number_in}
use Rattle.list_back.proofs.Coding.{ListedFrom}
use Rattle.list_back.proofs.object_source.read_each_number.Given as goal

-- the items so far, and those of the values that are left, are all
abbrev pub invariant-loop-value : goal.invariant-loop-value
invariant-loop-value l = ListedFrom (number_in 4611686018427387904) l.values l.items l.value-index

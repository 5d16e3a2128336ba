-- A branch has more rows than each of those below it.
use Rattle.std.specs.Prelude.{ℕ, suc, ◌+◌, ◌≤◌, max, List, [], ◌∷◌, length, map}
use Rattle.std.specs.Map.{values_of}
use Rattle.std.proofs.Common.{arith, length-append}
use Rattle.std.proofs.lemmas.List.{length-map}
use denote.Param.Weighed.{most}
use Rattle.ns_tree.specs.declared.inode.Row.{Row}
use Rattle.ns_tree.specs.Branches.{grown, below}

-- no branch has more rows than all of them together
smaller : {K X : Type 0} (name : K → List ℕ) (rows : X → List Row) (es : List (K × X)) → most (λ x. length (rows x) + 1) (values_of es) ≤ length (grown name rows es) + 1
smaller name rows [] = omega arith
smaller name rows (e ∷ es) =
    omega (arith, smaller name rows es, length-append (map (below (name e.0)) (rows e.1)) (grown name rows es), length-map (rows e.1) (below (name e.0)))

pub falls : {K X : Type 0} (name : K → List ℕ) (rows : X → List Row) (es : List (K × X)) → max (most (λ x. length (rows x) + 1) (values_of es)) 0 ≤ suc (length (grown name rows es))
falls name rows es = omega (arith, smaller name rows es)

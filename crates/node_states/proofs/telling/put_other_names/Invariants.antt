use Rattle.std.proofs.Common.{◌≡◌, ◌++◌, List, ℕ, map, take}
use Rattle.std.specs.Prelude.{codes}
use Rattle.std.specs.List.{flat_map}
use Rattle.ns_tree.specs.declared.end.End.{End}
use Rattle.node_states.specs.Fields.{quoted, plain}
use Rattle.node_states.proofs.telling.put_other_names.Given as goal

-- those so far are added
abbrev pub invariant-loop-end : goal.invariant-loop-end
invariant-loop-end l = l.out.items ≡ l.fn.out.items ++ flat_map (λ (other : List ℕ). codes "," ++ other) (map (λ (e : End). quoted (plain e.name)) (take l.end-index l.ends))

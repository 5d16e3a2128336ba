use Rattle.std.proofs.Common.{◌≡◌, ◌++◌, take, map}
use Rattle.std.specs.List.{flat_map}
use Rattle.list_oiv.specs.Sizes.{line}
use Rattle.list_oiv.proofs.tally.put_lines.Given as goal

-- the lines so far are appended
abbrev pub invariant-loop-line : goal.invariant-loop-line
invariant-loop-line l = l.out.items ≡ l.fn.out.items ++ flat_map line (map (λ p. (p.0.now, p.1)) (take l.line-index l.lines))

use Rattle.std.proofs.Common.{◌≡◌, ◌++◌, ◌-◌}
use Rattle.play_script.specs.Generated.{first_making, edit_lines}
use Rattle.play_script.proofs.generating.put_edits.Given as goal

-- the lines of the edits so far, and those to come
abbrev pub invariant-loop-count : goal.invariant-loop-count
invariant-loop-count l = l.lines.items ++ edit_lines l.nodes (l.edits - l.count) l.count l.making ≡ l.fn.lines.items ++ edit_lines l.nodes l.edits 0 (first_making l.number)

use Rattle.std.proofs.Common.{◌≡◌, ◌≤◌, ℕ, drop}
use Rattle.mesh.specs.Owners.{wins}
use Rattle.mesh_judge.specs.Tallies.{wins_on}
use Rattle.mesh_judge.proofs.won.won_epochs.Given as goal

-- what is counted so far, with the lines to come
abbrev pub invariant-loop-line : goal.invariant-loop-line
invariant-loop-line l = (l.tally.promises ≤ l.line-index) × ((epoch : ℕ) → wins_on l.nodes l.tally epoch (drop l.line-index l.lines) ≡ wins l.nodes epoch 0 l.lines)

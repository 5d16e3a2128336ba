-- How many nodes a journal has.
use Rattle.std.specs.Prelude.{ℕ, ◌≤◌}

abbrev pub most_nodes : ℕ
most_nodes = 15

-- a journal may have so many nodes: 1 to 15
abbrev pub PermittedNodes : ℕ → Type 0
PermittedNodes n = (1 ≤ n) × (n ≤ most_nodes)

-- How long a caller waits for the nodes that it asked. Times are in microseconds.
use Rattle.std.specs.Prelude.{ℕ, ◌-◌, min, Bool, Option, None, Some, if◌then◌else◌}

-- for how long it waits for the others once replies of a majority are there, and for a node to open its ends
abbrev pub more : ℕ
more = 200_000

-- what is left now of a limit that began then
abbrev pub left_of : ℕ → ℕ → ℕ → ℕ
left_of limit begun now = limit - (now - begun)

-- what is left of a round: its last request was written at `asked`, and replies of a majority were there from `agreed` on, if they were
abbrev pub round_left : ℕ → ℕ → Option ℕ → ℕ → ℕ
round_left limit asked None now = left_of limit asked now
round_left limit asked (Some agreed) now = min (left_of limit asked now) (left_of more agreed now)

-- what is left for a node: one whose ends aren't open is away soon
abbrev pub node_left : ℕ → ℕ → Option ℕ → Bool → ℕ → ℕ
node_left limit asked agreed is_open now = if is_open then round_left limit asked agreed now else min (round_left limit asked agreed now) (left_of more asked now)

-- A pseudo random sequence: the linear congruential generator of Knuth's MMIX over 64 bits, of
-- which the upper 31 bits are used.
use Rattle.std.specs.Prelude.{ℕ, ◌+◌, ◌*◌, ◌/◌, ◌%◌, ◌^◌}

abbrev pub next_state : ℕ → ℕ
next_state state = (state * 6364136223846793005 + 1442695040888963407) % 2 ^ 64

-- the number below this that a state gives
abbrev pub drawn : ℕ → ℕ → ℕ
drawn below state = state / 2 ^ 33 % below

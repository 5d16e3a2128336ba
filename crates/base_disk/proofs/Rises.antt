-- Counts of faults that rise.
use Rattle.std.proofs.Common.{ℕ, ◌≤◌, arith}
use Rattle.base_disk.specs.Calls.{Rose}

pub rose_since : (a b c : ℕ) → a ≤ b → Rose b c → Rose a c
rose_since a b c le rose = omega (arith, le, rose)

-- Faults and their count.
use Rattle.std.specs.Prelude.{ℕ, ◌≡◌, ◌+◌, ◌-◌, ◌^◌, ◌≤◌, ◌<◌, min, Result, OnOk, OnErr, IfOk, length, List}

-- a count after one more: it stands still at its last value
abbrev pub counted : ℕ → ℕ
counted n = min (n + 1) (2 ^ 64 - 1)

-- the count of faults rose, or stands at its last value
abbrev pub Rose : ℕ → ℕ → Type 0
Rose before now = counted before ≤ now

-- the count of faults rose where the call failed, stays where it didn't, and never falls
pub record CountsFaults {T E : Type 0} (before now : ℕ) (result : Result T E) : Type 0 where
  pub ok : OnOk result (now ≡ before)
  pub failed : OnErr result (Rose before now)
  pub never_falls : before ≤ now

-- at least one byte was taken, and no more than there were
pub record TakesSome {E : Type 0} (result : Result ℕ E) (bytes : List ℕ) : Type 0 where
  pub some : IfOk result (λ n. 0 < n)
  pub bound : IfOk result (λ n. n ≤ length bytes)

-- Which calls of a disk in memory fail.
use Rattle.std.specs.Prelude.{◌≡◌, ℕ, suc, Bool, true, false, ◌==◌, nat_lt, Option, Some, None, Result, IsOk, IsErrOf, if◌then◌else◌}
use Rattle.std.specs.List.{list_any, list_all}
use Rattle.base_disk.specs.declared.disk.DiskFail.{DiskFail}
use Rattle.base_disk.specs.declared.disk.DiskFail.TheVariants.{Failed}
use Rattle.base_disk.specs.declared.call_plan.CallPlan.{CallPlan}

-- the next call is one of those that fail
abbrev pub is_listed : CallPlan → Bool
is_listed p = list_any (λ n. n == p.made) p.failing.items

-- no call is left
abbrev pub is_stopped : CallPlan → Bool
is_stopped p = elim p.left [ Some n ↦ n == 0 | None ↦ false ]

-- the calls that fail were made already
abbrev pub is_past : CallPlan → Bool
is_past p = list_all (λ n. nat_lt n p.made) p.failing.items

-- no later call is set to fail
pub record IsSteady (p : CallPlan) : Type 0 where
  pub none_left_out : p.left ≡ None
  pub past : is_past p ≡ true

-- how many calls are left before every call fails, where that is all that is set
abbrev pub left_of : CallPlan → Option ℕ
left_of p = if is_past p then p.left else None

-- whether a call is let through
pub record Counted (before now : Option ℕ) (result : Result (Unit {0}) DiskFail) : Type 0 where
  pub stops : before ≡ Some 0 → IsErrOf result Failed × (now ≡ Some 0)
  pub counts : (k : ℕ) → before ≡ Some (suc k) → IsOk result × (now ≡ Some k)

-- Which calls of a source or sink in memory fail.
use Rattle.std.specs.Prelude.{ℕ, Bool, ◌==◌, List, if◌then◌else◌}
use Rattle.std.specs.List.{list_any}
use Rattle.base_outside.specs.Faults.{counted}

-- the numbers, from 0, of the calls that fail, how many calls were made, and how many of them
-- failed
pub record FaultPlanView : Type 0 where
  pub failing : List ℕ
  pub made : ℕ
  pub faults : ℕ

-- before the first call
abbrev pub fresh_plan : List ℕ → FaultPlanView
fresh_plan failing = record { failing = failing; made = 0; faults = 0 }

-- the next call is listed
abbrev pub is_listed : FaultPlanView → Bool
is_listed plan = list_any (λ n. n == plan.made) plan.failing

-- after one more call, that failed or not
abbrev pub after_call : FaultPlanView → Bool → FaultPlanView
after_call plan failed =
    record plan { made = counted plan.made; faults = if failed then counted plan.faults else plan.faults }

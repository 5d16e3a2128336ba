-- Worked examples of the definitions, each computed by the check.
use Rattle.std.specs.Prelude.{ℕ, List, [], ◌∷◌}
use Rattle.base_outside.specs.Plan.{FaultPlanView, fresh_plan, is_listed, after_call}
use Rattle.base_outside.specs.Memory.{MemSinkView}

-- the first call and the third fail
abbrev pub first_and_third : FaultPlanView
first_and_third = fresh_plan (0 ∷ 2 ∷ [])

-- one call, and the next: each fails where it is listed
abbrev pub after_next : FaultPlanView → FaultPlanView
after_next plan = after_call plan (is_listed plan)

-- a sink with room for three bytes that took these
abbrev pub room_for_three : List ℕ → MemSinkView
room_for_three taken = record { taken = taken; kept = 0; room = 3; plan = fresh_plan [] }

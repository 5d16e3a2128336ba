-- How many effects will stand, counted one by one.
use Rattle.std.specs.Prelude.{ℕ, ◌≡◌, ◌+◌, List, ◌++◌, if◌then◌else◌}
use Rattle.journal_step.specs.declared.budget.Budget.{Budget}
use Rattle.journal_core.specs.Cuts.{Cost, standing}

-- how many stand in the end, where these costs follow
abbrev pub count_on : Budget → List Cost → ℕ
count_on b costs = if b.going then b.standing + standing b.calls costs else b.standing

-- the one is left of the other after these costs
pub record SpendsTo (old : Budget) (costs : List Cost) (new : Budget) : Type 0 where
  pub spent : (rest : List Cost) → count_on old (costs ++ rest) ≡ count_on new rest

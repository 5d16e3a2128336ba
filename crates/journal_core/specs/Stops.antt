-- A stop inside a request, a kill and a restart.
use Rattle.std.specs.Prelude.{ℕ, ◌≡◌, ◌⊎◌, Bool, false, not, min, nat_lt, List, [], ◌∷◌, length, take, Option, Some, None, Result, Ok, Err, if◌then◌else◌}
use Rattle.journal_core.specs.Views.{HeadView}
use Rattle.journal_core.specs.declared.node_state.NodeState.{NodeState}
use Rattle.journal_core.specs.declared.node_fail.NodeFail.{NodeFail}
use Rattle.journal_core.specs.declared.node_fail.NodeFail.TheVariants.{DiskFault, BadFile, OutOfMemory}
use Rattle.journal_core.specs.declared.request.Request.{Request}
use Rattle.journal_core.specs.Effects.{Effect, Commit, after_effects}
use Rattle.journal_core.specs.Step.{effects_of, effects_after, row_refused, stopped, crashed, restarted}
use Rattle.journal_core.specs.Answers.{IsStopOf}

-- a front that has its effect
abbrev pub raises_promise : ℕ → Option HeadView → Bool
raises_promise promised None = false
raises_promise promised (Some h) = nat_lt promised h.epoch

-- the effects after the front
abbrev pub effects_of_row : NodeState → Request → List Effect
effects_of_row s r = effects_after s r (row_refused s r)

-- the first effects after the front were done, so many of them
pub record IsRowStop (old : NodeState) (request : Request) (keep done : ℕ) (new : NodeState) : Type 0 where
  pub count : done ≡ min keep (length (effects_of_row old request))
  pub state : new ≡ after_effects old (take keep (effects_of_row old request))

-- the node did the first effects of the request, so many of them, and is down
pub record IsStop (old : NodeState) (request : Request) (keep done : ℕ) (new : NodeState) : Type 0 where
  pub count : done ≡ min keep (length (effects_of old request))
  pub state : new ≡ stopped old request keep

-- what a stopped request may answer, of a node that may not tell its state
abbrev pub Stops : Option NodeState → Request → ℕ → Result ℕ NodeFail → Option NodeState → Type 0
Stops None request keep result None = Unit {0}
Stops (Some old) request keep (Ok done) (Some new) = IsStop old request keep done new
Stops (Some old) request keep (Err OutOfMemory) (Some new) = (new ≡ old) ⊎ IsStopOf old request new
Stops (Some old) request keep (Err DiskFault) (Some new) = IsStopOf old request new
Stops (Some old) request keep (Err (BadFile name)) (Some new) = ⊥
Stops None request keep result (Some new) = ⊥
Stops (Some old) request keep result None = ⊥

-- a kill of a node that is up
pub record IsKill (old : NodeState) (killed : Bool) (new : NodeState) : Type 0 where
  pub told : killed ≡ old.up
  pub state : new ≡ (if old.up then crashed old else old)

abbrev pub Kills : Option NodeState → Bool → Option NodeState → Type 0
Kills None killed None = Unit {0}
Kills (Some old) killed (Some new) = IsKill old killed new
Kills None killed (Some new) = ⊥
Kills (Some old) killed None = ⊥

-- a restart of a node that is down
pub record IsRestart (old : NodeState) (started : Bool) (new : NodeState) : Type 0 where
  pub told : started ≡ not old.up
  pub state : new ≡ (if old.up then old else restarted old)

abbrev pub Restarts : Option NodeState → Result Bool NodeFail → Option NodeState → Type 0
Restarts None result None = Unit {0}
Restarts (Some old) (Ok started) (Some new) = IsRestart old started new
Restarts (Some old) (Err (BadFile name)) (Some new) = ⊥
Restarts (Some old) (Err _) (Some new) = new ≡ old
Restarts None result (Some new) = ⊥
Restarts (Some old) result None = ⊥

-- How many results each line of a script has: a log line one for each edit.
use Rattle.std.specs.Prelude.{◌≡◌, ℕ, ◌≤◌, false, List, [], ◌∷◌, ◌++◌, length}
use Rattle.writer_core.specs.declared.task.Task.{Task}
use Rattle.writer_core.specs.declared.task.Task.TheVariants as task
use Rattle.journal_history.specs.declared.record.Record.{Record}
use Rattle.play_model.specs.Lines.{Action, Does, DoDrop, DoMute, DoLate, Submits, Trims, DoTail, Saves, Reloads}
use Rattle.play_model.specs.Actor.{Actor, is_broken, goes_on}

abbrev pub results_due : Task → ℕ
results_due (task.Log bodies) = length bodies
results_due task.Takeover = 1
results_due task.Roll = 1
results_due task.Close = 1
results_due (task.Purge min) = 1

-- a late copy has a result only where there is no such call
abbrev pub AreResultsOf : Action → List (List ℕ) → Type 0
AreResultsOf (Does t) texts = length texts ≡ results_due t
AreResultsOf (DoDrop node call) texts = texts ≡ []
AreResultsOf (DoMute node call) texts = texts ≡ []
AreResultsOf (DoLate node call) texts = length texts ≤ 1
AreResultsOf (Submits edits) texts = length texts ≡ length edits
AreResultsOf (Trims extra) texts = length texts ≡ 1
AreResultsOf DoTail texts = length texts ≡ 1
AreResultsOf Saves texts = length texts ≡ 1
AreResultsOf Reloads texts = length texts ≡ 1

-- the result lines, action by action, in order
unfoldable pub AreResults : List Action → List (List ℕ) → Type 0
AreResults [] texts = texts ≡ []
AreResults (d ∷ ds) texts = (first rest : List (List ℕ)) × (texts ≡ first ++ rest) × AreResultsOf d first × AreResults ds rest

-- the actions of a script without names
abbrev pub IsRaw : Action → Type 0
IsRaw (Does t) = Unit {0}
IsRaw (DoDrop node call) = Unit {0}
IsRaw (DoMute node call) = Unit {0}
IsRaw (DoLate node call) = Unit {0}
IsRaw _ = ⊥

abbrev pub AreRaw : List Action → Type 0
AreRaw [] = Unit {0}
AreRaw (d ∷ ds) = IsRaw d × AreRaw ds

-- an actor that meets no bad entry on its way
unfoldable pub NeverBroken : Actor → List Record → Type 0
NeverBroken a [] = is_broken a ≡ false
NeverBroken a (r ∷ rs) = (is_broken a ≡ false) × NeverBroken (goes_on a r) rs

-- That a line may come is a fact: there is at most one proof of it.
use Rattle.std.specs.Prelude.{ℕ, Bool, true, false, List}
use Rattle.std.specs.List.{All}
use Rattle.std.specs.Coded.{×_prop, Π_prop, →_prop, Unit-prop, le_prop, Coded-set, coded_bool}
use mathlib.Core.HLevel.{¬_prop}
use Rattle.journal_core.specs.Limits.{max_number}
use Rattle.play_script.specs.declared.script_line.ScriptLine.{ScriptLine}
use Rattle.play_script.specs.declared.script_line.ScriptLine.TheVariants as line
use Rattle.play_model.specs.Actions.{MayCome}

pub come_prop : (named : Bool) (nodes : ℕ) (l : ScriptLine) → IsProp (MayCome named nodes l)
come_prop named nodes (line.Declare name) = Unit-prop {0}
come_prop named nodes (line.Takeover actor) = Unit-prop {0}
come_prop named nodes (line.Roll actor) = Unit-prop {0}
come_prop named nodes (line.Close actor) = Unit-prop {0}
come_prop named nodes (line.Log actor bodies) = ×_prop (Coded-set coded_bool named false) ¬_prop
come_prop named nodes (line.Edits actor edits) = ×_prop (Coded-set coded_bool named true) ¬_prop
come_prop named nodes (line.Purge actor min) = Coded-set coded_bool named false
come_prop named nodes (line.Trim actor extra) = Coded-set coded_bool named true
come_prop named nodes (line.Tail actor) = Coded-set coded_bool named true
come_prop named nodes (line.Checkpoint actor) = Coded-set coded_bool named true
come_prop named nodes (line.Reload actor) = Coded-set coded_bool named true
come_prop named nodes (line.Drop actor node call) = λ x y i. (
  le_prop {n = 1} {m = call} x.0 y.0 i,
  le_prop {n = 1} {m = node} x.1 y.1 i,
  le_prop {n = node} {m = nodes} x.2 y.2 i,
  le_prop {n = call} {m = max_number} x.3 y.3 i,
)
come_prop named nodes (line.Mute actor node call) = λ x y i. (
  le_prop {n = 1} {m = call} x.0 y.0 i,
  le_prop {n = 1} {m = node} x.1 y.1 i,
  le_prop {n = node} {m = nodes} x.2 y.2 i,
  le_prop {n = call} {m = max_number} x.3 y.3 i,
)
come_prop named nodes (line.Late actor node call) = λ x y i. (le_prop {n = 1} {m = call} x.0 y.0 i, le_prop {n = 1} {m = node} x.1 y.1 i, le_prop {n = node} {m = nodes} x.2 y.2 i)
come_prop named nodes (line.Kill node) = ×_prop (le_prop {n = 1} {m = node}) (le_prop {n = node} {m = nodes})
come_prop named nodes (line.Restart node) = ×_prop (le_prop {n = 1} {m = node}) (le_prop {n = node} {m = nodes})
come_prop named nodes (line.Arm node calls stop) = ×_prop (le_prop {n = 1} {m = node}) (le_prop {n = node} {m = nodes})

pub all_come_prop : (named : Bool) (nodes : ℕ) (lines : List ScriptLine) → IsProp (All (MayCome named nodes) lines)
all_come_prop named nodes lines = Π_prop (λ i. Π_prop (λ d. →_prop (come_prop named nodes _)))

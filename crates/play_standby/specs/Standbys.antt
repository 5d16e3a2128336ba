-- A standby: a namespace that was replayed up to a position.
use Rattle.std.specs.Prelude.{ℕ, ◌≤◌, List}
use Rattle.journal_core.specs.Limits.{max_number}
use Rattle.ns_tree.specs.Space.{Space, AreRising, empty_space}
use Rattle.ns_edits.specs.Replay.{Image}
use Rattle.play_names.specs.Holding.{Holding, Free}

pub record StandbyView : Type 0 where
  pub space : Space
  pub position : ℕ

-- the position is at most the greatest txid, and no call that the namespace remembers is above it
pub record IsStandby (s : StandbyView) : Type 0 where
  pub within : s.position ≤ max_number
  pub calls : AreRising 0 s.position s.space.calls

abbrev pub empty_standby : StandbyView
empty_standby = record { space = empty_space; position = 0 }

-- as what a name node with these images holds, at rest
abbrev pub held : List Image → StandbyView → Holding
held images s = record { space = s.space; position = s.position; images = images; work = Free }

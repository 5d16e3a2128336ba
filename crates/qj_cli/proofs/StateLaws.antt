-- What is due of a report whose states are told.
use Rattle.std.proofs.Common.{ℕ, List, inl, inr}
use Rattle.cli_commands.specs.declared.status.Status.{Status}
use Rattle.cli_commands.specs.Uses.{SourceUse}
use Rattle.qj_cli.specs.Judging.{IsReadReport}
use Rattle.qj_cli.specs.States.{AreDueOf, GivesStates, states_of, none_of}

pub states_due : (source : SourceUse) (bytes : List ℕ) (good : Status) (text : List ℕ) → IsReadReport source bytes → AreDueOf bytes good text → GivesStates source good text
states_due source bytes good text read (inl a) = states_of bytes read a.0 a.1 a.2
states_due source bytes good text read (inr d) = none_of bytes d.0 read d.1 d.2 d.3 d.4

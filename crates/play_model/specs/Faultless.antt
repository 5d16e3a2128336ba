-- What no node over a disk that holds shows: a fault of the disk, a lack of memory, a file that no
-- node wrote.
use Rattle.std.specs.List.{All}
use Rattle.journal_core.specs.Answers.{IsOwn}
use Rattle.journal_history.specs.declared.node_ask.NodeAnswer.{NodeAnswer}
use Rattle.journal_history.specs.declared.node_ask.NodeAnswer.TheVariants.{Replied, NotOpened}
use Rattle.journal_history.specs.declared.history_line.HistoryLine.{HistoryLine}
use Rattle.journal_history.specs.declared.record.Record.{Record}
use Rattle.journal_history.specs.declared.record.Record.TheVariants.{Call}
use Rattle.journal_history.specs.declared.record.Told.{Told}
use Rattle.journal_history.specs.declared.record.Told.TheVariants as told
use Rattle.mesh.specs.declared.whole.Mesh.{Mesh}
use Rattle.mesh.specs.Agree.{Agrees}

-- a reply of the node step, and no restart that couldn't open its files
abbrev pub IsSound : NodeAnswer → Type 0
IsSound (Replied reply) = IsOwn reply
IsSound (NotOpened fail) = ⊥
IsSound _ = Unit {0}

abbrev pub AnswersSoundly : HistoryLine → Type 0
AnswersSoundly line = IsSound line.answer

abbrev pub IsSoundlyTold : Told → Type 0
IsSoundlyTold (told.Reply reply) = IsOwn reply
IsSoundlyTold _ = Unit {0}

abbrev pub TellsSoundly : Record → Type 0
TellsSoundly (Call node request told) = IsSoundlyTold told
TellsSoundly _ = Unit {0}

-- no history and no record shows one
pub record ShowsNoFault (m : Mesh) : Type 0 where
  pub histories : All (All AnswersSoundly) m.histories
  pub records : All (All TellsSoundly) m.records

abbrev pub MeshesShowNoFault : Type 0
MeshesShowNoFault = (m : Mesh) → Agrees m → ShowsNoFault m

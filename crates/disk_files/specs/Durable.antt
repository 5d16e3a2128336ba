-- Which files stand for the durable state of a node.
use Rattle.std.specs.Prelude.{◌≡◌, ℕ, ◌≤◌, ◌^◌, true, List, None, codes}
use Rattle.std.specs.List.{AllByRecursion}
use Rattle.base_disk.specs.Files.{Files}
use Rattle.base_disk.specs.View.{View, AllLeave}
use Rattle.base_files.specs.Puts.{temporary}
use Rattle.base_files.specs.Records.{IsNumber}
use Rattle.journal_core.specs.declared.segment.Segment.{Segment}
use Rattle.journal_core.specs.declared.node_state.NodeState.{NodeState}
use Rattle.journal_core.specs.Segments.{has_edit}
use Rattle.disk_segment.specs.Names.{FreshRecord, name_of}
use Rattle.disk_segment.specs.Stands.{StandsFor}
use Rattle.disk_segment.specs.Effects.{IsReady}
use Rattle.disk_segment.specs.RowsTell.{OnlyAccepted, AreStarts}
use Rattle.disk_files.specs.declared.node_number.NodeNumber.{NodeNumber}
use Rattle.disk_files.specs.declared.node_number.NodeNumber.TheVariants.{Promised, Writer, Committed}

-- the file of a number
abbrev pub number_name : NodeNumber → List ℕ
number_name Promised = codes "last-promised-epoch"
number_name Writer = codes "last-writer-epoch"
number_name Committed = codes "committed-txid"

abbrev pub number_of : NodeNumber → NodeState → ℕ
number_of Promised s = s.promised
number_of Writer s = s.writer
number_of Committed s = s.committed

abbrev pub HaveNumbers : Files → NodeState → Type 0
HaveNumbers files s = (n : NodeNumber) → IsNumber (files (number_name n)) (number_of n s)

-- the files stand for the durable part of the state
pub record StandsAs (files : Files) (s : NodeState) : Type 0 where
  pub numbers : HaveNumbers files s
  pub segments : StandsFor files s.segments

-- it holds an edit where it is accepted
abbrev pub IsFilled : Segment → Type 0
IsFilled g = g.accepted ≡ true → has_edit g ≡ true

abbrev pub AreFilled : List Segment → Type 0
AreFilled = AllByRecursion IsFilled

-- The files, and those that each crash would leave, stand for the state, and no temporary file is
-- in the way. Each effect takes this and gives it back.
pub record HoldsState (v : View) (s : NodeState) : Type 0 where
  pub numbers : AllLeave v (λ c. HaveNumbers c s)
  pub segments : IsReady v s.segments
  pub starts : AreStarts s.segments
  pub filled : AreFilled s.segments
  pub records : OnlyAccepted v.seen s.segments
  pub none_temporary : (n : NodeNumber) → v.seen (temporary (number_name n)) ≡ None
  pub none_fresh_record : (start : ℕ) → 1 ≤ start → start ≤ 2 ^ 62 → v.seen (name_of start FreshRecord) ≡ None

-- The files of a node stand for its state.
use Rattle.std.proofs.Common.{◌≡◌, Bool, List, true, false, refl, sym, subst}
use Rattle.base_disk.specs.Files.{Files}
use Rattle.base_disk.specs.View.{View, AllLeave}
use Rattle.journal_core.specs.declared.node_state.NodeState.{NodeState}
use Rattle.journal_core.specs.Segments.{AreSound}
use Rattle.journal_core.specs.Step.{crashed}
use Rattle.disk_segment.specs.RowsTell.{AreStarts}
use Rattle.disk_segment.specs.declared.segment_row.SegmentRow.{SegmentRow}
use Rattle.disk_files.specs.declared.node_number.NodeNumber.TheVariants.{Promised, Writer, Committed}
use Rattle.disk_files.specs.Durable.{HaveNumbers, StandsAs}
use Rattle.disk_node.specs.FileState.{state_of}
use Rattle.disk_node.specs.Node.{HasState, IsNode}
use Rattle.disk_node.proofs.DoingEffect.{stands_now}
use Rattle.disk_node.proofs.NodeStands.{state_told, rows_start}
use Rattle.disk_node.proofs.ActingDone.{up_of}

-- what goes down in memory is in no file
crashed_numbers : (files : Files) (s : NodeState) → HaveNumbers files s → HaveNumbers files (crashed s)
crashed_numbers files s have Promised = have Promised
crashed_numbers files s have Writer = have Writer
crashed_numbers files s have Committed = have Committed

crashed_stands : (files : Files) (s : NodeState) → StandsAs files s → StandsAs files (crashed s)
crashed_stands files s stands = record { numbers = crashed_numbers files s stands.numbers; segments = stands.segments }

has_stands : (b : Bool) (v : View) (m : NodeState) (rows : List SegmentRow) (s : NodeState) → v.may_leave v.seen → HasState b v m rows s → StandsAs v.seen s
has_stands true v m rows s now up = stands_now v s up.held.files v.seen now
has_stands false v m rows s now down = subst (λ (t : NodeState). StandsAs v.seen t) (sym down.state) (crashed_stands v.seen down.before down.left.stands)

module _ (A : Type 0) (v : View) (m : NodeState) (rows : List SegmentRow) (now : A → v.may_leave v.seen) (node : IsNode A v m rows) (tells : A) where
  told : state_of v.seen m rows ≡ (node.stands tells).0
  told = state_told m.up v m rows (node.stands tells).0 refl (now tells) (rows_start rows node.told) (node.stands tells).1

  -- those that are seen
  pub files_stand : StandsAs v.seen (state_of v.seen m rows)
  files_stand = subst (λ (t : NodeState). StandsAs v.seen t) (sym told) (has_stands m.up v m rows (node.stands tells).0 (now tells) (node.stands tells).1)

  -- and those that each crash now leaves
  pub crashes_stand : m.up ≡ true → AllLeave v (λ c. StandsAs c (state_of v.seen m rows))
  crashes_stand up =
      subst (λ (t : NodeState). AllLeave v (λ c. StandsAs c t)) (sym told)
      (stands_now v (node.stands tells).0 (up_of v m rows (node.stands tells).0 up (node.stands tells).1).held.files)

  -- of a node that is up, the segments are sound, and each start is from 1 to 2 ^ 62
  pub are_sound : m.up ≡ true → AreSound (state_of v.seen m rows).segments × AreStarts (state_of v.seen m rows).segments
  are_sound up =
      subst (λ (t : NodeState). AreSound t.segments × AreStarts t.segments) (sym told)
      (let is = up_of v m rows (node.stands tells).0 up (node.stands tells).1 in (is.held.sound, is.held.told.starts))

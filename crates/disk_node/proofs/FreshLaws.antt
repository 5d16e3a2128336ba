-- A node that was opened on an empty disk is fresh, and an empty disk's files are refused by no
-- opening.
use Rattle.std.proofs.Common.{◌≡◌, ℕ, List, [], ◌∷◌, ◌++◌, Bool, true, false, Option, Some, None, sym, ap, ◌∙◌, inl, inr}
use Rattle.std.specs.Prelude.{T}
use Rattle.base_disk.specs.Files.{Files}
use Rattle.base_disk.specs.View.{View}
use Rattle.base_files.specs.Records.{IsNumber}
use Rattle.journal_core.specs.declared.segment.Segment.{Segment}
use Rattle.journal_core.specs.declared.node_state.NodeState.{NodeState}
use Rattle.journal_core.specs.Segments.{AreSound}
use Rattle.journal_core.specs.Step.{fresh_state, restarted}
use Rattle.disk_segment.specs.declared.segment_row.SegmentRow.{SegmentRow}
use Rattle.disk_segment.specs.Stands.{StandsFor}
use Rattle.disk_segment.specs.RowsTell.{AreStarts}
use Rattle.disk_segment.proofs.HeldOnce.{found_once, one_list}
use Rattle.disk_files.specs.declared.node_number.NodeNumber.TheVariants.{Promised, Writer, Committed}
use Rattle.disk_files.specs.Durable.{StandsAs, number_name}
use Rattle.disk_files.proofs.HoldsLaws.{fresh_stands}
use Rattle.disk_node.specs.Node.{told_state}
use Rattle.disk_node.specs.Opening.{IsOpenedNode, IsRefusedFile}
use Rattle.disk_node.proofs.NodeStands.{state_told, rows_start}

-- there is no file of any name
abbrev pub IsEmpty : Files → Type 0
IsEmpty files = (name : List ℕ) → files name ≡ None

number_zero : (file : Option (List ℕ)) (n : ℕ) → file ≡ None → IsNumber file n → n ≡ 0
number_zero None n e is = is
number_zero (Some bytes) n e is = absurd (cc)

no_segments : (files : Files) (gs : List Segment) → IsEmpty files → StandsFor files gs → AreSound gs → AreStarts gs → gs ≡ []
no_segments files gs none stands sound starts =
    one_list gs [] sound.rising tt starts tt (λ start first small. found_once files gs [] stands (fresh_stands files none).segments start first small)

fresh_is : (files : Files) (s : NodeState) → IsEmpty files → StandsAs files s → AreSound s.segments → AreStarts s.segments → restarted s ≡ fresh_state
fresh_is files s none stands sound starts = λ i. record {
  promised = number_zero (files (number_name Promised)) s.promised (none (number_name Promised)) (stands.numbers Promised) i;
  writer = number_zero (files (number_name Writer)) s.writer (none (number_name Writer)) (stands.numbers Writer) i;
  committed = number_zero (files (number_name Committed)) s.committed (none (number_name Committed)) (stands.numbers Committed) i;
  known = number_zero (files (number_name Committed)) s.committed (none (number_name Committed)) (stands.numbers Committed) i;
  segments = no_segments files s.segments none stands.segments sound starts i;
  opened = None;
  serial = 0;
  up = true;
}

pub opened_fresh : (files : Files) (b : Bool) (v : View) (m : NodeState) (rows : List SegmentRow) → T b → v.may_leave v.seen → IsEmpty files → IsOpenedNode files v m rows
    → told_state b v.seen m rows ≡ Some fresh_state
opened_fresh files false v m rows t now none is = absurd t
opened_fresh files true v m rows t now none is =
    ap (λ (s : NodeState). Some s)
    (state_told true v m rows (restarted is.state) (ap (λ (k : NodeState). k.up) is.up.held.memory) now (rows_start rows ((restarted is.state).segments, is.up.held.told)) is.up
    ∙ fresh_is files is.state none is.stood is.up.held.sound is.up.held.files.starts)

some_segment : (front rest : List Segment) (g : Segment) → [] ≡ front ++ g ∷ rest → ⊥
some_segment [] rest g e = cc
some_segment (x ∷ xs) rest g e = cc

pub none_refused : (files now : Files) (name : List ℕ) → IsEmpty files → IsRefusedFile files now name → ⊥
none_refused files now name none (inl p) = p.0 fresh_state (fresh_stands files none)
none_refused files now name none (inr bad) = some_segment bad.front bad.rest bad.segment (sym (no_segments files bad.segments none bad.stands bad.sound bad.starts) ∙ bad.split)

-- The state by files and table is the state that the files stand for.
use Rattle.std.proofs.Common.{◌≡◌, true, false, List, [], ◌∷◌, None, refl, ap, ◌∙◌}
use Rattle.std.specs.Prelude.{codes}
use Rattle.std.proofs.lemmas.Bool.{cond-true, cond-false}
use Rattle.base_disk.specs.Files.{Files}
use Rattle.journal_core.specs.declared.segment.Segment.{Segment}
use Rattle.journal_core.specs.declared.node_state.NodeState.{NodeState}
use Rattle.journal_core.specs.Segments.{find_segment, AreRising}
use Rattle.journal_core.specs.Step.{crashed}
use Rattle.disk_segment.specs.Stands.{StandsFor}
use Rattle.disk_segment.specs.Rows.{RowsRise}
use Rattle.disk_segment.specs.declared.segment_row.SegmentRow.{SegmentRow}
use Rattle.disk_files.specs.declared.node_number.NodeNumber.{NodeNumber}
use Rattle.disk_files.specs.declared.node_number.NodeNumber.TheVariants.{Promised, Writer, Committed}
use Rattle.disk_files.specs.Durable.{number_name, number_of, StandsAs}
use Rattle.disk_node.specs.Decoded.{number_in}
use Rattle.disk_node.specs.FileState.{with_one, segments_at, state_of, Covers, AreRowStarts, without_segments}
use Rattle.disk_node.proofs.Decodes.{number_decoded}
use Rattle.disk_node.proofs.SegmentAt.{segment_decoded}
use Rattle.disk_node.proofs.RowLists.{found, AreEnds, found_all, covered, covered_ends}

each_decoded : (files : Files) (gs : List Segment) (rows : List SegmentRow) → StandsFor files gs → AreRowStarts rows → AreEnds gs rows → segments_at files rows ≡ found rows gs
unfolding segments_at
each_decoded files gs [] stands starts ends = refl
each_decoded files gs (row ∷ rows) stands starts ends =
    λ i. with_one (segment_decoded files gs row.info.start row.info.end (find_segment row.info.start gs) stands starts.0.0 starts.0.1 refl ends.0 i)
    (each_decoded files gs rows stands starts.1 ends.1 i)

pub list_decoded : (files : Files) (gs : List Segment) (rows : List SegmentRow) → StandsFor files gs → AreRising gs → RowsRise rows → AreRowStarts rows → Covers rows gs → segments_at files rows ≡ gs
list_decoded files gs rows stands up rise starts covers = each_decoded files gs rows stands starts (covered_ends rows gs rise covers) ∙ found_all rows gs rise up (covered rows gs covers)

module _ (files : Files) (s m : NodeState) (rows : List SegmentRow) (stands : StandsAs files s) (up : AreRising s.segments) (rise : RowsRise rows)
    (starts : AreRowStarts rows) (covers : Covers rows s.segments) where
  number_is : (n : NodeNumber) → number_in (files (number_name n)) ≡ number_of n s
  number_is n = number_decoded (files (number_name n)) (number_of n s) (stands.numbers n)

  segments_are : segments_at files rows ≡ s.segments
  segments_are = list_decoded files s.segments rows stands.segments up rise starts covers

  kept : s.up ≡ true → state_of files (without_segments s) rows ≡ s
  unfolding state_of
  kept is_up = λ i. record {
    promised = number_is Promised i;
    writer = number_is Writer i;
    committed = number_is Committed i;
    known = cond-true s.up s.known (number_in (files (codes "committed-txid"))) is_up i;
    segments = segments_are i;
    opened = s.opened;
    serial = s.serial;
    up = s.up;
  }

  pub up_decoded : m ≡ without_segments s → s.up ≡ true → state_of files m rows ≡ s
  up_decoded same is_up = ap (λ (k : NodeState). state_of files k rows) same ∙ kept is_up

  pub down_decoded : m.up ≡ false → m.opened ≡ None → m.serial ≡ 0 → state_of files m rows ≡ crashed s
  unfolding state_of
  down_decoded down none first = λ i. record {
    promised = number_is Promised i;
    writer = number_is Writer i;
    committed = number_is Committed i;
    known = (cond-false m.up m.known (number_in (files (codes "committed-txid"))) down ∙ number_is Committed) i;
    segments = segments_are i;
    opened = none i;
    serial = first i;
    up = down i;
  }

-- A node that is opened is up.
use Rattle.std.proofs.Common.{ℕ, ◌≡◌, ◌≤◌, Bool, true, List, [], ◌∷◌, None, sym, ap, subst, ◌∙◌}
use Rattle.base_disk.specs.Files.{Files}
use Rattle.base_disk.specs.View.{View, LeavesOnly}
use Rattle.base_disk.specs.Runs.{weaker}
use Rattle.journal_core.specs.declared.segment.Segment.{Segment}
use Rattle.journal_core.specs.declared.node_state.NodeState.{NodeState}
use Rattle.journal_core.specs.Limits.{max_number}
use Rattle.journal_core.specs.Step.{restarted}
use Rattle.disk_segment.specs.declared.segment_row.SegmentRow.{SegmentRow}
use Rattle.disk_segment.specs.RowsTell.{AreInfos, AreRowsOf, TellSegments}
use Rattle.disk_files.specs.declared.node_number.NodeNumber.TheVariants.{Promised, Writer, Committed}
use Rattle.disk_files.specs.declared.files.NodeFiles.{NodeFiles}
use Rattle.disk_files.specs.Durable.{HaveNumbers, HoldsState}
use Rattle.disk_files.specs.Opening.{HoldsFiles}
use Rattle.disk_node.specs.Node.{IsUp, HasState, IsNode}
use Rattle.disk_node.specs.Opening.{Keeps, StandsAsBefore, IsOpenedNode}

infos_of : (seen : Files) (gs : List Segment) (rows : List SegmentRow) → AreRowsOf seen gs rows → AreInfos gs rows
infos_of seen [] [] are = tt
infos_of seen [] (row ∷ rows) are = absurd are
infos_of seen (g ∷ gs) [] are = absurd are
infos_of seen (g ∷ gs) (row ∷ rows) are = (are.0.info, infos_of seen gs rows are.1)

holds_up : (v : View) (s : NodeState) → HoldsState v s → HoldsState v (restarted s)
holds_up v s holds = record {
  numbers = λ c now. numbers c (holds.numbers c now);
  segments = holds.segments;
  starts = holds.starts;
  filled = holds.filled;
  records = holds.records;
  none_temporary = holds.none_temporary;
  none_fresh_record = holds.none_fresh_record;
}
  where
    numbers : (c : Files) → HaveNumbers c s → HaveNumbers c (restarted s)
    numbers c have Promised = have Promised
    numbers c have Writer = have Writer
    numbers c have Committed = have Committed

-- what memory keeps of the files
abbrev pub memory_in : NodeFiles → NodeState
memory_in f = record { promised = f.promised; writer = f.writer; committed = f.committed; known = f.committed; segments = []; opened = None; serial = 0; up = true }

pub files_up : (old : Files) (v : View) (f : NodeFiles) (m : NodeState) → m ≡ memory_in f → (holds : HoldsFiles old v f) → IsUp v m f.table (restarted holds.state)
files_up old v f m is holds = record {
  held = record {
    memory = is ∙ (λ i. record { promised = holds.promised i; writer = holds.writer i; committed = holds.committed i; known = holds.committed i; segments = []; opened = None; serial = 0; up = true });
    files = holds_up v holds.state holds.holds;
    told = record { infos = infos_of v.seen holds.state.segments f.table holds.rows; starts = holds.holds.starts };
    sound = holds.sound;
  };
  opened = tt;
}

pub opened_up : (old : Files) (v : View) (f : NodeFiles) (m : NodeState) → m ≡ memory_in f → HoldsFiles old v f → IsOpenedNode old v m f.table
opened_up old v f m is holds = record { state = holds.state; stood = holds.stood; up = files_up old v f m is holds }

pub opened_node : (A : Type 0) (old : Files) (v : View) (f : NodeFiles) (m : NodeState) → m ≡ memory_in f → f.committed ≤ max_number
    → TellSegments f.table → (A → HoldsFiles old v f) → IsNode A v m f.table
opened_node A old v f m is small tells holds = record {
  told = (tells.segments, record { infos = tells.told; starts = tells.starts });
  known = λ up. subst (λ (n : ℕ). n ≤ max_number) (sym (ap (λ (x : NodeState). x.known) is)) small;
  stands = λ t.
      let opened = opened_up old v f m is (holds t) in
      (restarted opened.state, subst (λ (b : Bool). HasState b v m f.table (restarted opened.state)) (sym (ap (λ (x : NodeState). x.up) is)) opened.up);
}

-- ## Moments
pub as_before : (v0 v1 : View) → LeavesOnly v0 v1 (λ c. (d : Files) × v0.may_leave d × Keeps d c) → LeavesOnly v0 v1 (StandsAsBefore v0)
as_before v0 v1 leaves = weaker v0 v1 (λ c. (d : Files) × v0.may_leave d × Keeps d c) (StandsAsBefore v0) (λ c was. record { before = was.0; left = was.1; kept = was.2 }) leaves

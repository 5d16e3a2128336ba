-- A node that comes up again has the state that it had.
use Rattle.std.proofs.Common.{inl, inr, ⊎_elim, ℕ, ◌≡◌, ◌⊎◌, ◌↔◌, ◌≤◌, ◌<◌, ◌^◌, ◌++◌, Bool, true, false, not, cond, List, [], ◌∷◌, Some, None, refl, sym, ap, subst, ◌∙◌, arith}
use Rattle.std.proofs.lemmas.Bool.Decides.{eqb_tells}
use Rattle.base_words.proofs.StartLaws.{find_here, find_on, found_above}
use Rattle.base_disk.specs.Files.{Files}
use Rattle.base_disk.specs.View.{View}
use Rattle.journal_core.specs.declared.segment.Segment.{Segment}
use Rattle.journal_core.specs.declared.node_state.NodeState.{NodeState}
use Rattle.journal_core.specs.Segments.{find_segment, has_edit, AreRising, AreSound}
use Rattle.journal_core.specs.Step.{restarted}
use Rattle.disk_segment.specs.Rows.{find_row}
use Rattle.disk_segment.specs.declared.segment_row.SegmentRow.{SegmentRow}
use Rattle.disk_segment.specs.RowsTell.{AreStarts}
use Rattle.disk_segment.specs.Stands.{StandsFor}
use Rattle.disk_segment.proofs.HeldOnce.{found_once, one_list}
use Rattle.disk_files.specs.declared.node_number.NodeNumber.{NodeNumber}
use Rattle.disk_files.specs.declared.node_number.NodeNumber.TheVariants.{Promised, Writer, Committed}
use Rattle.disk_files.specs.Durable.{number_of, number_name, StandsAs, AreFilled}
use Rattle.std.specs.Prelude.{Result, Ok}
use Rattle.journal_core.specs.declared.node_fail.NodeFail.{NodeFail}
use Rattle.journal_core.specs.Stops.{Restarts}
use Rattle.journal_core.proofs.PlaceLaws.{by_segments}
use Rattle.disk_files.specs.declared.files.NodeFiles.{NodeFiles}
use Rattle.disk_files.specs.Opening.{IsUnfilled, IsFirstBad, HoldsFiles}
use Rattle.disk_node.proofs.NodeOpens.{memory_in, files_up}
use Rattle.disk_node.proofs.ActingDone.{has_up, has_down}
use Rattle.disk_node.proofs.ActingStops.{was_up}
use Rattle.disk_node.specs.FileState.{AreRowStarts}
use Rattle.disk_node.specs.Held.{IsLeft}
use Rattle.disk_node.specs.Node.{IsUp, IsDown, HasState, IsNode}
use Rattle.disk_node.proofs.Decodes.{number_decoded}

row_start : (start : ℕ) (rows : List SegmentRow) (row : SegmentRow) → AreRowStarts rows → find_row start rows ≡ Some row → (1 ≤ start) × (start ≤ 2 ^ 62)
unfolding find_row
row_start start [] row starts there = absurd (cc)
row_start start (x ∷ rows) row starts there =
    elim (eqb_tells x.info.start start) [
      | inl p ↦ subst (λ (n : ℕ). (1 ≤ n) × (n ≤ 2 ^ 62)) p.1 starts.0
      | inr p ↦ row_start start rows row starts.1 (sym (rw p.0 refl) ∙ there)
    ]

starts_by : (gs : List Segment) → AreRising gs → ((start : ℕ) (g : Segment) → find_segment start gs ≡ Some g → (1 ≤ start) × (start ≤ 2 ^ 62)) → AreStarts gs
starts_by [] rise there = tt
starts_by (g ∷ gs) rise there = (
  there g.start g (find_here by_segments g.start g gs refl),
  starts_by gs rise.1 (λ start h known.
      let above : g.start < start = found_above by_segments g.start start gs h rise.0 known in
      there start h (find_on by_segments start g gs (λ same. omega (arith, above, same)) ∙ known)),
)

-- what the table covers starts from 1 to 2^62
left_starts : (files : Files) (rows : List SegmentRow) (s : NodeState) → AreRowStarts rows → IsLeft files rows s → AreStarts s.segments
left_starts files rows s starts left = starts_by s.segments left.sound.rising (λ start g known. let row = left.covers.rows_of start g known in row_start start rows row.0 starts row.1)

one_number : (files : Files) (s t : NodeState) → StandsAs files s → StandsAs files t → (n : NodeNumber) → number_of n s ≡ number_of n t
one_number files s t a b n = sym (number_decoded (files (number_name n)) (number_of n s) (a.numbers n)) ∙ number_decoded (files (number_name n)) (number_of n t) (b.numbers n)

pub one_segments : (files : Files) (gs hs : List Segment) → StandsFor files gs → StandsFor files hs → AreSound gs → AreSound hs → AreStarts gs → AreStarts hs → gs ≡ hs
one_segments files gs hs a b sound_a sound_b starts_a starts_b = one_list gs hs sound_a.rising sound_b.rising starts_a starts_b (λ start one fits. found_once files gs hs a b start one fits)

pub same_state : (files : Files) (rows : List SegmentRow) (s t : NodeState) → AreRowStarts rows → IsLeft files rows s → StandsAs files t
    → AreSound t.segments → AreStarts t.segments → restarted t ≡ restarted s
same_state files rows s t starts left stands sound starts_t =
    let numbers = one_number files t s stands left.stands in
    let segments = one_segments files t.segments s.segments stands.segments left.stands.segments sound left.sound starts_t (left_starts files rows s starts left) in
    λ i. record { promised = numbers Promised i; writer = numbers Writer i; committed = numbers Committed i; known = numbers Committed i; segments = segments i; opened = None; serial = 0; up = true }

pub not_unfilled : (front rest : List Segment) (g : Segment) → AreFilled (front ++ g ∷ rest) → g.accepted ≡ true → has_edit g ≡ false → ⊥
not_unfilled [] rest g filled accepted empty = differs (has_edit g) empty (filled.0 accepted)
  where
    differs : (b : Bool) → b ≡ false → b ≡ true → ⊥
    differs true f t = cc
    differs false f t = cc
not_unfilled (x ∷ front) rest g filled accepted empty = not_unfilled front rest g filled.1 accepted empty

-- files of a node are never refused
pub not_refused : (files : Files) (rows : List SegmentRow) (s : NodeState) (name : List ℕ) → AreRowStarts rows → IsLeft files rows s → AreFilled s.segments → IsUnfilled files name → ⊥
not_refused files rows s name starts left filled bad =
    let same : bad.segments ≡ s.segments = one_segments files bad.segments s.segments bad.stands left.stands.segments bad.sound left.sound bad.starts (left_starts files rows s starts left) in
    not_unfilled bad.front bad.rest bad.segment (subst (λ (gs : List Segment). AreFilled gs) (sym same ∙ bad.split) filled) bad.accepted bad.empty

-- ## Restarts
abbrev pub started : Bool → Result Bool NodeFail
started b = Ok b

pub stays_down : (v0 v1 : View) (m : NodeState) (rows : List SegmentRow) (s : NodeState) → ((t : NodeState) → StandsAs v0.seen t → StandsAs v1.seen t) → IsDown v0 m rows s → IsDown v1 m rows s
stays_down v0 v1 m rows s seen down = record {
  opened = down.opened;
  serial = down.serial;
  rise = down.rise;
  before = down.before;
  left = record { stands = seen down.before down.left.stands; sound = down.left.sound; covers = down.left.covers };
  filled = down.filled;
  state = down.state;
}

pub down_of : (v : View) (m : NodeState) (rows : List SegmentRow) (s : NodeState) → m.up ≡ false → HasState m.up v m rows s → IsDown v m rows s
down_of v m rows s down has = subst (λ (b : Bool). HasState b v m rows s) down has

pub node_stays : (A B : Type 0) (v0 v1 : View) (m : NodeState) (rows : List SegmentRow) → A ↔ B → IsNode A v0 m rows → m.up ≡ false
    → (A → (t : NodeState) → StandsAs v0.seen t → StandsAs v1.seen t) → IsNode B v1 m rows
node_stays A B v0 v1 m rows same node down seen = record {
  told = node.told;
  known = node.known;
  stands = λ t. let s = node.stands (same.1 t) in (s.0, has_down v1 m rows s.0 down (stays_down v0 v1 m rows s.0 (seen (same.1 t)) (down_of v0 m rows s.0 down s.1)));
}

pub state_stays : (v0 v1 : View) (m : NodeState) (rows : List SegmentRow) (s : NodeState) → m.up ≡ false
    → ((t : NodeState) → StandsAs v0.seen t → StandsAs v1.seen t) → HasState m.up v0 m rows s → HasState m.up v1 m rows s
state_stays v0 v1 m rows s down seen has = has_down v1 m rows s down (stays_down v0 v1 m rows s seen (down_of v0 m rows s down has))

pub restarted_up : (v0 v1 : View) (m0 m1 : NodeState) (rows0 : List SegmentRow) (f : NodeFiles) (s : NodeState) → m0.up ≡ false → AreRowStarts rows0
    → m1 ≡ memory_in f → HoldsFiles v0.seen v1 f → HasState m0.up v0 m0 rows0 s
    → (t : NodeState) × HasState m1.up v1 m1 f.table t × Restarts (Some s) (started true) (Some t)
restarted_up v0 v1 m0 m1 rows0 f s down starts is holds has =
    let was = down_of v0 m0 rows0 s down has in
    let up : IsUp v1 m1 f.table (restarted holds.state) = files_up v0.seen v1 f m1 is holds in
    let s_down : s.up ≡ false = ap (λ (x : NodeState). x.up) was.state in
    let same : restarted holds.state ≡ restarted s = same_state v0.seen rows0 was.before holds.state starts was.left holds.stood holds.sound holds.holds.starts ∙ sym (ap restarted was.state) in (
      restarted holds.state,
      has_up v1 m1 f.table (restarted holds.state) (ap (λ (x : NodeState). x.up) is) up,
      record { told = sym (ap not s_down); state = same ∙ sym (ap (λ (b : Bool). cond b s (restarted s)) s_down) },
    )

pub never_bad : (v0 : View) (new : Files) (m : NodeState) (rows : List SegmentRow) (s : NodeState) (name : List ℕ) → m.up ≡ false → AreRowStarts rows
    → HasState m.up v0 m rows s → (((t : NodeState) → StandsAs v0.seen t → ⊥) × IsFirstBad v0.seen new name) ⊎ IsUnfilled v0.seen name → ⊥
never_bad v0 new m rows s name down starts has bad =
    let was = down_of v0 m rows s down has in
    ⊎_elim (λ none. none.0 was.before was.left.stands) (λ unfilled. not_refused v0.seen rows was.before name starts was.left was.filled unfilled) bad

pub restarts_up : (v : View) (m : NodeState) (rows : List SegmentRow) (s : NodeState) → m.up ≡ true → HasState m.up v m rows s
    → (t : NodeState) × HasState m.up v m rows t × Restarts (Some s) (started false) (Some t)
restarts_up v m rows s up has =
    let s_up : s.up ≡ true = was_up m.up v m rows s refl has ∙ up in
    (s, has, record { told = sym (ap not s_up); state = sym (ap (λ (b : Bool). cond b s (restarted s)) s_up) })

-- What a node stands for, by its files, its memory and its table.
use Rattle.std.proofs.Common.{ℕ, ◌≡◌, ◌↔◌, ◌≤◌, ◌^◌, Bool, true, false, cond, List, [], ◌∷◌, Option, Some, None, refl, sym, ap, subst, ◌∙◌}
use Rattle.std.specs.Prelude.{T}
use Rattle.base_disk.specs.Files.{Files}
use Rattle.base_disk.specs.View.{View}
use Rattle.base_disk.specs.Calls.{Rests}
use Rattle.journal_core.specs.declared.segment.Segment.{Segment}
use Rattle.journal_core.specs.declared.node_state.NodeState.{NodeState}
use Rattle.journal_core.specs.Segments.{AreRising, AreAbove}
use Rattle.disk_segment.specs.Effects.{AppendsAt, IsTidy}
use Rattle.disk_segment.specs.Names.{name_of, InProgress, FreshRecord}
use Rattle.disk_segment.specs.Rows.{RowsAbove, RowsRise}
use Rattle.disk_segment.specs.declared.segment_row.SegmentRow.{SegmentRow}
use Rattle.disk_files.specs.Durable.{HoldsState, number_name}
use Rattle.disk_segment.specs.RowsTell.{OnlyAccepted, AreStarts, AreInfos}
use Rattle.base_files.specs.Puts.{temporary}
use Rattle.disk_effects.specs.Told.{Tells}
use Rattle.disk_node.specs.FileState.{state_of, AreRowStarts}
use Rattle.disk_node.specs.Held.{IsLeft, OpenedAt}
use Rattle.disk_node.specs.Node.{IsUp, IsDown, HasState, IsNode, told_state}
use Rattle.disk_effects.proofs.ToldLaws.{start_told}
use Rattle.disk_node.proofs.StateLaws.{up_decoded, down_decoded}
use Rattle.disk_node.proofs.DoingEffect.{stands_now}
use Rattle.disk_node.proofs.DoingRows.{tells_covers}

-- ## The disk rests
module _ (v0 v1 : View) (rests : Rests v0 v1) where
  rests_holds : (s : NodeState) → HoldsState v0 s → HoldsState v1 s
  rests_holds s holds = record {
    numbers = λ c now. holds.numbers c (rests.keeps.crash c now);
    segments = record {
      stands = λ c now. holds.segments.stands c (rests.keeps.crash c now);
      tidy = subst (λ (f : Files). IsTidy f) (sym rests.keeps.seen) holds.segments.tidy;
    };
    starts = holds.starts;
    filled = holds.filled;
    records = subst (λ (f : Files). OnlyAccepted f s.segments) (sym rests.keeps.seen) holds.records;
    none_temporary = λ n. ap (λ (f : Files). f (temporary (number_name n))) rests.keeps.seen ∙ holds.none_temporary n;
    none_fresh_record = λ start one fits. ap (λ (f : Files). f (name_of start FreshRecord)) rests.keeps.seen ∙ holds.none_fresh_record start one fits;
  }

  rests_appends : (g : Segment) (at : ℕ) → AppendsAt v0 g at → AppendsAt v1 g at
  rests_appends g at a = record {
    bytes = a.bytes;
    there = ap (λ (f : Files). f (name_of g.start InProgress)) rests.keeps.seen ∙ a.there;
    edits = a.edits;
    more = a.more;
    stable = λ c now. a.stable c (rests.keeps.crash c now) ∙ sym (ap (λ (f : Files). f (name_of g.start InProgress)) rests.keeps.seen);
  }

  rests_opened : (gs : List Segment) (rows : List SegmentRow) (o : Option ℕ) → OpenedAt v0 gs rows o → OpenedAt v1 gs rows o
  rests_opened gs rows None is = tt
  rests_opened gs rows (Some start) is = record {
    segment = is.segment;
    row = is.row;
    known = is.known;
    told = is.told;
    in_progress = is.in_progress;
    appends = rests_appends is.segment is.row.whole_length is.appends;
  }

  pub rests_up : (m : NodeState) (rows : List SegmentRow) (s : NodeState) → IsUp v0 m rows s → IsUp v1 m rows s
  rests_up m rows s up = record {
    held = record { memory = up.held.memory; files = rests_holds s up.held.files; told = up.held.told; sound = up.held.sound };
    opened = rests_opened s.segments rows s.opened up.opened;
  }

  rests_state : (b : Bool) (m : NodeState) (rows : List SegmentRow) (s : NodeState) → HasState b v0 m rows s → HasState b v1 m rows s
  rests_state true m rows s up = rests_up m rows s up
  rests_state false m rows s down = record {
    opened = down.opened;
    serial = down.serial;
    rise = down.rise;
    before = down.before;
    left = subst (λ (f : Files). IsLeft f rows down.before) (sym rests.keeps.seen) down.left;
    filled = down.filled;
    state = down.state;
  }

-- where the disk tells nothing, nothing is said of it
pub rested : (A B : Type 0) (v0 v1 : View) (m : NodeState) (rows : List SegmentRow) → A ↔ B → (A → Rests v0 v1) → IsNode A v0 m rows → IsNode B v1 m rows
rested A B v0 v1 m rows same rests node = record {
  told = node.told;
  known = node.known;
  stands = λ t. let s = node.stands (same.1 t) in (s.0, rests_state v0 v1 (rests (same.1 t)) m.up m rows s.0 s.1);
}

-- ## The state that the files and the table tell
above_rows : (a : ℕ) (gs : List Segment) (rows : List SegmentRow) → AreInfos gs rows → AreAbove a gs → RowsAbove a rows
above_rows a [] [] i h = tt
above_rows a [] (row ∷ rows) i h = absurd i
above_rows a (g ∷ gs) [] i h = tt
above_rows a (g ∷ gs) (row ∷ rows) i h = (rw (start_told g row i.0) h.0, above_rows a gs rows i.1 h.1)

rising_rows : (gs : List Segment) (rows : List SegmentRow) → AreInfos gs rows → AreRising gs → RowsRise rows
rising_rows [] [] i h = tt
rising_rows [] (row ∷ rows) i h = absurd i
rising_rows (g ∷ gs) [] i h = tt
rising_rows (g ∷ gs) (row ∷ rows) i h = (rw (start_told g row i.0) (above_rows g.start gs rows i.1 h.0), rising_rows gs rows i.1 h.1)

row_starts : (gs : List Segment) (rows : List SegmentRow) → AreInfos gs rows → AreStarts gs → AreRowStarts rows
row_starts [] [] i h = tt
row_starts [] (row ∷ rows) i h = absurd i
row_starts (g ∷ gs) [] i h = tt
row_starts (g ∷ gs) (row ∷ rows) i h = (subst (λ (n : ℕ). (1 ≤ n) × (n ≤ 2 ^ 62)) (sym (start_told g row i.0)) h.0, row_starts gs rows i.1 h.1)

pub rows_start : (rows : List SegmentRow) → (gs : List Segment) × Tells gs rows → AreRowStarts rows
rows_start rows told = row_starts told.0 rows told.1.infos told.1.starts

-- of a disk whose crashes leave what is seen
up_told : (v : View) (m : NodeState) (rows : List SegmentRow) (s : NodeState) → v.may_leave v.seen → s.up ≡ true → IsUp v m rows s → state_of v.seen m rows ≡ s
up_told v m rows s now is_up up =
    up_decoded v.seen s m rows (stands_now v s up.held.files v.seen now) up.held.sound.rising (rising_rows s.segments rows up.held.told.infos up.held.sound.rising)
    (row_starts s.segments rows up.held.told.infos up.held.told.starts) (tells_covers s.segments rows up.held.told) up.held.memory is_up

down_told : (v : View) (m : NodeState) (rows : List SegmentRow) (s : NodeState) → AreRowStarts rows → m.up ≡ false → IsDown v m rows s → state_of v.seen m rows ≡ s
down_told v m rows s starts is_down down =
    down_decoded v.seen down.before m rows down.left.stands down.left.sound.rising down.rise starts down.left.covers is_down down.opened down.serial ∙ sym down.state

pub state_told : (b : Bool) (v : View) (m : NodeState) (rows : List SegmentRow) (s : NodeState) → m.up ≡ b → v.may_leave v.seen → AreRowStarts rows → HasState b v m rows s → state_of v.seen m rows ≡ s
state_told true v m rows s is now starts up = up_told v m rows s now (ap (λ (k : NodeState). k.up) (sym up.held.memory) ∙ is) up
state_told false v m rows s is now starts down = down_told v m rows s starts is down

-- ## What is said of told states
none_told : (b : Bool) → (T b → ⊥) → b ≡ false
none_told true not = absurd (not tt)
none_told false not = refl

true_told : (b : Bool) → T b → b ≡ true
true_told true t = refl
true_told false t = absurd t

both : (P : Option NodeState → Option NodeState → Type 0) (x y : NodeState) (a b : Bool) → P None None → (T a → T b) → (T b → T a)
    → (T a → P (Some x) (Some y)) → P (cond a (Some x) None) (cond b (Some y) None)
both P x y true true none on back some = some tt
both P x y true false none on back some = absurd (on tt)
both P x y false true none on back some = absurd (back tt)
both P x y false false none on back some = none

-- what holds of the states that stand holds of those that are told
pub told_both : {A B : Type 0} (a b : Bool) {v0 v1 : View} {m0 m1 : NodeState} {rows0 rows1 : List SegmentRow} (P : Option NodeState → Option NodeState → Type 0)
    → P None None → A ↔ T a → B ↔ T b → A ↔ B → IsNode A v0 m0 rows0 → IsNode B v1 m1 rows1 → (A → v0.may_leave v0.seen) → (B → v1.may_leave v1.seen)
    → (A → (s : NodeState) → HasState m0.up v0 m0 rows0 s → (t : NodeState) × HasState m1.up v1 m1 rows1 t × P (Some s) (Some t))
    → P (told_state a v0.seen m0 rows0) (told_state b v1.seen m1 rows1)
told_both a b {v0 = v0} {v1 = v1} {m0 = m0} {m1 = m1} {rows0 = rows0} {rows1 = rows1} P none is_a is_b same node0 node1 now0 now1 step =
    both P (state_of v0.seen m0 rows0) (state_of v1.seen m1 rows1) a b none (λ t. is_b.0 (same.0 (is_a.1 t))) (λ t. is_a.0 (same.1 (is_b.1 t)))
    (λ t.
    let tells = is_a.1 t in
    let s = node0.stands tells in
    let d = step tells s.0 s.1 in
    let e0 : state_of v0.seen m0 rows0 ≡ s.0 = state_told m0.up v0 m0 rows0 s.0 refl (now0 tells) (rows_start rows0 node0.told) s.1 in
    let e1 : state_of v1.seen m1 rows1 ≡ d.0 = state_told m1.up v1 m1 rows1 d.0 refl (now1 (same.0 tells)) (rows_start rows1 node1.told) d.1 in
    subst (λ (x : NodeState). P (Some x) (Some (state_of v1.seen m1 rows1))) (sym e0) (subst (λ (y : NodeState). P (Some s.0) (Some y)) (sym e1) d.2))

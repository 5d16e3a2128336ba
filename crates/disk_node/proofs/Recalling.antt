-- A node that is up holds the newest edits of the cached segment, and reads no file where all that
-- is asked is held.
use Rattle.std.proofs.Common.{ℕ, ◌≡◌, ◌≢◌, ◌↔◌, ◌≤◌, ◌<◌, ◌+◌, true, false, List, [], length, Option, Some, None, refl, sym, ap, subst, ◌∙◌, arith}
use Rattle.std.proofs.lemmas.Bool.Decides.{nat_tests}
use Rattle.base_disk.specs.View.{View}
use Rattle.base_disk.specs.Calls.{Rests}
use Rattle.journal_core.specs.declared.segment.Segment.{Segment}
use Rattle.journal_core.specs.declared.node_state.NodeState.{NodeState}
use Rattle.journal_core.specs.declared.request.Request.{Request}
use Rattle.journal_core.specs.declared.request.Request.TheVariants.{State, NewEpoch, Start, Journal, Finalize, Prepare, Fetch, Accept, Purge, Read, Manifest}
use Rattle.journal_core.specs.Segments.{find_segment}
use Rattle.journal_core.specs.Effects.{Effect, after_effects}
use Rattle.journal_core.specs.Step.{refused_at_once, row_refused, fetch_refused, fronted, effects_of}
use Rattle.journal_core.proofs.SegmentLists.{find-start}
use Rattle.disk_segment.specs.declared.segment_row.SegmentRow.{SegmentRow}
use Rattle.journal_step.specs.declared.durable_effect.DurableEffect.{DurableEffect}
use Rattle.disk_recent.specs.Recent.{Recent, IsRecent, AsksRecent, FitsRing, held_from, nothing}
use Rattle.disk_recent.proofs.Reading.{is_held}
use Rattle.disk_node.specs.Done.{effects_by}
use Rattle.disk_node.specs.Node.{IsUp, IsNode, IsWhole, Recalls, state_behind}
use Rattle.disk_node.proofs.NodeStands.{state_told, rows_start, rests_up}
use Rattle.disk_node.proofs.ActingDone.{is_up, up_of, has_up, settled_segments}

-- ## What is held
-- a node that is up has one state
pub one_state : (v : View) (m : NodeState) (rows : List SegmentRow) (s t : NodeState) → m.up ≡ true → v.may_leave v.seen → IsUp v m rows s → IsUp v m rows t → s ≡ t
one_state v m rows s t up now a b =
    sym (state_told true v m rows s up now (rows_start rows (s.segments, a.held.told)) a) ∙ state_told true v m rows t up now (rows_start rows (t.segments, b.held.told)) b

pub recalls_of : (v : View) (m : NodeState) (rows : List SegmentRow) (recent : Recent) (s : NodeState) → v.may_leave v.seen
    → (m.up ≡ true → IsUp v m rows s) → IsRecent recent s.segments → Recalls v m rows recent
recalls_of v m rows recent s now is held t up there = subst (λ (x : NodeState). IsRecent recent x.segments) (one_state v m rows s t up now (is up) there) held

pub recalls_rests : (A : Type 0) (v0 v1 : View) (m : NodeState) (rows : List SegmentRow) (recent : Recent) → IsNode A v0 m rows → A
    → v1.may_leave v1.seen → Rests v0 v1 → Recalls v0 m rows recent → Recalls v1 m rows recent
recalls_rests A v0 v1 m rows recent node told now rests recalls s up there =
    let was = node.stands told in
    let is : IsUp v0 m rows was.0 = up_of v0 m rows was.0 up was.1 in
    recalls_of v1 m rows recent was.0 now (λ u. rests_up v0 v1 rests m rows was.0 is) (recalls was.0 up is) s up there

-- what holds of a node holds where no file changed
pub whole_rests : (A B : Type 0) (v0 v1 : View) (m : NodeState) (rows : List SegmentRow) (recent : Recent) (r : Request) → refused_at_once m r ≡ None → A ↔ B
    → (B → v1.may_leave v1.seen) → (A → Rests v0 v1) → IsWhole A v0 m rows recent → IsWhole B v1 m rows recent
whole_rests A B v0 v1 m rows recent r none same now rests whole = record {
  node = record {
    told = whole.node.told;
    known = whole.node.known;
    stands = λ b.
        let a = same.1 b in
        let is = is_up m r none in
        let s = whole.node.stands a in
        (s.0, has_up v1 m rows s.0 is (rests_up v0 v1 (rests a) m rows s.0 (up_of v0 m rows s.0 is s.1)));
  };
  recalls = λ b. let a = same.1 b in recalls_rests A v0 v1 m rows recent whole.node a (now b) (rests a) (whole.recalls a);
}

-- the segments after a request are those after its effects
pub after_recent : (recent : Recent) (s : NodeState) (r : Request) (ds : List DurableEffect) → effects_by r ds ≡ effects_of s r
    → IsRecent recent (after_effects s (effects_by r ds)).segments → IsRecent recent (state_behind s r).segments
after_recent recent s r ds are held =
    subst (λ (gs : List Segment). IsRecent recent gs) (ap (λ (es : List Effect). (after_effects s es).segments) are
    ∙ sym (settled_segments (row_refused (fronted s r) r) (after_effects s (effects_of s r)) (fronted s r) r)) held

pub recalls_down : (v : View) (m : NodeState) (rows : List SegmentRow) (recent : Recent) → m.up ≡ false → Recalls v m rows recent
recalls_down v m rows recent down s up is = absurd (cc)

pub recalls_nothing : (v : View) (m : NodeState) (rows : List SegmentRow) (recent : Recent) → recent ≡ nothing → Recalls v m rows recent
recalls_nothing v m rows recent none s up is = subst (λ (x : Recent). IsRecent x s.segments) (sym none) refl

-- ## What is asked
-- the front of a request leaves what is asked as it is
pub asks_front : (cached : Option ℕ) (s : NodeState) (r : Request) → AsksRecent cached s r → AsksRecent cached (fronted s r) r
asks_front cached s State asks = asks
asks_front cached s (NewEpoch epoch) asks = asks
asks_front cached s (Start h start) asks = asks
asks_front cached s (Journal h start b) asks = asks
asks_front cached s (Finalize h start end) asks = asks
asks_front cached s (Prepare h start) asks = asks
asks_front cached s (Fetch h start from) asks = asks
asks_front cached s (Accept h b) asks = asks
asks_front cached s (Purge h least) asks = asks
asks_front cached s (Read from) asks = asks
asks_front cached s Manifest asks = asks

pub read_held : (recent : Recent) (s : NodeState) (from count : ℕ) (line_start : ℕ) (g : Segment) → IsRecent recent s.segments
    → find_segment line_start s.segments ≡ Some g → g.start ≤ from → from < g.start + count → count ≤ length g.bodies
    → FitsRing recent.start g from → held_from recent line_start from ≢ []
read_held recent s from count start g held known low high long fits =
    let at : g.start ≡ start = find-start start s.segments g known in
    is_held recent s.segments start from g held known (omega (arith, at)) (omega (arith, at)) fits

pub fetch_within : (from : ℕ) (g : Segment) → fetch_refused from (Some g) ≡ None → (g.start ≤ from) × (from < g.start + length g.bodies)
fetch_within from g none = (grind (arith, nat_tests), grind (arith, nat_tests))

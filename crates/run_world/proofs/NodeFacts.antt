-- The nodes of a world, one by one: what holds of them, and what an event did to them.
use Rattle.std.proofs.Common.{◌≡◌, ◌≢◌, ℕ, ◌+◌, ◌-◌, ◌≤◌, ◌⊎◌, inl, inr, List, [], ◌∷◌, Bool, true, false, length, refl, sym, ap, ◌∙◌, subst, arith}
use Rattle.std.proofs.Common.{Option, Some, None, slice_get, get_or-set_same, get_or-set_other}
use Rattle.journal_core.specs.Segments.{find_segment, has_edit, any_body}
use Rattle.journal_core.specs.Step.{node_step}
use Rattle.journal_core.specs.declared.segment.Segment.{Segment}
use Rattle.journal_core.specs.declared.node_state.NodeState.{NodeState}
use Rattle.journal_core.specs.declared.request.Request.{Request}
use Rattle.journal_core.specs.declared.heard.Heard.TheVariants as heard
use Rattle.run_safety.specs.declared.event.Fate.{Fate}
use Rattle.run_safety.specs.declared.event.Fate.TheVariants as fate
use Rattle.run_world.specs.declared.seen.Seen.TheVariants as seen
use Rattle.journal_history.specs.declared.node_ask.NodeAsk.{NodeAsk}
use Rattle.journal_history.specs.declared.node_ask.NodeAsk.TheVariants as ask
use Rattle.journal_history.specs.declared.node_ask.NodeAnswer.{NodeAnswer}
use Rattle.journal_history.specs.Cell.{Cell, fresh_cell, arm_at_once, heard_of}
use Rattle.run_world.specs.Complete.{IsHeeded, IsAnswered}
use Rattle.journal_history.specs.Entries.{now, node_after}
use Rattle.run_safety.specs.Parts.{IsAfterFinalised}
use Rattle.run_world.specs.World.{World, cell_at, taken_at, node_asked, call_heard, call_reached}
use Rattle.run_safety.proofs.SoundNodes.{stored_after, led_after}
use Rattle.run_safety.proofs.Kept.{segments_chained}
use Rattle.journal_core.proofs.SegmentLists.{find-start}
use Rattle.run_safety.proofs.Slots.{true≢false}
use Rattle.run_world.proofs.Ranges.{small_after, ends_after}
use Rattle.journal_history.proofs.CellLaws.{promise}
use Rattle.run_safety.proofs.Entering.{Asked, replied, cut_off, asked}
use Rattle.run_world.proofs.Serves.{Sane}
use Rattle.run_world.proofs.WorldNodes.{entries, stopping_state}
use Rattle.run_world.proofs.WorldEntries.{state_at}
use Rattle.run_world.proofs.WorldRuns.{Runs, runs_follow}

abbrev pub state : World → ℕ → NodeState
state w i = (cell_at i w).state

-- ## Every node is sane
first_body : (bodies : List (List ℕ)) → any_body bodies ≡ true → (x : List ℕ) × (slice_get bodies 0 ≡ Some x)
first_body [] e = true≢false (sym e)
first_body (b ∷ bodies) e = (b, refl)

pub sane : (n : ℕ) (w : World) (i : ℕ) → Runs n w → 1 ≤ i → i ≤ n → Sane (state w i)
sane n w i h low high = subst Sane (sym (state_at n w i h.agree low high)) (record {
  sound = led_after i (entries w.trace);
  durable = stored_after i (entries w.trace);
  small = small_after i (entries w.trace);
  ends = λ t. ends_after i t (entries w.trace);
  starts = starts;
})
  where
    starts : (t : ℕ) (g : Segment) → find_segment t (node_after i (entries w.trace)).segments ≡ Some g → has_edit g ≡ true → 1 ≤ t
    starts t g found edit =
        let start : g.start ≡ t = find-start t (node_after i (entries w.trace)).segments g found in
        let here : find_segment g.start (node_after i (entries w.trace)).segments ≡ Some g = subst (λ (j : ℕ). find_segment j (node_after i (entries w.trace)).segments ≡ Some g) (sym start) found in
        let x = first_body g.bodies edit in
        let at : g.start ≡ g.start + 0 = omega arith in
        by (segments_chained n h.tale.story (entries w.trace) (runs_follow n w h) i g g.start x.0 (entries w.trace, now, here) (0, at, x.1)) start
      where
        by : IsAfterFinalised n (entries w.trace) g.epoch g.start → g.start ≡ t → 1 ≤ t
        by (inl e) s = omega (arith, e, s)
        by (inr x) s = omega (arith, x.4, s)

-- ## What was asked of a node
pub asked_here : (n node caller : ℕ) (muted : Bool) (stop : Option ℕ) (q : NodeAsk) (w : World) → length w.cells ≡ n → 1 ≤ node → node ≤ n
    → cell_at node (node_asked node caller muted stop q w) ≡ (taken_at node stop q w).cell
unfolding node_asked
asked_here n node caller muted stop q w size low high = get_or-set_same w.cells (node - 1) (taken_at node stop q w).cell fresh_cell (omega (arith, size, low, high))

pub asked_other : (node caller i : ℕ) (muted : Bool) (stop : Option ℕ) (q : NodeAsk) (w : World) → 1 ≤ node → 1 ≤ i → i ≢ node → cell_at i (node_asked node caller muted stop q w) ≡ cell_at i w
unfolding node_asked
asked_other node caller i muted stop q w low from off =
    let other : i - 1 ≢ node - 1 = λ (e : i - 1 ≡ node - 1). absurd (off (omega (arith, e, low, from))) in
    get_or-set_other w.cells (node - 1) (i - 1) (taken_at node stop q w).cell fresh_cell other

-- a node's state was left, changed by a request, or the node fell
pub data Changed (s : NodeState) (q : Request) (t : NodeState) : Type 0 where
  still : t ≡ s → Changed s q t
  by_request : t ≡ (node_step s q).state → Changed s q t
  fell : t.up ≡ false → Changed s q t

pub did : (node : ℕ) (stop : Option ℕ) (late : Bool) (q : Request) (w : World) → Asked (state w node) q (taken_at node stop (ask.Act late q) w)
did node stop late q w =
    subst (λ (s : NodeState). Asked s q (taken_at node stop (ask.Act late q) w)) (stopping_state stop (cell_at node w)) (asked (arm_at_once stop (cell_at node w)) late q)

did_change : (node : ℕ) (stop : Option ℕ) (late : Bool) (q : Request) (w : World) → Asked (state w node) q (taken_at node stop (ask.Act late q) w)
    → Changed (state w node) q (taken_at node stop (ask.Act late q) w).cell.state
did_change node stop late q w (replied a e) = by_request e
did_change node stop late q w (cut_off keep a e up le) = fell (ap (λ (s : NodeState). s.up) e)

pub request_changed : (n node caller i : ℕ) (muted : Bool) (stop : Option ℕ) (late : Bool) (q : Request) (w : World) → length w.cells ≡ n → 1 ≤ node → node ≤ n → 1 ≤ i
    → (i ≢ node → state (node_asked node caller muted stop (ask.Act late q) w) i ≡ state w i)
    × (i ≡ node → Changed (state w i) q (state (node_asked node caller muted stop (ask.Act late q) w) i))
request_changed n node caller i muted stop late q w size low high from = (
  λ off. ap (λ (c : Cell). c.state) (asked_other node caller i muted stop (ask.Act late q) w low from off),
  λ same. subst (λ (j : ℕ). Changed (state w j) q (state (node_asked node caller muted stop (ask.Act late q) w) j)) (sym same)
      (subst (λ (c : Cell). Changed (state w node) q c.state) (sym (asked_here n node caller muted stop (ask.Act late q) w size low high)) (did_change node stop late q w (did node stop late q w))),
)

-- the promise never falls
pub promise_kept : (n node caller i : ℕ) (muted : Bool) (stop : Option ℕ) (q : NodeAsk) (w : World) → length w.cells ≡ n → 1 ≤ node → node ≤ n → 1 ≤ i → (i ≡ node) ⊎ (i ≢ node)
    → (state w i).promised ≤ (state (node_asked node caller muted stop q w) i).promised
promise_kept n node caller i muted stop q w size low high from (inr off) = let e : cell_at i (node_asked node caller muted stop q w) ≡ cell_at i w =
    asked_other node caller i muted stop q w low from off in omega (arith, ap (λ (c : Cell). c.state.promised) e)
promise_kept n node caller i muted stop q w size low high from (inl same) =
    subst (λ (j : ℕ). (state w j).promised ≤ (state (node_asked node caller muted stop q w) j).promised) (sym same) (
    let e : (cell_at node (node_asked node caller muted stop q w)).state.promised ≡ (taken_at node stop q w).cell.state.promised =
    ap (λ (c : Cell). c.state.promised) (asked_here n node caller muted stop q w size low high) in
    let up : (arm_at_once stop (cell_at node w)).state.promised ≤ (taken_at node stop q w).cell.state.promised = promise (arm_at_once stop (cell_at node w)) q in
    let at : (arm_at_once stop (cell_at node w)).state.promised ≡ (cell_at node w).state.promised = ap (λ (s : NodeState). s.promised) (stopping_state stop (cell_at node w)) in
    omega (arith, e, up, at)
    )

-- ## A call that was answered
pub record WasServed (n : ℕ) (w : World) (c node : ℕ) (q : Request) (f : Fate) : Type 0 where
  pub heard : call_heard f node q w ≡ heard.Answer (node_step (state w node) q).reply
  pub heeded : IsHeeded (node_step (state w node) q).reply
  pub after : state (call_reached f c node q w) node ≡ (node_step (state w node) q).state

served_by : (n : ℕ) (w : World) (c node : ℕ) (q : Request) (stop : Option ℕ) → length w.cells ≡ n → 1 ≤ node → node ≤ n → Asked (state w node) q (taken_at node stop (ask.Act false q) w)
    → IsAnswered (seen.Heard (heard_of (taken_at node stop (ask.Act false q) w).answer))
    → (heard_of (taken_at node stop (ask.Act false q) w).answer ≡ heard.Answer (node_step (state w node) q).reply) × IsHeeded (node_step (state w node) q).reply
    × (state (node_asked node c false stop (ask.Act false q) w) node ≡ (node_step (state w node) q).state)
served_by n w c node q stop size low high (replied a e) h = (
  ap heard_of a,
  subst (λ (x : NodeAnswer). IsAnswered (seen.Heard (heard_of x))) a h,
  ap (λ (x : Cell). x.state) (asked_here n node c false stop (ask.Act false q) w size low high) ∙ e,
)
served_by n w c node q stop size low high (cut_off keep a e up le) h = absurd (subst (λ (x : NodeAnswer). IsAnswered (seen.Heard (heard_of x))) a h)

pub was_served : (n : ℕ) (w : World) (c node : ℕ) (q : Request) (f : Fate) → length w.cells ≡ n → 1 ≤ node → node ≤ n → IsAnswered (seen.Heard (call_heard f node q w)) → WasServed n w c node q f
unfolding call_reached
was_served n w c node q fate.Heard size low high h = let x = served_by n w c node q None size low high (did node None false q w) h in record { heard = x.0; heeded = x.1; after = x.2 }
was_served n w c node q fate.Muted size low high h = absurd h
was_served n w c node q fate.Dropped size low high h = absurd h
was_served n w c node q (fate.Stopped keep) size low high h = let x =
    served_by n w c node q (Some keep) size low high (did node (Some keep) false q w) h in record { heard = x.0; heeded = x.1; after = x.2 }

-- the other nodes
pub call_other : (w : World) (c node i : ℕ) (q : Request) (f : Fate) → 1 ≤ node → 1 ≤ i → i ≢ node → state (call_reached f c node q w) i ≡ state w i
unfolding call_reached
call_other w c node i q fate.Heard low from off = ap (λ (x : Cell). x.state) (asked_other node c i false None (ask.Act false q) w low from off)
call_other w c node i q fate.Muted low from off = ap (λ (x : Cell). x.state) (asked_other node c i true None (ask.Act false q) w low from off)
call_other w c node i q fate.Dropped low from off = refl
call_other w c node i q (fate.Stopped keep) low from off = ap (λ (x : Cell). x.state) (asked_other node c i false (Some keep) (ask.Act false q) w low from off)

-- and what it did to its own node, whatever its fate
pub call_changed : (n : ℕ) (w : World) (c node : ℕ) (q : Request) (f : Fate) → length w.cells ≡ n → 1 ≤ node → node ≤ n → Changed (state w node) q (state (call_reached f c node q w) node)
unfolding call_reached
call_changed n w c node q fate.Heard size low high = (request_changed n node c node false None false q w size low high low).1 refl
call_changed n w c node q fate.Muted size low high = (request_changed n node c node true None false q w size low high low).1 refl
call_changed n w c node q fate.Dropped size low high = still refl
call_changed n w c node q (fate.Stopped keep) size low high = (request_changed n node c node false (Some keep) false q w size low high low).1 refl

pub call_promise : (n : ℕ) (w : World) (c node i : ℕ) (q : Request) (f : Fate) → length w.cells ≡ n → 1 ≤ node → node ≤ n → 1 ≤ i
    → (i ≡ node) ⊎ (i ≢ node) → (state w i).promised ≤ (state (call_reached f c node q w) i).promised
unfolding call_reached
call_promise n w c node i q fate.Heard size low high from x = promise_kept n node c i false None (ask.Act false q) w size low high from x
call_promise n w c node i q fate.Muted size low high from x = promise_kept n node c i true None (ask.Act false q) w size low high from x
call_promise n w c node i q fate.Dropped size low high from x = omega arith
call_promise n w c node i q (fate.Stopped keep) size low high from x = promise_kept n node c i false (Some keep) (ask.Act false q) w size low high from x

-- The states of nodes at the end of their histories, and their final segments.
use Rattle.std.proofs.Common.{◌≡◌, ℕ, zero, suc, ◌+◌, ◌<◌, ◌==◌, List, [], ◌∷◌, length, reverse, get_or, Some, true, inl, inr, refl, sym, ap, ◌∙◌, subst, arith}
use Rattle.std.specs.Prelude.{slice_get}
use Rattle.std.proofs.lemmas.Bool.{cond-true}
use Rattle.std.proofs.lemmas.List.{append-nil}
use Rattle.journal_core.specs.Reads.{served}
use Rattle.journal_core.specs.Step.{node_step}
use Rattle.journal_core.specs.declared.request.Request.TheVariants.{Read}
use Rattle.journal_core.specs.Segments.{find_segment, AreRising, HasAt}
use Rattle.journal_core.specs.declared.node_state.NodeState.{NodeState}
use Rattle.journal_core.specs.declared.segment.Segment.{Segment}
use Rattle.journal_core.proofs.Changes.{In, find-in}
use Rattle.journal_history.specs.Cell.{fresh_cell, cell_after, IsLocalRun}
use Rattle.journal_history.specs.Entries.{Entry, node_after}
use Rattle.journal_history.specs.Moving.{moving_of}
use Rattle.journal_history.specs.declared.history_line.HistoryLine.{HistoryLine}
use Rattle.run_safety.proofs.SoundNodes.{stored_after}
use Rattle.run_safety.proofs.Served.{served_on_line}
use Rattle.mesh.specs.declared.whole.Mesh.{Mesh}
use Rattle.mesh.specs.Agree.{Agrees, history_at}
use Rattle.mesh.specs.Order.{epoch_order, placed_from, placed_at, entries_at}
use Rattle.play_model.specs.Plays.{states_after}
use Rattle.play_laws.specs.Linear.{IsLinear, OnLine}
use Rattle.play_laws.specs.Finals.{FinalsAreOnLine}
use Rattle.play_laws.specs.EndReads.{EndReadsAreOnLine}
use Rattle.play_laws.proofs.ReadLaws.{node_only, history_state, reverse_filter, gives_line}
use Rattle.play_laws.proofs.Safeties.{epoch_order_linear}

-- ## A history's state
-- at its end it is that of the entries of its node
end_state : (m : Mesh) (entries : List Entry) (i : ℕ) → IsLinear m entries → i < m.nodes → IsLocalRun fresh_cell (history_at m i)
    → (cell_after fresh_cell (history_at m i)).state ≡ node_after (i + 1) (reverse entries)
unfolding node_after
end_state m entries i lin in_ run =
    let k : ℕ = i + 1 in
    let xs : List Entry = moving_of (placed_at m i) in
    let at : entries_at k entries ≡ xs = lin.at_nodes i in_ in
    unfold node_after in (
    history_state m k [] (history_at m i) fresh_cell [] refl run ∙ ap (node_after k) (append-nil (reverse xs)) ∙ ap (λ (es : List Entry). node_after k (reverse es)) (sym at)
    ∙ ap (node_after k) (sym (reverse_filter (λ (e : Entry). e.node == k) entries)) ∙ sym (node_only k (reverse entries)))

state_in : (hs : List (List HistoryLine)) (i : ℕ) (s : NodeState) → slice_get (states_after hs) i ≡ Some (Some s) → (i < length hs) × ((cell_after fresh_cell (get_or hs i [])).state ≡ s)
state_in [] i s e = cc
state_in (h ∷ hs) zero s e = let same : (cell_after fresh_cell h).state ≡ s = cc in (omega arith, same)
state_in (h ∷ hs) (suc i) s e = let r = state_in hs i s e in (omega (arith, r.0), r.1)

-- at the end of a mesh's histories it is that of the epoch order
node_is : (m : Mesh) (i : ℕ) (s : NodeState) → Agrees m → slice_get (states_after m.histories) i ≡ Some (Some s) → node_after (i + 1) (reverse (epoch_order m)) ≡ s
node_is m i s a e =
    let at = state_in m.histories i s e in
    let in_ : i < m.nodes = omega (arith, at.0, a.histories) in
    sym (end_state m (epoch_order m) i (epoch_order_linear m a) in_ (a.lists.local i in_)) ∙ at.1

-- ## Lists of segments
in_at : (k : ℕ) (gs : List Segment) (g : Segment) → k < length gs → get_or gs k g ≡ g → In g gs
in_at k [] g l e = absurd (omega (arith, l))
in_at zero (x ∷ gs) g l e = inl e
in_at (suc k) (x ∷ gs) g l e = inr (in_at k gs g (omega (arith, l)) e)

-- ## On the line
final_body : (s : NodeState) (g : Segment) (k : ℕ) (body : List ℕ) → g.is_final ≡ true → slice_get g.bodies k ≡ Some body → slice_get (served s g) k ≡ Some body
final_body s g k body f has = ap (λ (bs : List (List ℕ)). slice_get bs k) (cond-true g.is_final g.bodies _ f) ∙ has

pub finals_are_on_line : FinalsAreOnLine
finals_are_on_line m i txid s g body a e there final has =
    let lin : IsLinear m (epoch_order m) = epoch_order_linear m a in
    let is : node_after (i + 1) (reverse (epoch_order m)) ≡ s = node_is m i s a e in
    let rising : AreRising s.segments = subst (λ (x : NodeState). AreRising x.segments) is (stored_after (i + 1) (reverse (epoch_order m))).rising in
    let found : find_segment g.start (node_after (i + 1) (reverse (epoch_order m))).segments ≡ Some g =
    ap (λ (x : NodeState). find_segment g.start x.segments) is ∙ find-in g s.segments rising (in_at there.0 s.segments g there.1 there.2) in
    subst (λ (t : ℕ). OnLine m (epoch_order m) t body) (sym has.1)
    (served_on_line m.nodes lin.run.0 (reverse (epoch_order m)) lin.run.1 (i + 1) g has.0 body found (final_body (node_after (i + 1) (reverse (epoch_order m))) g has.0 body final has.2))

pub end_reads_are_on_line : EndReadsAreOnLine
end_reads_are_on_line m i t s batch a e gave =
    let lin : IsLinear m (epoch_order m) = epoch_order_linear m a in
    let is : node_after (i + 1) (reverse (epoch_order m)) ≡ s = node_is m i s a e in
    gives_line m.nodes lin.run.0 (reverse (epoch_order m)) lin.run.1 (i + 1) t batch (ap (λ (x : NodeState). (node_step x (Read (t + 1))).reply) is ∙ gave)

-- In an order that keeps the order of each node, each node answers as its history tells.
use Rattle.std.proofs.Common.{◌≡◌, ◌≢◌, ℕ, ◌+◌, ◌-◌, ◌<◌, ◌≤◌, ◌==◌, inl, inr, List, [], ◌∷◌, ◌++◌, Bool, refl, sym, ap, ◌∙◌, subst, arith, Option, Some, None}
use Rattle.std.specs.Prelude.{filter_map}
use Rattle.journal_core.specs.declared.node_state.NodeState.{NodeState}
use Rattle.journal_history.specs.declared.history_line.HistoryLine.{HistoryLine}
use Rattle.journal_history.specs.Cell.{Cell, cell_takes, fresh_cell, IsLocalRun}
use Rattle.journal_history.specs.Entries.{Move, Entry, after_move, node_after}
use Rattle.journal_history.specs.Moving.{Placed, move_of, entry_at, entry_of, moving_of}
use Rattle.run_safety.proofs.Entering.{Did, still, gone, line_did}
use Rattle.mesh.specs.declared.whole.Mesh.{Mesh}
use Rattle.mesh.specs.Agree.{Agrees, history_at}
use Rattle.mesh.specs.Order.{is_muted, line_of_caller, placed_from, placed_at, entries_at}
use Rattle.mesh.proofs.Lists.{Alike, alike, same_test, cond_true, cond_false}
use Rattle.run_safety.proofs.Fair.{IsDue, IsSoundEntry, Sounds}
use Rattle.mesh.proofs.OrderLaws.{back_onto}

-- ## One node: from this state on
unfoldable pub SoundFrom : NodeState → List Entry → Type 0
SoundFrom s [] = Unit {0}
SoundFrom s (e ∷ es) = IsDue s e.move × (after_move s e.move ≢ s) × SoundFrom (after_move s e.move) es

first_sound : (s : NodeState) (x : Placed) (o : Option Entry) (xs : List Placed) → entry_of x ≡ o
    → (o ≡ None → SoundFrom s (filter_map entry_of xs)) → ((e : Entry) → o ≡ Some e → SoundFrom s (e ∷ filter_map entry_of xs)) → SoundFrom s (filter_map entry_of (x ∷ xs))
first_sound s x None xs e h g = rw e (h refl)
first_sound s x (Some y) xs e h g = rw e (g y refl)

none_entry : (k : ℕ) (o : Option Move) (e : Entry) → o ≡ None → entry_at k o ≡ Some e → ⊥
none_entry k None e f g = cc g
none_entry k (Some v) e f g = cc f

some_entry : (k : ℕ) (o : Option Move) (v : Move) → o ≡ Some v → entry_at k o ≡ None → ⊥
some_entry k None v f g = cc f
some_entry k (Some w) v f g = cc g

move_entry : (k : ℕ) (o : Option Move) (v : Move) (e : Entry) → o ≡ Some v → entry_at k o ≡ Some e → v ≡ e.move
move_entry k None v e f g = absurd (cc f)
move_entry k (Some w) v e f g = let same : record { node = k; move = w } ≡ e = cc g in let one : w ≡ v = cc f in sym one ∙ ap (λ (z : Entry). z.move) same

history_sound : (m : Mesh) (k : ℕ) (cell : Cell) (past hs : List HistoryLine) → IsLocalRun cell hs → SoundFrom cell.state (filter_map entry_of (placed_from m k past hs))
unfolding placed_from IsLocalRun SoundFrom entry_of
history_sound m k cell past [] run = tt
history_sound m k cell past (h ∷ hs) run =
    by (line_did cell h.ask h.caller muted) (history_sound m k (cell_takes cell h.ask).cell (past ++ h ∷ []) hs run.1)
  where
    muted : Bool
    muted = is_muted (line_of_caller m k past h)

    told : move_of h.caller (is_muted (line_of_caller m k past h)) h.ask h.answer ≡ move_of h.caller (is_muted (line_of_caller m k past h)) h.ask (cell_takes cell h.ask).answer
    told = ap (move_of h.caller (is_muted (line_of_caller m k past h)) h.ask) run.0

    by : Did cell.state (cell_takes cell h.ask).cell.state (move_of h.caller (is_muted (line_of_caller m k past h)) h.ask (cell_takes cell h.ask).answer)
        → SoundFrom (cell_takes cell h.ask).cell.state (filter_map entry_of (placed_from m k (past ++ h ∷ []) hs))
        → SoundFrom cell.state (filter_map entry_of (record { node = k; line = h; muted = is_muted (line_of_caller m k past h) } ∷ placed_from m k (past ++ h ∷ []) hs))
    by (still is same) s = first_sound cell.state (record { node = k; line = h; muted = is_muted (line_of_caller m k past h) }) _ (placed_from m k (past ++ h ∷ []) hs) refl
        (λ none. subst (λ (z : NodeState). SoundFrom z (filter_map entry_of (placed_from m k (past ++ h ∷ []) hs))) same s)
        (λ e some. absurd (none_entry k _ e (told ∙ is) some))
    by (gone v is due same off) s = first_sound cell.state (record { node = k; line = h; muted = is_muted (line_of_caller m k past h) }) _ (placed_from m k (past ++ h ∷ []) hs) refl
        (λ none. absurd (some_entry k _ v (told ∙ is) none))
        (λ e some. subst (λ (w : Move). IsDue cell.state w × (after_move cell.state w ≢ cell.state) × SoundFrom (after_move cell.state w) (filter_map entry_of (placed_from m k (past ++ h ∷ []) hs)))
        (move_entry k _ v e (told ∙ is) some)
        (due, (λ f. off (same ∙ f)), subst (λ (z : NodeState). SoundFrom z (filter_map entry_of (placed_from m k (past ++ h ∷ []) hs))) same s))

pub node_sound : (m : Mesh) (i : ℕ) → Agrees m → i < m.nodes → SoundFrom (node_after (i + 1) []) (moving_of (placed_at m i))
unfolding moving_of node_after
node_sound m i a in_ = history_sound m (i + 1) fresh_cell [] (history_at m i) (a.lists.local i in_)

-- ## All nodes
unfoldable pub AllWithin : ℕ → List Entry → Type 0
AllWithin n [] = Unit {0}
AllWithin n (e ∷ es) = (1 ≤ e.node) × (e.node ≤ n) × AllWithin n es

pub sounds_on : (n : ℕ) (es past : List Entry) → AllWithin n es → Sounds n past → ((i : ℕ) → i < n → SoundFrom (node_after (i + 1) past) (entries_at (i + 1) es)) → Sounds n (back_onto es past)
unfolding back_onto AllWithin SoundFrom node_after Alike
sounds_on n [] past w s h = s
sounds_on n (e ∷ es) past w s h = sounds_on n es (e ∷ past) w.2 (here, s) (λ i l. next i l (alike e.node (i + 1)))
  where
    back : e.node ≡ e.node - 1 + 1
    back = omega (arith, w.0)

    first : SoundFrom (node_after e.node past) (e ∷ entries_at e.node es)
    first =
        subst (SoundFrom (node_after e.node past)) (cond_true (e.node == e.node) (e ∷ entries_at e.node es) (entries_at e.node es) (same_test e.node e.node refl))
        (subst (λ (k : ℕ). SoundFrom (node_after k past) (entries_at k (e ∷ es))) (sym back) (h (e.node - 1) (omega (arith, w.0, w.1))))

    here : IsSoundEntry n past e
    here = record { from_one = w.0; up_to_n = w.1; due = first.0; moves = first.1 }

    next : (i : ℕ) → i < n → Alike e.node (i + 1) → SoundFrom (node_after (i + 1) (e ∷ past)) (entries_at (i + 1) es)
    next i l (inl f) =
        subst (λ (k : ℕ). SoundFrom (node_after k (e ∷ past)) (entries_at k es)) f.1
        (subst (λ (z : NodeState). SoundFrom z (entries_at e.node es))
        (sym (cond_true (e.node == e.node) (after_move (node_after e.node past) e.move) (node_after e.node past) (same_test e.node e.node refl)))
        first.2)
    next i l (inr f) =
        subst (λ (z : NodeState). SoundFrom z (entries_at (i + 1) es)) (sym (cond_false (e.node == i + 1) (after_move (node_after (i + 1) past) e.move) (node_after (i + 1) past) f.0))
        (subst (SoundFrom (node_after (i + 1) past)) (cond_false (e.node == i + 1) (e ∷ entries_at (i + 1) es) (entries_at (i + 1) es) f.0) (h i l))

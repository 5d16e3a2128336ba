-- The nodes of a world, against the entries of its trace.
use Rattle.std.proofs.Common.{◌≡◌, ◌≢◌, ℕ, suc, ◌-◌, ◌<◌, ◌≤◌, ◌⊎◌, inl, inr, List, [], ◌∷◌, ◌++◌, Bool, true, false, not, cond, ◌&&◌, length, refl}
use Rattle.std.proofs.Common.{sym, ap, ◌∙◌, arith, Option, Some, None, reverse, get_or, set, length-set, get_or-set_same, get_or-set_other}
use Rattle.std.specs.List.{filter_map}
use Rattle.std.proofs.lemmas.Bool.{cases_eq}
use Rattle.std.proofs.lemmas.List.{reverse-append}
use Rattle.std.proofs.lemmas.List.Elements.{filter_map-append}
use Rattle.journal_core.specs.declared.node_state.NodeState.{NodeState}
use Rattle.journal_history.specs.declared.node_ask.NodeAsk.{NodeAsk}
use Rattle.journal_history.specs.Cell.{Cell, fresh_cell, is_due, arm_at_once}
use Rattle.journal_history.specs.Entries.{Move, Entry, after_move, node_after}
use Rattle.journal_history.specs.Moving.{Placed, move_of, entry_at, entry_of, moving_of}
use Rattle.run_world.specs.World.{World, cell_at, taken_at, node_asked}
use Rattle.journal_history.specs.declared.stop.Stop.TheVariants.{Effects}
use Rattle.run_safety.proofs.CallLeft.{entry}
use Rattle.run_safety.proofs.Along.{node_here, node_elsewhere}

-- the entries of a trace, newest first
abbrev pub entries : List Placed → List Entry
entries xs = reverse (moving_of xs)

-- the nodes' states are those that the entries leave
pub record Agree (n : ℕ) (cells : List Cell) (past : List Entry) : Type 0 where
  pub size : length cells ≡ n
  pub states : (i : ℕ) → i < n → (get_or cells i fresh_cell).state ≡ node_after (suc i) past

-- ## One line more
abbrev onto : Option Entry → List Entry → List Entry
onto None past = past
onto (Some e) past = e ∷ past

one_more : (x : Placed) (o : Option Entry) → entry_of x ≡ o → filter_map entry_of (x ∷ []) ≡ onto o []
one_more x o e = by (entry_of x) o e
  where
    by : (p q : Option Entry) → p ≡ q → filter_map (λ (y : Placed). p) (x ∷ []) ≡ onto q []
    by None None f = refl
    by None (Some b) f = absurd (cc f)
    by (Some a) None f = absurd (cc f)
    by (Some a) (Some b) f = let same : a ≡ b = cc f in ap (λ (z : Entry). z ∷ []) same

reverse_onto : (o : Option Entry) (l : List Entry) → reverse (l ++ onto o []) ≡ onto o (reverse l)
reverse_onto None l = ap reverse (nil l)
  where
    nil : (xs : List Entry) → xs ++ [] ≡ xs
    nil [] = refl
    nil (x ∷ xs) = ap (λ (z : List Entry). x ∷ z) (nil xs)
reverse_onto (Some e) l = reverse-append l (e ∷ [])

entries_more : (xs : List Placed) (x : Placed) (o : Option Entry) → entry_of x ≡ o → entries (xs ++ x ∷ []) ≡ onto o (entries xs)
unfolding moving_of
entries_more xs x o e =
    ap reverse (filter_map-append entry_of xs (x ∷ []) ∙ ap (λ (l : List Entry). filter_map entry_of xs ++ l) (one_more x o e)) ∙ reverse_onto o (filter_map entry_of xs)

-- ## The nodes after it
agree_still : (n : ℕ) (cells : List Cell) (past : List Entry) (node : ℕ) (c : Cell) → Agree n cells past → 1 ≤ node → node ≤ n → c.state ≡ (get_or cells (node - 1) fresh_cell).state
    → Agree n (set cells (node - 1) c) past
agree_still n cells past node c h low high same = record { size = length-set cells (node - 1) c ∙ h.size; states = λ i l. at i l (cases_eq i (node - 1)) }
  where
    at : (i : ℕ) → i < n → (i ≡ node - 1) ⊎ (i ≡ node - 1 → ⊥) → (get_or (set cells (node - 1) c) i fresh_cell).state ≡ node_after (suc i) past
    at i l (inl is) =
        let size : length cells ≡ n = h.size in
        let b : node - 1 < length cells = omega (arith, low, high, size) in
        ap (λ (j : ℕ). (get_or (set cells (node - 1) c) j fresh_cell).state) is ∙ ap (λ (x : Cell). x.state) (get_or-set_same cells (node - 1) c fresh_cell b) ∙ same
        ∙ ap (λ (j : ℕ). (get_or cells j fresh_cell).state) (sym is) ∙ h.states i l
    at i l (inr off) = ap (λ (x : Cell). x.state) (get_or-set_other cells (node - 1) i c fresh_cell off) ∙ h.states i l

agree_moved : (n : ℕ) (cells : List Cell) (past : List Entry) (node : ℕ) (c : Cell) (move : Move) → Agree n cells past → 1 ≤ node → node ≤ n
    → c.state ≡ after_move (get_or cells (node - 1) fresh_cell).state move
    → Agree n (set cells (node - 1) c) (entry node move ∷ past)
agree_moved n cells past node c move h low high same = record { size = length-set cells (node - 1) c ∙ h.size; states = λ i l. at i l (cases_eq i (node - 1)) }
  where
    at : (i : ℕ) → i < n → (i ≡ node - 1) ⊎ (i ≡ node - 1 → ⊥) → (get_or (set cells (node - 1) c) i fresh_cell).state ≡ node_after (suc i) (entry node move ∷ past)
    at i l (inl is) =
        let size : length cells ≡ n = h.size in
        let b : node - 1 < length cells = omega (arith, low, high, size) in
        let here : node ≡ suc i = omega (arith, is, low) in
        ap (λ (j : ℕ). (get_or (set cells (node - 1) c) j fresh_cell).state) is ∙ ap (λ (x : Cell). x.state) (get_or-set_same cells (node - 1) c fresh_cell b) ∙ same
        ∙ ap (λ (j : ℕ). after_move (get_or cells j fresh_cell).state move) (sym is) ∙ ap (λ (s : NodeState). after_move s move) (h.states i l) ∙ sym (node_here (suc i) (entry node move) past here)
    at i l (inr off) =
        let other : node ≢ suc i = λ (e : node ≡ suc i). absurd (off (omega (arith, e))) in
        ap (λ (x : Cell). x.state) (get_or-set_other cells (node - 1) i c fresh_cell off) ∙ h.states i l ∙ sym (node_elsewhere (suc i) (entry node move) past other)

-- ## What a node was asked: its line in the trace, and what becomes of the entries and the cells
abbrev pub asked_next : ℕ → ℕ → Bool → Option ℕ → NodeAsk → World → List Entry
asked_next node caller muted stop ask w = entries (node_asked node caller muted stop ask w).trace

entry_is : (node caller : ℕ) (muted : Bool) (stop : Option ℕ) (ask : NodeAsk) (w : World) (m : Option Move) → move_of caller muted ask (taken_at node stop ask w).answer ≡ m
    → asked_next node caller muted stop ask w ≡ onto (entry_at node m) (entries w.trace)
unfolding node_asked entry_of
entry_is node caller muted stop ask w m e =
    entries_more w.trace (record { node = node; line = record { caller = caller; ask = ask; answer = (taken_at node stop ask w).answer }; muted = muted }) (entry_at node m) (ap (entry_at node) e)

pub asked_still : (n node caller : ℕ) (muted : Bool) (stop : Option ℕ) (ask : NodeAsk) (w : World) → Agree n w.cells (entries w.trace) → 1 ≤ node → node ≤ n
    → move_of caller muted ask (taken_at node stop ask w).answer ≡ None → (taken_at node stop ask w).cell.state ≡ (cell_at node w).state
    → (asked_next node caller muted stop ask w ≡ entries w.trace) × Agree n (node_asked node caller muted stop ask w).cells (entries w.trace)
unfolding node_asked
asked_still n node caller muted stop ask w h low high none same =
    (entry_is node caller muted stop ask w None none, agree_still n w.cells (entries w.trace) node (taken_at node stop ask w).cell h low high same)

pub asked_moved : (n node caller : ℕ) (muted : Bool) (stop : Option ℕ) (ask : NodeAsk) (w : World) (move : Move) → Agree n w.cells (entries w.trace) → 1 ≤ node → node ≤ n
    → move_of caller muted ask (taken_at node stop ask w).answer ≡ Some move → (taken_at node stop ask w).cell.state ≡ after_move (cell_at node w).state move
    → (asked_next node caller muted stop ask w ≡ entry node move ∷ entries w.trace) × Agree n (node_asked node caller muted stop ask w).cells (entry node move ∷ entries w.trace)
unfolding node_asked
asked_moved n node caller muted stop ask w move h low high some same =
    (entry_is node caller muted stop ask w (Some move) some, agree_moved n w.cells (entries w.trace) node (taken_at node stop ask w).cell move h low high same)

-- a stop that comes with a request leaves the state before it
pub stopping_state : (stop : Option ℕ) (c : Cell) → (arm_at_once stop c).state ≡ c.state
stopping_state None c = refl
stopping_state (Some keep) c = by (c.state.up && not (is_due c.arming))
  where
    by : (b : Bool) → (cond b (record c { arming = Some (record { calls = 1; stop = Effects keep }) }) c).state ≡ c.state
    by true = refl
    by false = refl

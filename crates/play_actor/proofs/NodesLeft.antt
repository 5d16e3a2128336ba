-- The nodes at the end of a play: each is as its history leaves it.
use Rattle.std.proofs.Common.{◌≡◌, ℕ, suc, ◌+◌, ◌<◌, List, [], ◌∷◌, length, map, Bool, Some, refl, sym, ap, ◌∙◌, subst, arith, get_or}
use Rattle.journal_history.specs.Cell.{Cell, fresh_cell, cell_after}
use Rattle.journal_history.specs.NodeCells.{CellView}
use Rattle.journal_history.specs.Moving.{Placed}
use Rattle.play_script.specs.declared.script_line.ScriptLine.{ScriptLine}
use Rattle.play_model.specs.Lines.{Line, ArePlayable, HasNodes}
use Rattle.play_model.specs.Plays.{Play, play_begins, history_of, histories_from, states_after}
use Rattle.play_actor.specs.Kept.{Kept, mesh_kept, states_kept}
use Rattle.play_actor.specs.Goal.{IsUnderWay}
use Rattle.play_model.proofs.Playing.{Holds}
use Rattle.play_model.proofs.Taking.{steps_hold, begins_hold}

-- ## Cells and histories
states_each : (cells : List Cell) (node : ℕ) (t : List Placed) → ((i : ℕ) → i < length cells → cell_after fresh_cell (history_of (i + node) t) ≡ get_or cells i fresh_cell)
    → states_after (histories_from node (length cells) t) ≡ map (λ c. Some c.state) cells
unfolding histories_from
states_each [] node t h = refl
states_each (c ∷ cs) node t h =
    let z : 0 + node ≡ node = omega arith in
    let first : cell_after fresh_cell (history_of node t) ≡ c = ap (λ k. cell_after fresh_cell (history_of k t)) (sym z) ∙ h 0 (omega arith) in
    let later : (i : ℕ) → i < length cs → cell_after fresh_cell (history_of (i + (node + 1)) t) ≡ get_or cs i fresh_cell =
    λ i l. let e : i + (node + 1) ≡ suc i + node = omega arith in ap (λ k. cell_after fresh_cell (history_of k t)) e ∙ h (suc i) (omega (arith, l)) in
    ap (λ x. Some x.state ∷ states_after (histories_from (node + 1) (length cs) t)) first ∙ ap (λ xs. Some c.state ∷ xs) (states_each cs (node + 1) t later)

cell_states : (vs : List CellView) → map (λ v. Some v.cell.state) vs ≡ map (λ c. Some c.state) (map (λ v. v.cell) vs)
cell_states [] = refl
cell_states (v ∷ vs) = ap (λ xs. Some v.cell.state ∷ xs) (cell_states vs)

-- at each place of a play
pub states_left : (named : Bool) (nodes : ℕ) (lines : List Line) (rest : List ScriptLine) (k : Kept) → HasNodes named nodes → ArePlayable named nodes 0 lines → IsUnderWay named nodes lines rest k
    → states_kept k ≡ states_after (mesh_kept k).histories
states_left named nodes lines rest k some can u =
    let p : Play = u.play in
    let h : Holds named nodes lines p = subst (Holds named nodes lines) u.leads.reached
    (steps_hold named u.leads.steps nodes lines (play_begins named nodes lines) (begins_hold named nodes lines some can)) in
    let all : (i : ℕ) → i < length p.cells → cell_after fresh_cell (history_of (i + 1) p.trace) ≡ get_or p.cells i fresh_cell =
    λ i l. h.cells.state i (subst (λ m. i < m) h.cells.count l) in
    cell_states k.nodes ∙ ap (map (λ c. Some c.state)) (sym u.at_rest.stands.cells) ∙ sym (states_each p.cells 1 p.trace all)
    ∙ ap (λ n. states_after (histories_from 1 n p.trace)) h.cells.count ∙ ap states_after u.at_rest.stands.histories

-- A node behind a gate: its history is one node's, and its answers are such as nodes give.
use Rattle.std.proofs.Common.{◌≡◌, ℕ, List, [], ◌∷◌, ◌++◌, Bool, true, false, cond, refl, sym, ap, ◌∙◌, subst}
use Rattle.std.proofs.lemmas.List.{map-append}
use Rattle.std.specs.Prelude.{Option, Some, None, ◌-◌, nat_lt}
use Rattle.journal_core.specs.declared.request.Request.{Request}
use Rattle.journal_history.specs.declared.node_ask.NodeAsk.{NodeAsk}
use Rattle.journal_history.specs.declared.node_ask.NodeAsk.TheVariants.{Act, Kill, Restart, Arm}
use Rattle.journal_history.specs.declared.node_ask.NodeAnswer.{NodeAnswer}
use Rattle.journal_history.specs.declared.history_line.HistoryLine.{HistoryLine}
use Rattle.journal_history.specs.declared.arming.Arming.{Arming}
use Rattle.journal_history.specs.Cell.{Cell, Taken, fresh_cell, cell_takes, take_request, count_request, replies, stops, kept_by, take_kill, started_again, take_arming, IsLocalRun, cell_after}
use Rattle.journal_history.specs.NodeCells.{CellView, IsTaken, AnswerFits}
use Rattle.mesh.proofs.Tied.{local_snoc, cell_snoc}
use Rattle.play_threads.specs.Entries.{Entry, entry_of, entries_of, IsReplyOrStop, IsDoneOrIdle, FitsAsk}

-- ## Its history
pub local_listed : (old new : CellView) (caller : ℕ) (ask : NodeAsk) (answer : NodeAnswer) → IsLocalRun fresh_cell old.history
    → cell_after fresh_cell old.history ≡ old.cell → IsTaken old caller ask answer new
    → IsLocalRun fresh_cell new.history × (cell_after fresh_cell new.history ≡ new.cell)
local_listed old new caller ask answer local here t =
    let h : HistoryLine = record { caller = caller; ask = ask; answer = answer } in
    let now : cell_takes (cell_after fresh_cell old.history) ask ≡ record { answer = answer; cell = new.cell } = ap (λ c. cell_takes c ask) here ∙ t.taken in (
      subst (IsLocalRun fresh_cell) (sym t.listed) (local_snoc fresh_cell old.history h local (sym (ap (λ (x : Taken). x.answer) now))),
      ap (cell_after fresh_cell) t.listed ∙ cell_snoc fresh_cell old.history h ∙ ap (λ (x : Taken). x.cell) now,
    )

-- its lines, with one more
pub entries_behind : (old new : CellView) (caller : ℕ) (ask asked : NodeAsk) (answer : NodeAnswer) (log : List Entry) → IsTaken old caller asked answer new → asked ≡ ask
    → entries_of old.history ≡ log → entries_of new.history ≡ log ++ (caller, (ask, answer)) ∷ []
entries_behind old new caller ask asked answer log t same is =
    ap entries_of t.listed ∙ map-append entry_of old.history (record { caller = caller; ask = asked; answer = answer } ∷ []) ∙ (λ i. is i ++ (caller, (same i, answer)) ∷ [])

pub nothing_local : IsLocalRun fresh_cell []
unfolding IsLocalRun
nothing_local = tt

pub nothing_after : cell_after fresh_cell [] ≡ fresh_cell
unfolding cell_after
nothing_after = refl

-- ## Its answers
counted_fits : (c : Cell) (r : Request) (a : Arming) (b : Bool) → IsReplyOrStop
    (cond b (replies c.state r (Some (record a { calls = a.calls - 1 }))) (stops c.state r (kept_by a.stop c.state r))).answer
counted_fits c r a true = tt
counted_fits c r a false = tt

armed_fits : (c : Cell) (r : Request) (o : Option Arming) → IsReplyOrStop (count_request c.state r o).answer
armed_fits c r None = tt
armed_fits c r (Some a) = counted_fits c r a (nat_lt 1 a.calls)

request_fits : (c : Cell) (r : Request) (up : Bool) → IsReplyOrStop (take_request up c r).answer
request_fits c r true = armed_fits c r c.arming
request_fits c r false = tt

kill_fits : (c : Cell) (up : Bool) → IsDoneOrIdle (take_kill up c).answer
kill_fits c true = tt
kill_fits c false = tt

restart_fits : (c : Cell) (up : Bool) → IsDoneOrIdle (started_again up c).answer
restart_fits c true = tt
restart_fits c false = tt

arm_fits : (c : Cell) (a : Arming) (up : Bool) → IsDoneOrIdle (take_arming up c a).answer
arm_fits c a true = tt
arm_fits c a false = tt

takes_fits : (c : Cell) (ask : NodeAsk) → AnswerFits ask (cell_takes c ask).answer → FitsAsk ask (cell_takes c ask).answer
unfolding cell_takes
takes_fits c (Act late r) f = (request_fits c r c.state.up, f)
takes_fits c Kill f = kill_fits c c.state.up
takes_fits c Restart f = restart_fits c c.state.up
takes_fits c (Arm calls stop) f = arm_fits c (record { calls = calls; stop = stop }) c.state.up

pub taken_fits : (old new : CellView) (caller : ℕ) (ask : NodeAsk) (answer : NodeAnswer) → IsTaken old caller ask answer new → AnswerFits ask answer → FitsAsk ask answer
taken_fits old new caller ask answer t f =
    let e : (cell_takes old.cell ask).answer ≡ answer = ap (λ (x : Taken). x.answer) t.taken in
    subst (FitsAsk ask) e (takes_fits old.cell ask (subst (AnswerFits ask) (sym e) f))

pub ruleset locals = (nothing_local, nothing_after)

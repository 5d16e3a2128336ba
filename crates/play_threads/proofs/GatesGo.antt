-- What the lines of a caller through gates did to its seats: each has seen of its caller just what
-- the record says of its node.
use Rattle.std.proofs.Common.{◌≡◌, ℕ, ◌+◌, ◌-◌, ◌≤◌, List, [], ◌∷◌, ◌++◌, true, false, refl, sym, ap, subst, ◌∙◌, length, set, get_or, append_assoc, append-nil}
use Rattle.journal_core.specs.declared.request.Request.{Request}
use Rattle.journal_history.specs.declared.node_ask.NodeAnswer.{NodeAnswer}
use Rattle.journal_history.specs.declared.node_ask.NodeAsk.{NodeAsk}
use Rattle.journal_history.specs.declared.node_ask.NodeAsk.TheVariants.{Act}
use Rattle.atomic_table.specs.Seated.{TableId}
use Rattle.journal_history.specs.declared.record.Record.{Record}
use Rattle.journal_history.specs.declared.record.Record.TheVariants.{Call, Late, Operator, Outcome}
use Rattle.journal_history.specs.declared.record.Told.{Told}
use Rattle.journal_history.specs.declared.record.Told.TheVariants as told
use Rattle.play_calls.specs.Logs.{LogView, new_log, with_line}
use Rattle.play_calls.proofs.ToldLaws.{reply_told, silent_told}
use Rattle.mesh.specs.Matches.{reaches, reached, AreSame}
use Rattle.mesh.proofs.Tied.{reached_off}
use Rattle.caller.specs.Callers.{CallerView, CallGoes, LineGoes, LinesGo, AreLater}
use Rattle.play_threads.specs.Seated.{Seat, AreSeated, IsTied}
use Rattle.play_threads.specs.GateWires.{GatesView, Adds, gate_wire}
use Rattle.play_threads.proofs.SeatLaws.{tied_muted, tied_heard, tied_late, tied_operated, goes_with, call_apart, late_apart, operator_apart, goes_seated, quiet_seated, outcome_apart}

-- the seats of this caller at these gates have seen just what this log says
pub record IsSeatedAt (c : ℕ) (ts : List TableId) (log : LogView) (v : GatesView) : Type 0 where
  pub caller : v.caller ≡ c
  pub tables : v.tables ≡ ts
  pub seated : AreSeated c ts log v.seats

-- the log with this record
abbrev with_past : LogView → List Record → LogView
with_past log past = record log { past = past }

-- a seat went on by a line that its node's history has
adds_seated : (c : ℕ) (ts : List TableId) (node : ℕ) (ask : NodeAsk) (a : NodeAnswer) (line : Record) (log : LogView) (old new : GatesView) → 1 ≤ node → node ≤ length old.seats
    → IsSeatedAt c ts log old → (x : Adds node ask a old new) → IsTied node line x.before.own x.after.own → ((k : ℕ) → (k ≡ node → ⊥) → reaches k line ≡ false)
    → IsSeatedAt c ts (with_line log line) new
adds_seated c ts node ask a line log old new low high h x tied apart =
    let n : node ≤ log.nodes = subst (λ m. node ≤ m) h.seated.count high in
    let g : AreSeated c ts (with_line log line) (set old.seats (node - 1) x.after) =
    goes_seated c ts log (with_line log line) old.seats node x.before x.after low n h.seated x.was x.table x.mine
    (goes_with node log (with_line log line) x.before.own x.after.own line refl tied apart) in
    record { caller = x.caller ∙ h.caller; tables = x.tables ∙ h.tables; seated = subst (λ ss. AreSeated c ts (with_line log line) ss) (sym x.seats) g }

-- a line that reached no node
quiet_line : (c : ℕ) (ts : List TableId) (line : Record) (log : LogView) (v : GatesView) → ((k : ℕ) → reaches k line ≡ false) → IsSeatedAt c ts log v → IsSeatedAt c ts (with_line log line) v
quiet_line c ts line log v off h =
    record { caller = h.caller; tables = h.tables; seated = quiet_seated c ts log (with_line log line) v.seats h.seated refl (λ w. (w, λ k. reached_off k log.past line (off k))) }

dropped_off : (k node : ℕ) (r : Request) → reaches k (Call node r told.Dropped) ≡ false
unfolding reaches
dropped_off k node r = refl

module _ (c : ℕ) (ts : List TableId) where
  call_seated : (node : ℕ) (r : Request) (t : Told) (log : LogView) (old new : GatesView) → 1 ≤ node → node ≤ length old.seats → IsSeatedAt c ts log old → CallGoes gate_wire node r t old new
      → IsSeatedAt c ts (with_line log (Call node r t)) new
  call_seated node r (told.Reply reply) log old new low high h g =
      let x = g in
      adds_seated c ts node (Act false r) x.answer (Call node r (told.Reply reply)) log old new low high h x.adds
      (tied_heard node x.adds.before.caller r x.answer (told.Reply reply) x.adds.before.own x.adds.after.own (reply_told x.answer reply x.heard_is) x.kind x.adds.own)
      (λ k off. call_apart k node r (told.Reply reply) off)
  call_seated node r told.Silent log old new low high h g =
      let x = g in
      adds_seated c ts node (Act false r) x.answer (Call node r told.Silent) log old new low high h x.adds
      (tied_heard node x.adds.before.caller r x.answer told.Silent x.adds.before.own x.adds.after.own (silent_told x.answer x.heard_is) x.kind x.adds.own)
      (λ k off. call_apart k node r told.Silent off)
  call_seated node r told.Muted log old new low high h g =
      let x = g.1 in
      adds_seated c ts node (Act false r) x.answer (Call node r told.Muted) log old new low high h x.adds
      (tied_muted node x.adds.before.caller r x.answer x.adds.before.own x.adds.after.own x.adds.own)
      (λ k off. call_apart k node r told.Muted off)
  call_seated node r told.Dropped log old new low high h g =
      subst (λ (v : GatesView). IsSeatedAt c ts (with_line log (Call node r told.Dropped)) v) (sym g)
      (quiet_line c ts (Call node r told.Dropped) log old (λ k. dropped_off k node r) h)

  line_seated : (line : Record) (log : LogView) (old new : GatesView) → IsSeatedAt c ts log old → LineGoes gate_wire line old new → IsSeatedAt c ts (with_line log line) new
  line_seated (Call node r t) log old new h g = call_seated node r t log old new g.0 g.1 h g.2
  line_seated (Late node r) log old new h g =
      let x = g.2 in
      adds_seated c ts node (Act true r) x.answer (Late node r) log old new g.0 g.1 h x.adds
      (tied_late node x.adds.before.caller r x.answer x.adds.before.own x.adds.after.own x.adds.own)
      (λ k off. late_apart k node r off)
  line_seated (Operator node ask done) log old new h g =
      let x = g.2 in
      let own = x.adds.before.own in
      let own2 = x.adds.after.own in
      adds_seated c ts node ask x.answer (Operator node ask done) log old new g.0 g.1 h x.adds
      (subst (λ d. IsTied node (Operator node ask d) own own2) (sym x.done_is) (tied_operated node x.adds.before.caller ask x.answer own own2 x.operation x.fits x.adds.own))
      (λ k off. operator_apart k node ask done off)
  line_seated (Outcome text) log old new h g =
      subst (λ (v : GatesView). IsSeatedAt c ts (with_line log (Outcome text)) v) (sym g) (quiet_line c ts (Outcome text) log old (λ k. outcome_apart k text) h)

  lines_seated : (log : LogView) (lines past : List Record) (old new : GatesView) → IsSeatedAt c ts (with_past log past) old → LinesGo gate_wire lines old new → IsSeatedAt c ts (with_past log (past ++ lines)) new
  unfolding LinesGo
  lines_seated log [] past old new h g =
      subst (λ (ps : List Record). IsSeatedAt c ts (with_past log ps) new) (sym (append-nil past))
      (subst (λ (v : GatesView). IsSeatedAt c ts (with_past log past) v) (sym g) h)
  lines_seated log (line ∷ lines) past old new h g =
      let one : IsSeatedAt c ts (with_past log (past ++ line ∷ [])) g.after =
      line_seated line (with_past log past) g.ahead g.after (subst (λ (v : GatesView). IsSeatedAt c ts (with_past log past) v) (sym g.readied) h) g.went in
      subst (λ (ps : List Record). IsSeatedAt c ts (with_past log ps) new) (append_assoc past (line ∷ []) lines) (lines_seated log lines (past ++ line ∷ []) g.after new one g.rest)

  -- where the seats had seen just what the record said, they have some lines later
  pub gates_go : (s t : CallerView GatesView) → s.log.whole ≡ true → IsSeatedAt c ts s.log s.wire → AreLater gate_wire s t → IsSeatedAt c ts t.log t.wire
  gates_go s t whole h a =
      let g : IsSeatedAt c ts (with_past s.log (s.log.past ++ a.lines)) t.wire = lines_seated s.log a.lines s.log.past s.wire t.wire h a.went in
      record {
        caller = g.caller;
        tables = g.tables;
        seated = record {
          count = g.seated.count ∙ sym a.nodes;
          gates = g.seated.gates;
          callers = g.seated.callers;
          same = λ _ i d l. subst (λ (ps : List Record). AreSame (reached (i + 1) ps) (get_or t.wire.seats i d).own) (sym a.past) (g.seated.same whole i d l);
        };
      }

-- before the first call
pub start_seated : (c : ℕ) (ts : List TableId) (seats : List Seat) (m : ℕ) (v : GatesView) (s : CallerView GatesView) → v ≡ record { caller = c; tables = ts; seats = seats }
    → s ≡ record { wire = v; log = new_log (length v.seats) true } → AreSeated c ts (new_log m true) seats → IsSeatedAt c ts s.log s.wire × ((s.log.whole ≡ true) × (s.log.nodes ≡ m))
start_seated c ts seats m v s e f h =
    let k : length v.seats ≡ m = ap (λ (x : GatesView). length x.seats) e ∙ h.count in
    let log : s.log ≡ new_log m true = ap (λ (x : CallerView GatesView). x.log) f ∙ ap (λ n. new_log n true) k in
    let wire : s.wire ≡ record { caller = c; tables = ts; seats = seats } = ap (λ (x : CallerView GatesView). x.wire) f ∙ e in (
      record {
        caller = ap (λ (x : GatesView). x.caller) wire;
        tables = ap (λ (x : GatesView). x.tables) wire;
        seated = subst (λ (l : LogView). AreSeated c ts l s.wire.seats) (sym log) (subst (λ (ss : List Seat). AreSeated c ts (new_log m true) ss) (sym (ap (λ (x : GatesView). x.seats) wire)) h);
      },
      (ap (λ (l : LogView). l.whole) log, ap (λ (l : LogView). l.nodes) log),
    )

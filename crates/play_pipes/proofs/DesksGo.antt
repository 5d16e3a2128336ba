-- What the lines of a caller over a desk did to its lists: the record goes along with them.
use Rattle.std.proofs.Common.{◌≡◌, ℕ, ◌≤◌, List, [], ◌∷◌, ◌++◌, refl, sym, ap, subst, ◌∙◌, length, append_assoc, append-nil}
use Rattle.journal_core.specs.declared.request.Request.{Request}
use Rattle.journal_core.specs.declared.heard.Heard.{Heard}
use Rattle.journal_core.specs.declared.heard.Heard.TheVariants.{Answer, Silent}
use Rattle.journal_core.specs.declared.peer_call.PeerCall.{PeerCall}
use Rattle.journal_history.specs.declared.record.Record.{Record}
use Rattle.journal_history.specs.declared.record.Record.TheVariants.{Call, Late, Operator, Outcome}
use Rattle.journal_history.specs.declared.record.Told.{Told}
use Rattle.journal_history.specs.declared.record.Told.TheVariants as told
use Rattle.play_calls.specs.Logs.{LogView, with_line}
use Rattle.caller.specs.Callers.{CallerView, LineGoes, LinesGo, AreLater}
use Rattle.play_pipes.specs.Calls.{Calls, Start}
use Rattle.play_pipes.specs.PipeLines.{AreTold, Stands}
use Rattle.play_pipes.specs.PipeSeats.{HearsOne, TiedTo, desk_wire}
use Rattle.play_pipes.proofs.PipeSeatLaws.{heard_tied, dropped_tied, said_tied}

-- the log with this record
abbrev with_past : LogView → List Record → LogView
with_past log past = record log { past = past }

module _ {W : Type 0} (starts : W → List Start) (lists : W → List Calls) (ahead : W → List PeerCall) where
  -- where the record went along with the lists it still does
  abbrev Along : LogView → W → LogView → W → Type 0
  Along log old log' new = (starts new ≡ starts old) × (TiedTo log (ahead old) (lists old) → TiedTo log' (ahead new) (lists new))

  -- this was heard of a call, and told
  heard_along : (node : ℕ) (r : Request) (t : Told) (heard : Heard) (log : LogView) (old new : W) → 1 ≤ node → node ≤ log.nodes → (t ≡ told.Dropped → ⊥) → Stands t heard
      → (starts new ≡ starts old) × HearsOne node r heard (ahead old) (lists old) (ahead new) (lists new) → Along log old (with_line log (Call node r t)) new
  heard_along node r t heard log old new low high not s h = (h.0, λ tied. heard_tied log node r t heard (ahead old) (lists old) (ahead new) (lists new) low high not s h.1 tied)

  call_along : (node : ℕ) (r : Request) (t : Told) (log : LogView) (old new : W) → node ≤ log.nodes → LineGoes (desk_wire starts lists ahead) (Call node r t) old new
      → Along log old (with_line log (Call node r t)) new
  call_along node r (told.Reply reply) log old new high g = heard_along node r (told.Reply reply) (Answer reply) log old new g.0 high (λ e. cc e) refl g.2
  call_along node r told.Silent log old new high g = heard_along node r told.Silent Silent log old new g.0 high (λ e. cc e) refl g.2
  call_along node r told.Muted log old new high g = heard_along node r told.Muted g.2.0 log old new g.0 high (λ e. cc e) tt g.2.1
  call_along node r told.Dropped log old new high g =
      subst (λ (v : W). Along log old (with_line log (Call node r told.Dropped)) v) (sym g.2) (refl, λ tied. dropped_tied log node r (ahead old) (lists old) tied)

  line_along : (line : Record) (log : LogView) (old new : W) → log.nodes ≡ length (starts old) → LineGoes (desk_wire starts lists ahead) line old new → Along log old (with_line log line) new
  line_along (Call node r t) log old new n g = call_along node r t log old new (subst (λ k. node ≤ k) (sym n) g.1) g
  line_along (Late node r) log old new n g = absurd g.2
  line_along (Operator node ask done) log old new n g = absurd g.2
  line_along (Outcome text) log old new n g =
      subst (λ (v : W). Along log old (with_line log (Outcome text)) v) (sym g) (refl, λ tied. said_tied log (ahead old) (lists old) text tied)

  readied : (log : LogView) (old new : W) → (desk_wire starts lists ahead).readies old new → Along log old log new
  readied log old new g = (g.0, λ tied. record { fronts = tied.fronts; leads = g.1 tied.fronts tied.leads; count = tied.count; told = tied.told })

  lines_along : (log : LogView) (lines past : List Record) (old new : W) → log.nodes ≡ length (starts old) → LinesGo (desk_wire starts lists ahead) lines old new
      → Along (with_past log past) old (with_past log (past ++ lines)) new
  unfolding LinesGo
  lines_along log [] past old new n g =
      subst (λ (ps : List Record). Along (with_past log past) old (with_past log ps) new) (sym (append-nil past)) (readied (with_past log past) old new g)
  lines_along log (line ∷ lines) past old new n g =
      let r = readied (with_past log past) old g.ahead g.readied in
      let long : log.nodes ≡ length (starts g.ahead) = n ∙ ap length (sym r.0) in
      let one = line_along line (with_past log past) g.ahead g.after long g.went in
      let rest = lines_along log lines (past ++ line ∷ []) g.after new (long ∙ ap length (sym one.0)) g.rest in
      subst (λ (ps : List Record). Along (with_past log past) old (with_past log ps) new) (append_assoc past (line ∷ []) lines)
      (rest.0 ∙ one.0 ∙ r.0, λ tied. rest.1 (one.1 (r.1 tied)))

  -- the caller some lines later
  pub desks_go : (s t : CallerView W) → s.log.nodes ≡ length (starts s.wire) → AreLater (desk_wire starts lists ahead) s t
      → (starts t.wire ≡ starts s.wire) × (TiedTo s.log (ahead s.wire) (lists s.wire) → TiedTo t.log (ahead t.wire) (lists t.wire))
  desks_go s t n a =
      let g = lines_along s.log a.lines s.log.past s.wire t.wire n a.went in (
        g.0,
        λ tied.
            let end = g.1 tied in
            record {
              fronts = end.fronts;
              leads = end.leads;
              count = end.count ∙ sym a.nodes;
              told = subst (λ (ps : List Record). AreTold ps end.fronts) (sym a.past) end.told;
            },
      )

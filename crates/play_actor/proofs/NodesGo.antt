-- What the lines of a caller over the wire of a play did to its nodes.
use Rattle.std.proofs.Common.{◌≡◌, ℕ, ◌-◌, ◌≤◌, List, [], ◌∷◌, refl, sym, ap, subst, ◌∙◌, length, set}
use Rattle.std.specs.Prelude.{true, false}
use Rattle.std.proofs.lemmas.List.{set-get_or, length-set}
use Rattle.journal_core.specs.declared.request.Request.{Request}
use Rattle.journal_history.specs.declared.node_ask.NodeAsk.TheVariants.{Act}
use Rattle.journal_history.specs.declared.record.Record.{Record}
use Rattle.journal_history.specs.declared.record.Record.TheVariants.{Call, Late, Operator, Outcome}
use Rattle.journal_history.specs.declared.record.Told.{Told}
use Rattle.journal_history.specs.declared.record.Told.TheVariants as told
use Rattle.journal_history.specs.NodeCells.{CellView, new_cell}
use Rattle.play_calls.specs.declared.delivery.Delivery.{Delivery}
use Rattle.play_calls.specs.declared.delivery.Delivery.TheVariants.{Delivered, ReplyLost, NotDelivered}
use Rattle.play_calls.specs.Deliveries.{told_of}
use Rattle.play_calls.specs.Logs.{LogView}
use Rattle.play_calls.proofs.ToldLaws.{reply_told, silent_told}
use Rattle.caller.specs.Callers.{CallerView, LineGoes, LinesGo, AreLater}
use Rattle.play_actor.specs.Kept.{list_ask, answer_to, reached_by, told_by}
use Rattle.play_actor.specs.NodesWire.{NodesView, cell_at, nodes_wire}

-- the nodes as they are for this caller
abbrev pub nodes_for : ℕ → List CellView → NodesView
nodes_for caller cells = record { caller = caller; cells = cells }

-- the call went so, and this was told of it
pub record Reaches (caller node : ℕ) (request : Request) (told : Told) (old new : List CellView) : Type 0 where
  pub delivery : Delivery
  pub low : 1 ≤ node
  pub high : node ≤ length old
  pub told_is : told ≡ told_by delivery (cell_at old node) request
  pub cells : new ≡ set old (node - 1) (reached_by delivery (cell_at old node) caller request)

-- a late copy reached the node
pub record CopyReaches (caller node : ℕ) (request : Request) (old new : List CellView) : Type 0 where
  pub low : 1 ≤ node
  pub high : node ≤ length old
  pub cells : new ≡ set old (node - 1) (list_ask (cell_at old node) caller (Act true request))

-- ## Line by line
pub call_went : (node : ℕ) (r : Request) (t : Told) (old new : NodesView) → LineGoes nodes_wire (Call node r t) old new
    → (new.caller ≡ old.caller) × Reaches old.caller node r t old.cells new.cells
unfolding told_of
call_went node r (told.Reply reply) old new g =
    let h = g.2 in
    (h.caller, record { delivery = Delivered; low = g.0; high = g.1; told_is = reply_told (answer_to (cell_at old.cells node) (Act false r)) reply h.heard_is; cells = h.cells })
call_went node r told.Silent old new g =
    let h = g.2 in
    (h.caller, record { delivery = Delivered; low = g.0; high = g.1; told_is = silent_told (answer_to (cell_at old.cells node) (Act false r)) h.heard_is; cells = h.cells })
call_went node r told.Muted old new g =
    let h = g.2.1 in
    (h.caller, record { delivery = ReplyLost; low = g.0; high = g.1; told_is = refl; cells = h.cells })
call_went node r told.Dropped old new g =
    let e = g.2 in (
      ap (λ (v : NodesView). v.caller) e,
      record { delivery = NotDelivered; low = g.0; high = g.1; told_is = refl; cells = ap (λ (v : NodesView). v.cells) e ∙ sym (set-get_or old.cells (node - 1) new_cell) },
    )

pub copy_went : (node : ℕ) (r : Request) (old new : NodesView) → LineGoes nodes_wire (Late node r) old new → (new.caller ≡ old.caller) × CopyReaches old.caller node r old.cells new.cells
copy_went node r old new g = let h = g.2 in (h.caller, record { low = g.0; high = g.1; cells = h.cells })

-- the caller and the number of nodes stay
line_keeps : (line : Record) (old new : NodesView) → LineGoes nodes_wire line old new → (new.caller ≡ old.caller) × (length new.cells ≡ length old.cells)
line_keeps (Call node r t) old new g = let h = call_went node r t old new g in (h.0, ap length h.1.cells ∙ length-set old.cells (node - 1) _)
line_keeps (Late node r) old new g = let h = copy_went node r old new g in (h.0, ap length h.1.cells ∙ length-set old.cells (node - 1) _)
line_keeps (Operator node ask done) old new g = absurd g.2
line_keeps (Outcome text) old new g = (ap (λ (v : NodesView). v.caller) g, ap (λ (v : NodesView). length v.cells) g)

pub lines_keep : (lines : List Record) (old new : NodesView) → LinesGo nodes_wire lines old new → (new.caller ≡ old.caller) × (length new.cells ≡ length old.cells)
unfolding LinesGo
lines_keep [] old new g = (ap (λ (v : NodesView). v.caller) g, ap (λ (v : NodesView). length v.cells) g)
lines_keep (line ∷ lines) old new g =
    let a = line_keeps line g.ahead g.after g.went in
    let b = lines_keep lines g.after new g.rest in
    (b.0 ∙ a.0 ∙ ap (λ (v : NodesView). v.caller) g.readied, b.1 ∙ a.1 ∙ ap (λ (v : NodesView). length v.cells) g.readied)

-- ## The caller as it is made and taken apart
-- the caller as it is left
pub back_so : (v : NodesView) (caller : ℕ) (cells : List CellView) (last : LogView) (s : CallerView NodesView) → nodes_for caller cells ≡ v → v ≡ s.wire → last ≡ s.log
    → record { wire = nodes_for caller cells; log = last } ≡ s
back_so v caller cells last s e f g = ap (λ (x : NodesView). with_log x last) (e ∙ f) ∙ ap (λ (l : LogView). with_log s.wire l) g
  where
    with_log : NodesView → LogView → CallerView NodesView
    with_log x l = record { wire = x; log = l }

pub count_so : (v : NodesView) (caller : ℕ) (cells : List CellView) (n : ℕ) → nodes_for caller cells ≡ v → n ≡ length v.cells → length cells ≡ n
count_so v caller cells n e f = ap (λ (x : NodesView). length x.cells) e ∙ sym f

-- the caller was made of these nodes
pub made_later : (s : CallerView NodesView) (caller : ℕ) (cells : List CellView) (t : CallerView NodesView) → s.wire ≡ nodes_for caller cells → AreLater nodes_wire s t
    → AreLater nodes_wire (record { wire = nodes_for caller cells; log = s.log }) t
made_later s caller cells t e h = subst (λ (v : NodesView). AreLater nodes_wire (record { wire = v; log = s.log }) t) e h

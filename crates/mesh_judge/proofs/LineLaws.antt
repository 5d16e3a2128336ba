-- What is said of the lines of a list, line by line; and the tests of equality that decide it.
use Rattle.std.proofs.Common.{◌≡◌, ℕ, ◌+◌, ◌<◌, ◌≤◌, List, [], ◌∷◌, true, Decides, sym, ap, ◌∙◌, subst, length, drop, get_or}
use Rattle.std.proofs.lemmas.List.{drop_all}
use Rattle.std.proofs.lemmas.Bool.{and_parts}
use Rattle.journal_core.specs.Views.{HeadView, BatchView}
use Rattle.journal_core.specs.declared.request.Request.{Request}
use Rattle.journal_core.specs.declared.request.Request.TheVariants as request
use Rattle.journal_history.specs.Same.{same_request, same_batch, same_head}
use Rattle.journal_history.proofs.SameLaws.{request_same, request_self, batch_same}
use Rattle.journal_history.specs.declared.record.Record.{Record}
use Rattle.journal_history.specs.declared.record.Record.TheVariants.{Call, Late, Operator, Outcome}
use Rattle.journal_history.specs.declared.history_line.HistoryLine.{HistoryLine}
use Rattle.journal_history.specs.declared.node_ask.NodeAnswer.{NodeAnswer}
use Rattle.journal_history.specs.Cell.{Cell, fresh_cell, cell_takes, IsLocalRun}
use Rattle.mesh.specs.Matches.{IsWithin, AreWithin, CallersWithin}
use Rattle.mesh.specs.Makers.{IsOperators}
use Rattle.mesh_judge.proofs.Deciding.{ByLine, front}

-- ## Equality
pub requests_decided : (a b : Request) → Decides (same_request a b) (a ≡ b)
requests_decided a b = (request_same a b, λ e. subst (λ z. same_request a z ≡ true) e (request_self a))

no_head : HeadView
no_head = record { epoch = 0; serial = 0; committed = 0 }

batch_self : (a : BatchView) → same_batch a a ≡ true
batch_self a = (and_parts (same_head no_head no_head) (same_batch a a) (request_self (request.Accept no_head a))).1

pub batches_decided : (a b : BatchView) → Decides (same_batch a b) (a ≡ b)
batches_decided a b = (batch_same a b, λ e. subst (λ z. same_batch a z ≡ true) e (batch_self a))

-- ## Lines
pub within_by_line : (nodes : ℕ) → ByLine (AreWithin nodes) (IsWithin nodes)
unfolding AreWithin
within_by_line nodes = record { none = tt; first = λ x xs h. h.0; rest = λ x xs h. h.1; more = λ x xs q h. (q, h) }

pub callers_by_line : (callers : ℕ) → ByLine (CallersWithin callers) (λ (h : HistoryLine). h.caller ≤ callers)
unfolding CallersWithin
callers_by_line callers = record { none = tt; first = λ x xs h. h.0; rest = λ x xs h. h.1; more = λ x xs q h. (q, h) }

one : (r : Record) (rs : List Record) → IsOperators (r ∷ rs) → IsOperators (r ∷ [])
unfolding IsOperators
one (Call node r t) rs h = h
one (Late node r) rs h = h
one (Operator node ask done) rs h = (h.0, tt)
one (Outcome text) rs h = h

others : (r : Record) (rs : List Record) → IsOperators (r ∷ rs) → IsOperators rs
unfolding IsOperators
others (Call node r t) rs h = absurd h
others (Late node r) rs h = absurd h
others (Operator node ask done) rs h = h.1
others (Outcome text) rs h = absurd h

both : (r : Record) (rs : List Record) → IsOperators (r ∷ []) → IsOperators rs → IsOperators (r ∷ rs)
unfolding IsOperators
both (Call node r t) rs q h = q
both (Late node r) rs q h = q
both (Operator node ask done) rs q h = (q.0, h)
both (Outcome text) rs q h = q

pub operators_by_line : ByLine IsOperators (λ r. IsOperators (r ∷ []))
unfolding IsOperators
operators_by_line = record { none = tt; first = one; rest = others; more = both }

-- ## A local run
-- the lines from this place on are local from this cell on, just where all are from a fresh one on
abbrev pub LocalFrom : Cell → ℕ → List HistoryLine → Type 0
LocalFrom c i hs = (IsLocalRun c (drop i hs) → IsLocalRun fresh_cell hs) × (IsLocalRun fresh_cell hs → IsLocalRun c (drop i hs))

-- one more line, whose answer is the cell's
pub local_more : (c d : Cell) (i : ℕ) (hs : List HistoryLine) (h : HistoryLine) (answer : NodeAnswer) → i < length hs → h ≡ get_or hs i h
    → cell_takes c h.ask ≡ record { answer = answer; cell = d } → answer ≡ h.answer → LocalFrom c i hs → LocalFrom d (i + 1) hs
unfolding IsLocalRun
local_more c d i hs h answer l is t same f =
    let e = front i hs h l is in
    let a : h.answer ≡ (cell_takes c h.ask).answer = sym same ∙ sym (ap (λ x. x.answer) t) in
    let n : (cell_takes c h.ask).cell ≡ d = ap (λ x. x.cell) t in (
      λ g. f.0 (subst (IsLocalRun c) (sym e) (a, subst (λ x. IsLocalRun x (drop (i + 1) hs)) (sym n) g)),
      λ g. subst (λ x. IsLocalRun x (drop (i + 1) hs)) n (subst (IsLocalRun c) e (f.1 g)).1,
    )

pub local_fails : (c d : Cell) (i : ℕ) (hs : List HistoryLine) (h : HistoryLine) (answer : NodeAnswer) → i < length hs → h ≡ get_or hs i h
    → cell_takes c h.ask ≡ record { answer = answer; cell = d } → (answer ≡ h.answer → ⊥) → LocalFrom c i hs → IsLocalRun fresh_cell hs → ⊥
unfolding IsLocalRun
local_fails c d i hs h answer l is t other f g =
    let e = front i hs h l is in
    let a : h.answer ≡ (cell_takes c h.ask).answer = (subst (IsLocalRun c) e (f.1 g)).0 in
    other (sym (ap (λ x. x.answer) t) ∙ sym a)

pub local_ends : (c : Cell) (i : ℕ) (hs : List HistoryLine) → length hs ≤ i → LocalFrom c i hs → IsLocalRun fresh_cell hs
unfolding IsLocalRun
local_ends c i hs l f = f.0 (subst (IsLocalRun c) (sym (drop_all i hs l)) tt)

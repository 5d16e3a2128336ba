-- A call over a wire, and the caller one line later.
use Rattle.std.proofs.Common.{◌≡◌, ℕ, ◌≤◌, List, [], ◌∷◌, ◌++◌, refl, sym, ap, subst, ◌∙◌}
use Rattle.std.specs.Prelude.{Bool, Result, Ok, Err, IfOk, OnOk, OnErr}
use Rattle.std.specs.declared.alloc.AllocError.{AllocError}
use Rattle.journal_core.specs.declared.request.Request.{Request}
use Rattle.journal_core.specs.declared.reply.Reply.{Reply}
use Rattle.journal_core.specs.declared.heard.Heard.{Heard}
use Rattle.journal_core.specs.Peers.{Lists}
use Rattle.journal_history.specs.declared.mark.Mark.{Mark}
use Rattle.journal_history.specs.declared.mark.MarkKind.{MarkKind}
use Rattle.journal_history.specs.declared.node_ask.NodeAsk.{NodeAsk}
use Rattle.journal_history.specs.declared.node_ask.NodeAnswer.TheVariants.{Replied, Stopped, Done}
use Rattle.journal_history.specs.declared.record.Record.{Record}
use Rattle.journal_history.specs.declared.record.Record.TheVariants.{Call, Late, Operator, Outcome}
use Rattle.journal_history.specs.declared.record.Told.{Told}
use Rattle.journal_history.specs.declared.record.Told.TheVariants as told
use Rattle.mesh.specs.Marks.{IsAsMarked}
use Rattle.play_calls.specs.declared.delivery.Delivery.{Delivery}
use Rattle.play_calls.specs.declared.delivery.Delivery.TheVariants.{Delivered, ReplyLost, NotDelivered}
use Rattle.play_calls.specs.Deliveries.{delivery, told_of}
use Rattle.play_calls.specs.Logs.{LogView, with_line, lose_call, copy_call, calls_in, IsCalled}
use Rattle.play_calls.proofs.CallLists.{makes_none, makes_one, lists_called}
use Rattle.play_calls.proofs.MarkLaws.{delivery_marked}
use Rattle.caller.specs.declared.wire.WireModel.{Ghosts}
use Rattle.caller.specs.Callers.{CallerView, IsTold, AreLater, IsCalledOver}
use Rattle.caller.specs.LaterLaws.{ReadiesNone, AreCalled, later_one, later_ready}

-- ## What is told
pub told_dropped : IsTold NotDelivered told.Dropped
unfolding told_of
told_dropped = record { answer = Done; is = refl }

pub told_muted : IsTold ReplyLost told.Muted
unfolding told_of
told_muted = record { answer = Done; is = refl }

pub told_reply : (reply : Reply) → IsTold Delivered (told.Reply reply)
unfolding told_of
told_reply reply = record { answer = Replied reply; is = refl }

pub told_silent : IsTold Delivered told.Silent
unfolding told_of
told_silent = record { answer = Stopped 0; is = refl }

pub ruleset tells = (told_dropped, told_muted, told_reply, told_silent)

-- as the marks say
pub marked_so : (marks : List Mark) (node n : ℕ) (d : Delivery) (t : Told) → d ≡ delivery marks node n → IsTold d t → IsAsMarked marks node n t
marked_so marks node n d t goes is =
    subst (λ (x : Told). IsAsMarked marks node n x) (sym (is.is ∙ ap (λ e. told_of e is.answer) goes)) (delivery_marked marks node n is.answer)

module _ {W : Type 0} (w : Ghosts W) where
  -- ## One call
  called_so : (node : ℕ) (r : Request) (heard : Heard) (old : LogView) (before : W) (new : LogView) (after : W)
      → IsCalledOver w node r heard old before new after → IsCalled old node r heard new
  called_so node r heard old before new after c = record { told = c.told; hears = c.hears; as_marked = c.as_marked; listed = c.listed }

  called_all : (res : Result Heard AllocError) (node : ℕ) (r : Request) (old : LogView) (before : W) (new : LogView) (after : W)
      → IfOk res (λ heard. IsCalledOver w node r heard old before new after) → IfOk res (λ heard. IsCalled old node r heard new)
  called_all (Ok heard) node r old before new after c = called_so node r heard old before new after c
  called_all (Err e) node r old before new after c = c

  pub listed_over : (res : Result Heard AllocError) (s : CallerView W) (old : LogView) (before : W) (new : LogView) (after : W) (node : ℕ) (r : Request)
      → record { wire = before; log = old } ≡ s → IfOk res (λ heard. IsCalledOver w node r heard old before new after) → OnErr res (new.past ≡ old.past)
      → Lists (calls_in s.log.past) node r res (calls_in new.past)
  listed_over res s old before new after node r e c u =
      subst (λ (x : CallerView W). Lists (calls_in x.log.past) node r res (calls_in new.past)) e (lists_called old new node r res (called_all res node r old before new after c) u)

  one_over : ReadiesNone w → (s : CallerView W) (old : LogView) (before : W) (new : LogView) (after : W) (node : ℕ) (r : Request) (heard : Heard)
      → record { wire = before; log = old } ≡ s → 1 ≤ node → node ≤ w.nodes before → IsCalledOver w node r heard old before new after
      → AreCalled w s (record { wire = after; log = new })
  one_over none s old before new after node r heard e low high c =
      subst (λ (x : CallerView W). AreCalled w x (record { wire = after; log = new })) e (
        later_one w none (record { wire = before; log = old }) (record { wire = after; log = new }) (Call node r c.told) (ap (λ (l : LogView). l.nodes) c.listed) (ap (λ (l : LogView). l.past) c.listed)
            (low, high, c.went),
        makes_one old new node r heard (called_so node r heard old before new after c),
      )

  pub called_over : ReadiesNone w → (res : Result Heard AllocError) (s : CallerView W) (old : LogView) (before : W) (new : LogView) (after : W) (node : ℕ) (r : Request)
      → record { wire = before; log = old } ≡ s → 1 ≤ node → node ≤ w.nodes before → IfOk res (λ heard. IsCalledOver w node r heard old before new after)
      → OnOk res (AreCalled w s (record { wire = after; log = new }))
  called_over none (Ok heard) s old before new after node r e low high c = one_over none s old before new after node r heard e low high c
  called_over none (Err x) s old before new after node r e low high c = tt

  -- ## A late copy, a mark, a result, and requests that are sent ahead
  pub copied_over : ReadiesNone w → (s : CallerView W) (old : LogView) (before : W) (new : LogView) (after : W) (node number : ℕ) (r : Request)
      → record { wire = before; log = old } ≡ s → 1 ≤ node → node ≤ w.nodes before → w.copies node r before after → new ≡ copy_call old node number r
      → AreLater w s (record { wire = after; log = new })
  copied_over none s old before new after node number r e low high went copied =
      subst (λ (x : CallerView W). AreLater w x (record { wire = after; log = new })) e
      (later_one w none (record { wire = before; log = old }) (record { wire = after; log = new }) (Late node r) (ap (λ (l : LogView). l.nodes) copied) (ap (λ (l : LogView). l.past) copied) (low, high, went))

  pub marked_later : {A E : Type 0} → ReadiesNone w → (res : Result A E) (s : CallerView W) (old : LogView) (wire : W) (new : LogView) (node next : ℕ) (loss : MarkKind)
      → record { wire = wire; log = old } ≡ s → OnOk res (new ≡ lose_call old node next loss) → OnOk res (AreLater w s (record { wire = wire; log = new }))
  marked_later none (Ok a) s old wire new node next loss e m =
      subst (λ (x : CallerView W). AreLater w x (record { wire = wire; log = new })) e
      (later_ready w (record { wire = wire; log = old }) (record { wire = wire; log = new }) (ap (λ (l : LogView). l.nodes) m) (ap (λ (l : LogView). l.past) m) (none wire))
  marked_later none (Err x) s old wire new node next loss e m = tt

  pub said_later : {A E : Type 0} → ReadiesNone w → (res : Result A E) (s : CallerView W) (old : LogView) (wire : W) (new : LogView) (text : List ℕ)
      → record { wire = wire; log = old } ≡ s → OnOk res (new ≡ with_line old (Outcome text)) → OnOk res (AreLater w s (record { wire = wire; log = new }))
  said_later none (Ok a) s old wire new text e m =
      subst (λ (x : CallerView W). AreLater w x (record { wire = wire; log = new })) e
      (later_one w none (record { wire = wire; log = old }) (record { wire = wire; log = new }) (Outcome text) (ap (λ (l : LogView). l.nodes) m) (ap (λ (l : LogView). l.past) m) refl)
  said_later none (Err x) s old wire new text e m = tt

  pub operated_over : ReadiesNone w → (s : CallerView W) (old : LogView) (before : W) (new : LogView) (after : W) (node : ℕ) (ask : NodeAsk) (done : Bool)
      → record { wire = before; log = old } ≡ s → 1 ≤ node → node ≤ w.nodes before → w.operates node ask done before after → new ≡ with_line old (Operator node ask done)
      → AreLater w s (record { wire = after; log = new })
  operated_over none s old before new after node ask done e low high went listed =
      subst (λ (x : CallerView W). AreLater w x (record { wire = after; log = new })) e
      (later_one w none (record { wire = before; log = old }) (record { wire = after; log = new }) (Operator node ask done) (ap (λ (l : LogView). l.nodes) listed) (ap (λ (l : LogView). l.past) listed) (low, high, went))

  pub ready_over : {A E : Type 0} → (res : Result A E) (s : CallerView W) (log : LogView) (before after : W)
      → record { wire = before; log = log } ≡ s → OnOk res (w.readies before after) → OnOk res (AreCalled w s (record { wire = after; log = log }))
  ready_over (Ok a) s log before after e r =
      subst (λ (x : CallerView W). AreCalled w x (record { wire = after; log = log })) e
      (later_ready w (record { wire = before; log = log }) (record { wire = after; log = log }) refl refl r, makes_none log)
  ready_over (Err x) s log before after e r = tt

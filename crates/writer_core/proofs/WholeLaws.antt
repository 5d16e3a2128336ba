-- The table of whole rounds, as a takeover hears more and is given more tasks.
use Rattle.std.proofs.Common.{◌≡◌, ℕ, zero, suc, ◌<◌, List, [], ◌∷◌, ◌++◌, append_assoc, Bool, true, false, refl, sym, ap, ◌∙◌, arith, Option, Some, None}
use Rattle.journal_core.specs.declared.reply.Reply.{Reply}
use Rattle.writer_core.specs.declared.phase.Phase.{Phase}
use Rattle.writer_core.specs.declared.phase.Phase.TheVariants as phase
use Rattle.writer_core.specs.declared.task.Task.{Task}
use Rattle.writer_core.specs.Views.{WriterView}
use Rattle.writer_core.specs.Writer.{writer_begun}
use Rattle.writer_core.specs.Whole.{Takeover, TaskProgress, round_heard, progress_from, has_begun, next_begun, next_task, round_after, next_round, writer_at}

abbrev pub with_tasks : Takeover → List Task → Takeover
with_tasks t more = record t { tasks = t.tasks ++ more }

abbrev pub with_heard : Takeover → (ℕ → ℕ → Option Reply) → Takeover
with_heard t heard = record t { heard = heard }

abbrev pub going_on : TaskProgress → List Task → TaskProgress
going_on u more = record u { tasks = u.tasks ++ more }

-- a round is as what was heard in earlier rounds makes it
pub heard_below : (n : ℕ) (t : Takeover) (heard : ℕ → ℕ → Option Reply) (s : ℕ) → ((x : ℕ) → x < s → heard x ≡ t.heard x) → writer_at n (with_heard t heard) s ≡ writer_at n t s
unfolding writer_at
heard_below n t heard zero e = refl
heard_below n t heard (suc s) e =
    ap (λ (f : ℕ → Option Reply). next_round f (writer_at n (with_heard t heard) s)) (e s (omega arith))
    ∙ ap (λ (o : Option TaskProgress). next_round (t.heard s) o) (heard_below n t heard s (λ x l. e x (omega arith)))

-- ## More tasks
under_more : (p : Phase) (w : WriterView) (ts more : List Task) (u : TaskProgress) → progress_from p w ts ≡ Some u → progress_from p w (ts ++ more) ≡ Some (going_on u more)
under_more (phase.InRound r) w ts more u e =
    let one : record { writer = w; round = r; tasks = ts } ≡ u = cc e in
    ap (λ (x : TaskProgress). Some (going_on x more)) one
under_more phase.Idle w ts more u e = absurd (cc e)
under_more phase.Writing w ts more u e = absurd (cc e)
under_more phase.Stopped w ts more u e = absurd (cc e)

or_more : (b : Bool) (x y : Option TaskProgress) (z v : Option TaskProgress) (u w : TaskProgress) → (x ≡ Some u → z ≡ Some w)
    → (y ≡ Some u → v ≡ Some w) → next_begun b x y ≡ Some u → next_begun b z v ≡ Some w
or_more true x y z v u w f g e = f e
or_more false x y z v u w f g e = g e

next_more : (w : WriterView) (ts more : List Task) (u : TaskProgress) → next_task w ts ≡ Some u → next_task w (ts ++ more) ≡ Some (going_on u more)
unfolding next_task
next_more w [] more u e = absurd (cc e)
next_more w (t ∷ ts) more u e =
    or_more (has_begun (writer_begun w t).begun)
    (progress_from (writer_begun w t).writer.phase (writer_begun w t).writer ts) (next_task w ts)
    (progress_from (writer_begun w t).writer.phase (writer_begun w t).writer (ts ++ more)) (next_task w (ts ++ more)) u (going_on u more)
    (λ f. under_more (writer_begun w t).writer.phase (writer_begun w t).writer ts more u f) (λ f. next_more w ts more u f) e

after_more : (p : Phase) (w : WriterView) (ts more : List Task) (u : TaskProgress) → round_after p w ts ≡ Some u → round_after p w (ts ++ more) ≡ Some (going_on u more)
after_more (phase.InRound r) w ts more u e = under_more (phase.InRound r) w ts more u e
after_more phase.Writing w ts more u e = next_more w ts more u e
after_more phase.Idle w ts more u e = absurd (cc e)
after_more phase.Stopped w ts more u e = absurd (cc e)

abbrev all_going_on : List Task → Option TaskProgress → Option TaskProgress
all_going_on more None = None
all_going_on more (Some x) = Some (going_on x more)

pub tasks_more : (n : ℕ) (t : Takeover) (more : List Task) (s : ℕ) (u : TaskProgress) → writer_at n t s ≡ Some u → writer_at n (with_tasks t more) s ≡ Some (going_on u more)
unfolding writer_at
tasks_more n t more zero u e = ap (all_going_on more) e
tasks_more n t more (suc s) u e = by (writer_at n t s) refl (λ x is. tasks_more n t more s x is) e
  where
    by : (o : Option TaskProgress) → writer_at n t s ≡ o → ((x : TaskProgress) → writer_at n t s ≡ Some x → writer_at n (with_tasks t more) s ≡ Some (going_on x more))
        → next_round (t.heard s) o ≡ Some u → next_round (t.heard s) (writer_at n (with_tasks t more) s) ≡ Some (going_on u more)
    by None is ih f = absurd (cc f)
    by (Some x) is ih f =
        let w : WriterView = (round_heard x.round (t.heard s) x.writer).writer in
        ap (λ (o : Option TaskProgress). next_round (t.heard s) o) (ih x is) ∙ after_more w.phase w x.tasks more u f

-- ## A round of the story so far: whatever tasks are still to come
abbrev pub Reaches : ℕ → Takeover → ℕ → WriterView → Type 0
Reaches n t s w = (more : List Task) → writer_at n (with_tasks t more) s ≡ round_after w.phase w more

pub reaches_next : (n : ℕ) (t : Takeover) (s : ℕ) (w : WriterView) (v : WriterView) → Reaches n t s w
    → ((more : List Task) → next_round (t.heard s) (round_after w.phase w more) ≡ round_after v.phase v more) → Reaches n t (suc s) v
unfolding writer_at
reaches_next n t s w v h f more = ap (λ (o : Option TaskProgress). next_round (t.heard s) o) (h more) ∙ f more

pub reaches_heard : (n : ℕ) (t : Takeover) (heard : ℕ → ℕ → Option Reply) (s : ℕ) (w : WriterView) → ((x : ℕ) → x < s → heard x ≡ t.heard x) → Reaches n t s w → Reaches n (with_heard t heard) s w
reaches_heard n t heard s w e h more = heard_below n (with_tasks t more) heard s e ∙ h more

-- a task that begins
pub reaches_task : (n : ℕ) (t : Takeover) (s : ℕ) (w : WriterView) (x : Task) (v : WriterView) → Reaches n t s w
    → ((more : List Task) → round_after w.phase w (x ∷ more) ≡ round_after v.phase v more) → Reaches n (with_tasks t (x ∷ [])) s v
reaches_task n t s w x v h f more =
    ap (λ (l : List Task). writer_at n (record t { tasks = l }) s) (append_assoc t.tasks (x ∷ []) more) ∙ h (x ∷ more) ∙ f more

-- with no more tasks it is the round itself
pub reaches_now : (n : ℕ) (t : Takeover) (s : ℕ) (w : WriterView) → Reaches n t s w → writer_at n t s ≡ round_after w.phase w []
reaches_now n t s w h = ap (λ (l : List Task). writer_at n (record t { tasks = l }) s) (sym (nil t.tasks)) ∙ h []
  where
    nil : (l : List Task) → l ++ [] ≡ l
    nil [] = refl
    nil (x ∷ l) = ap (λ (z : List Task). x ∷ z) (nil l)

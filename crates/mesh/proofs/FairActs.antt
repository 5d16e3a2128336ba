-- A caller that goes on in a tale of fair entries: a call, a late copy, a task.
use Rattle.std.proofs.Common.{◌≡◌, ℕ, zero, suc, ◌==◌, ◌⊎◌, inl, inr, List, [], ◌∷◌, ◌++◌, Bool, true, false, cond, refl, sym, ap, ◌∙◌, subst, Some}
use Rattle.std.specs.Prelude.{slice_get}
use Rattle.journal_core.specs.declared.request.Request.{Request}
use Rattle.journal_core.specs.declared.heard.Heard.{Heard}
use Rattle.writer_core.specs.declared.task.Task.{Task}
use Rattle.writer_core.specs.Views.{WriterView}
use Rattle.writer_core.specs.Writer.{next_call, writer_heard, HasBody}
use Rattle.writer_core.proofs.WholeRounds.{IsCalling, calling_in}
use Rattle.journal_history.specs.declared.record.Record.{Record}
use Rattle.journal_history.specs.declared.record.Record.TheVariants.{Call, Late, Operator, Outcome}
use Rattle.journal_history.specs.declared.record.Told.{Told}
use Rattle.journal_history.specs.Entries.{Entry}
use Rattle.run_safety.proofs.Tales.{Tale}
use Rattle.run_safety.proofs.TaleSteps.{Continues, made_later}
use Rattle.run_safety.proofs.CallLeft.{CopyLeft, HasEpoch, CallLeft}
use Rattle.run_safety.proofs.WorldActs.{IsMadeBy, call_own, heard_status, Stays, copy_stays, read_stays}
use Rattle.run_safety.proofs.WriterRange.{Sized, heard_sized, begun_sized}
use Rattle.run_safety.proofs.Tracked.{Status}
use Rattle.mesh.specs.Marks.{calls_to}
use Rattle.mesh.specs.Makers.{heard_of}
use Rattle.run_safety.proofs.Fair.{IsTold}
use Rattle.run_safety.proofs.RoundCalls.{Gives}
use Rattle.run_safety.proofs.TaskBegins.{its_begin, task_status}
use Rattle.mesh.proofs.Lists.{Alike, alike, append_none}

-- ## The calls that the caller made so far: each was made in a round of one of its takeovers
abbrev pub Own : ℕ → Tale → List Entry → ℕ → List Record → Type 0
Own n a past c before = (node i : ℕ) (r : Request) → slice_get (calls_to node before) i ≡ Some r → HasEpoch r → IsMadeBy n a past c node r

own_later : (n c : ℕ) (a b : Tale) (past next : List Entry) (before : List Record) → Continues c a past b next → Own n a past c before → Own n b next c before
own_later n c a b past next before g h node i r e some = let m : IsMadeBy n a past c node r = h node i r e some in (m.0, m.1, made_later n c a b past next m.0 m.1 c node r g m.2)

calls_more : (node k : ℕ) (r : Request) (t : Told) (before : List Record) → calls_to node (before ++ Call k r t ∷ []) ≡ calls_to node before ++ cond (k == node) (r ∷ []) []
unfolding calls_to
calls_more node k r t [] = by (k == node)
  where
    by : (b : Bool) → cond b (r ∷ []) [] ≡ cond b (r ∷ []) []
    by b = refl
calls_more node k r t (Call j q u ∷ before) = by (j == node) (calls_more node k r t before)
  where
    by : (b : Bool) → calls_to node (before ++ Call k r t ∷ []) ≡ calls_to node before ++ cond (k == node) (r ∷ []) []
        → cond b (q ∷ calls_to node (before ++ Call k r t ∷ [])) (calls_to node (before ++ Call k r t ∷ [])) ≡ cond b (q ∷ calls_to node before) (calls_to node before) ++ cond (k == node) (r ∷ []) []
    by true h = ap (λ (l : List Request). q ∷ l) h
    by false h = h
calls_more node k r t (Late j q ∷ before) = calls_more node k r t before
calls_more node k r t (Operator j q d ∷ before) = calls_more node k r t before
calls_more node k r t (Outcome x ∷ before) = calls_more node k r t before

calls_less : (node : ℕ) (x : Record) (before : List Record) → calls_to node (x ∷ []) ≡ [] → calls_to node (before ++ x ∷ []) ≡ calls_to node before
unfolding calls_to
calls_less node x [] e = e
calls_less node x (Call j q u ∷ before) e = by (j == node) (calls_less node x before e)
  where
    by : (b : Bool) → calls_to node (before ++ x ∷ []) ≡ calls_to node before
        → cond b (q ∷ calls_to node (before ++ x ∷ [])) (calls_to node (before ++ x ∷ [])) ≡ cond b (q ∷ calls_to node before) (calls_to node before)
    by true h = ap (λ (l : List Request). q ∷ l) h
    by false h = h
calls_less node x (Late j q ∷ before) e = calls_less node x before e
calls_less node x (Operator j q d ∷ before) e = calls_less node x before e
calls_less node x (Outcome y ∷ before) e = calls_less node x before e

get_last : (xs : List Request) (y r : Request) (i : ℕ) → slice_get (xs ++ y ∷ []) i ≡ Some r → (slice_get xs i ≡ Some r) ⊎ (y ≡ r)
get_last [] y r zero e = inr (same e)
  where
    same : Some y ≡ Some r → y ≡ r
    same f = cc
get_last [] y r (suc i) e = absurd (cc e)
get_last (x ∷ xs) y r zero e = inl e
get_last (x ∷ xs) y r (suc i) e = get_last xs y r i e

own_call : (n : ℕ) (a : Tale) (past : List Entry) (c k : ℕ) (q : Request) (t : Told) (before : List Record) → Own n a past c before
    → (HasEpoch q → IsMadeBy n a past c k q) → Own n a past c (before ++ Call k q t ∷ [])
unfolding Alike
own_call n a past c k q t before h g node i r e some = by (alike k node)
  where
    by : Alike k node → IsMadeBy n a past c node r
    by (inr off) = h node i r (ap (λ (l : List Request). slice_get l i) (sym (calls_more node k q t before ∙ rest)) ∙ e) some
      where
        rest : calls_to node before ++ cond (k == node) (q ∷ []) [] ≡ calls_to node before
        rest = rw off.0 (append_none (calls_to node before))
    by (inl on) = last (get_last (calls_to node before) q r i (ap (λ (l : List Request). slice_get l i) (sym (calls_more node k q t before ∙ rest)) ∙ e))
      where
        rest : calls_to node before ++ cond (k == node) (q ∷ []) [] ≡ calls_to node before ++ q ∷ []
        rest = rw on.0 refl

        last : (slice_get (calls_to node before) i ≡ Some r) ⊎ (q ≡ r) → IsMadeBy n a past c node r
        last (inl f) = h node i r f some
        last (inr f) = subst (λ (x : Request). IsMadeBy n a past c node x) f (subst (λ (j : ℕ). IsMadeBy n a past c j q) on.1 (g (subst HasEpoch (sym f) some)))

own_other : (n : ℕ) (a : Tale) (past : List Entry) (c : ℕ) (x : Record) (before : List Record) → ((node : ℕ) → calls_to node (x ∷ []) ≡ []) → Own n a past c before → Own n a past c (before ++ x ∷ [])
own_other n a past c x before none h node i r e some = h node i r (ap (λ (l : List Request). slice_get l i) (sym (calls_less node x before (none node))) ∙ e) some

-- ## Where the caller stands after these lines of its record
pub record Standing (n c : ℕ) (before : List Record) (past : List Entry) (v : WriterView) : Type 0 where
  pub tale : Tale
  pub told : IsTold n tale past
  pub status : Status n tale past c v
  pub sized : Sized n v
  pub own : Own n tale past c before

pub call_stands : (n c : ℕ) (before : List Record) (past next : List Entry) (v : WriterView) (k : ℕ) (q : Request) (t : Told) → next_call v ≡ Some (k, q) → CallLeft n past c k q (heard_of t) next
    → Standing n c before past v → Standing n c (before ++ Call k q t ∷ []) next (writer_heard v k (heard_of t)).writer
call_stands n c before past next v k q t e left h =
    let call : IsCalling v k q = calling_in v k q e in
    let own : Own n h.tale past c (before ++ Call k q t ∷ []) = own_call n h.tale past c k q t before h.own (call_own n h.tale past c v k q call h.status) in
    let g : Gives n c h.tale past next (λ b. Status n b next c (writer_heard v k (heard_of t)).writer) = heard_status n h.tale past next c v k q (heard_of t) call h.told left h.status in
    record { tale = g.0; told = g.1; status = g.3; sized = heard_sized n v k (heard_of t) h.sized; own = own_later n c h.tale g.0 past next (before ++ Call k q t ∷ []) g.2 own }

-- ## A call whose request has no epoch
pub read_stands : (n c : ℕ) (before : List Record) (past next : List Entry) (v : WriterView) (k : ℕ) (q : Request) (t : Told) (d : Heard) → (HasEpoch q → ⊥) → CallLeft n past c k q d next
    → Standing n c before past v → Standing n c (before ++ Call k q t ∷ []) next v
read_stands n c before past next v k q t d off left h =
    let g : Stays n c h.tale past next = read_stays n h.tale past next c k q d off h.told left in
    let own : Own n h.tale past c (before ++ Call k q t ∷ []) = own_call n h.tale past c k q t before h.own (λ some. absurd (off some)) in
    record { tale = g.0; told = g.1; status = g.3 c v h.status; sized = h.sized; own = own_later n c h.tale g.0 past next (before ++ Call k q t ∷ []) g.2 own }

-- ## A task
pub task_stands : (n c : ℕ) (before : List Record) (past : List Entry) (v : WriterView) (t : Task) → HasBody t → Standing n c before past v → Standing n c before past (its_begin t v)
task_stands n c before past v t body h =
    let g : Gives n c h.tale past past (λ b. Status n b past c (its_begin t v)) = task_status n h.tale past c v t h.told h.sized body h.status in
    record { tale = g.0; told = g.1; status = g.3; sized = begun_sized n v t h.sized; own = own_later n c h.tale g.0 past past before g.2 h.own }

-- ## A late copy
pub other_stands : (n c : ℕ) (before : List Record) (past : List Entry) (v : WriterView) (x : Record) → ((node : ℕ) → calls_to node (x ∷ []) ≡ [])
    → Standing n c before past v → Standing n c (before ++ x ∷ []) past v
other_stands n c before past v x none h = record { tale = h.tale; told = h.told; status = h.status; sized = h.sized; own = own_other n h.tale past c x before none h.own }

pub copy_stands : (n c : ℕ) (before : List Record) (past next : List Entry) (v : WriterView) (k i : ℕ) (q : Request) → slice_get (calls_to k before) i ≡ Some q → CopyLeft n past c k q next
    → Standing n c before past v → Standing n c (before ++ Late k q ∷ []) next v
unfolding calls_to
copy_stands n c before past next v k i q e left h =
    let g : Stays n c h.tale past next = copy_stays n h.tale past next c k q h.told (λ some. h.own k i q e some) left in
    record { tale = g.0; told = g.1; status = g.3 c v h.status; sized = h.sized; own = own_other n g.0 next c (Late k q) before (λ node. refl) (own_later n c h.tale g.0 past next before g.2 h.own) }

-- A caller that does chores, call by call; and a tail whose passes are tails of their own.
use Rattle.std.proofs.Common.{◌≡◌, ℕ, zero, suc, ◌+◌, List, [], ◌∷◌, Bool, true, false, cond, length, refl, sym, ap, ◌∙◌, subst, Some, None, Option}
use Rattle.std.specs.Prelude.{is_some, nat_lt}
use Rattle.journal_core.specs.declared.request.Request.{Request}
use Rattle.journal_core.specs.declared.request.Request.TheVariants.{State, Read}
use Rattle.journal_core.specs.declared.reply.Reply.TheVariants as reply
use Rattle.writer_core.specs.declared.task.Task.{Task}
use Rattle.writer_core.specs.Views.{WriterView}
use Rattle.writer_core.specs.Writer.{writer_begun, next_call, writer_heard, HasBody}
use Rattle.journal_history.specs.declared.record.Record.{Record}
use Rattle.journal_history.specs.declared.record.Record.TheVariants.{Call, Late, Operator, Outcome}
use Rattle.journal_history.specs.declared.record.Told.{Told}
use Rattle.journal_history.specs.declared.record.Told.TheVariants as told
use Rattle.mesh.specs.Makers.{Chore, Writes, Tails, Reading, Maker, heard_of, maker_of, maker_hears, read_heard, IsMade, HaveBodies}
use Rattle.mesh_judge.specs.declared.making.Pass.{Pass}
use Rattle.mesh_judge.specs.Leading.{between, in_pass, reading_of, maker_at, CanMake, after_pass}

pub call_there : (o : Option (ℕ × Request)) (node : ℕ) (r : Request) → o ≡ Some (node, r) → is_some o ≡ true
call_there o node r e = subst (λ x. is_some x ≡ true) (sym e) refl

-- ## A maker waits while its writer has a call to make
abbrev pub waiting : List Chore → WriterView → Maker
waiting cs w = record { chores = cs; writer = w; reading = None }

abbrev pub tailing : List Chore → WriterView → Reading → Maker
tailing cs w r = record { chores = cs; writer = w; reading = Some r }

pub waits : (cs : List Chore) (w : WriterView) → is_some (next_call w) ≡ true → maker_of cs w ≡ waiting cs w
unfolding maker_of
waits [] w e = refl
waits (Writes t ∷ cs) w e = ap (λ b. cond b (waiting (Writes t ∷ cs) w) (maker_of cs (writer_begun w t).writer)) e
waits (Tails position more ∷ cs) w e = ap (λ b. cond b (waiting (Tails position more ∷ cs) w) (tailing cs w (record { position = position; node = 1; more = more }))) e

pub passes : (t : Task) (cs : List Chore) (w : WriterView) → is_some (next_call w) ≡ false → maker_of (Writes t ∷ cs) w ≡ maker_of cs (writer_begun w t).writer
unfolding maker_of
passes t cs w e = ap (λ b. cond b (waiting (Writes t ∷ cs) w) (maker_of cs (writer_begun w t).writer)) e

pub tails : (position more : ℕ) (cs : List Chore) (w : WriterView) → is_some (next_call w) ≡ false
    → maker_of (Tails position more ∷ cs) w ≡ tailing cs w (record { position = position; node = 1; more = more })
unfolding maker_of
tails position more cs w e = ap (λ b. cond b (waiting (Tails position more ∷ cs) w) (tailing cs w (record { position = position; node = 1; more = more }))) e

abbrev pub heard : WriterView → ℕ → Told → WriterView
heard w node t = (writer_heard w node (heard_of t)).writer

abbrev pub begun : WriterView → Task → WriterView
begun w x = (writer_begun w x).writer

-- the call is made, and the chores go on from what was heard
pub makes_call : (w : WriterView) (node : ℕ) (r : Request) (t : Told) (rs : List Record) → next_call w ≡ Some (node, r)
    → CanMake (between (heard w node t)) rs → CanMake (between w) (Call node r t ∷ rs)
unfolding IsMade maker_hears
makes_call w node r t rs e (cs, bodies, made) = (cs, bodies, subst (λ m. IsMade m (Call node r t ∷ rs)) (sym (waits cs w (call_there (next_call w) node r e))) (e, made))

-- a task begins
pub makes_begun : (w : WriterView) (x : Task) (rs : List Record) → is_some (next_call w) ≡ false → HasBody x → CanMake (between (begun w x)) rs → CanMake (between w) rs
unfolding HaveBodies
makes_begun w x rs e b (cs, bodies, made) = (Writes x ∷ cs, (b, bodies), subst (λ m. IsMade m rs) (sym (passes x cs w e)) made)

-- a tail of one pass begins
pub makes_tail : (w : WriterView) (position : ℕ) (rs : List Record) → is_some (next_call w) ≡ false → CanMake (in_pass w (record { position = position; node = 1 })) rs → CanMake (between w) rs
unfolding HaveBodies
makes_tail w position rs e (cs, bodies, made) = (Tails position 0 ∷ cs, bodies, subst (λ m. IsMade m rs) (sym (tails position 0 cs w e)) made)

-- ## A read is heard
at_next : (cs : List Chore) (w : WriterView) (p : Pass) (b : Bool)
    → maker_at cs (cond b (in_pass w (record p { node = p.node + 1 })) (between w)) ≡ cond b (tailing cs w (record (reading_of p) { node = p.node + 1 })) (maker_of cs w)
at_next cs w p true = refl
at_next cs w p false = refl

pub read_passes : (cs : List Chore) (w : WriterView) (p : Pass) (t : Told) → maker_at cs (after_pass w p t) ≡ read_heard (reading_of p) t (tailing cs w (reading_of p))
read_passes cs w p (told.Reply (reply.Edits batch)) = refl
read_passes cs w p (told.Reply reply.Ok) = at_next cs w p (nat_lt p.node (length w.left))
read_passes cs w p (told.Reply (reply.State promised)) = at_next cs w p (nat_lt p.node (length w.left))
read_passes cs w p (told.Reply (reply.NewEpoch newest)) = at_next cs w p (nat_lt p.node (length w.left))
read_passes cs w p (told.Reply (reply.Prepared writer committed segment)) = at_next cs w p (nat_lt p.node (length w.left))
read_passes cs w p (told.Reply (reply.Segments segments)) = at_next cs w p (nat_lt p.node (length w.left))
read_passes cs w p (told.Reply (reply.Refused refusal)) = at_next cs w p (nat_lt p.node (length w.left))
read_passes cs w p told.Dropped = at_next cs w p (nat_lt p.node (length w.left))
read_passes cs w p told.Muted = at_next cs w p (nat_lt p.node (length w.left))
read_passes cs w p told.Silent = at_next cs w p (nat_lt p.node (length w.left))

pub makes_read : (w : WriterView) (p : Pass) (node : ℕ) (r : Request) (t : Told) (rs : List Record) → p.node ≡ node → Read (p.position + 1) ≡ r
    → CanMake (after_pass w p t) rs → CanMake (in_pass w p) (Call node r t ∷ rs)
unfolding IsMade maker_hears
makes_read w p node r t rs e f (cs, bodies, made) =
    (cs, bodies, (ap (λ n. Some (n, Read (p.position + 1))) e ∙ ap (λ q. Some (node, q)) f, subst (λ m. IsMade m rs) (read_passes cs w p t) made))

-- the parts of a call
abbrev pub node_called : Option (ℕ × Request) → ℕ
node_called None = 0
node_called (Some x) = x.0

abbrev pub request_called : Option (ℕ × Request) → Request
request_called None = State
request_called (Some x) = x.1

-- what a pass asks, and what is left of it
pub record Read_by (w : WriterView) (p : Pass) (node : ℕ) (r : Request) (t : Told) (rs : List Record) : Type 0 where
  pub node_is : p.node ≡ node
  pub request_is : Read (p.position + 1) ≡ r
  pub rest : CanMake (after_pass w p t) rs

pub read_made : (w : WriterView) (p : Pass) (node : ℕ) (r : Request) (t : Told) (rs : List Record) → CanMake (in_pass w p) (Call node r t ∷ rs) → Read_by w p node r t rs
unfolding IsMade maker_hears
read_made w p node r t rs (cs, bodies, made) = record {
  node_is = ap node_called made.0;
  request_is = ap request_called made.0;
  rest = (cs, bodies, subst (λ m. IsMade m rs) (sym (read_passes cs w p t)) made.1);
}

-- ## A tail of many passes is many tails of one pass
abbrev Shorter : WriterView → List Record → Type 0
Shorter w rs = (p : Pass) (more : ℕ) (cs : List Chore) → HaveBodies cs → IsMade (tailing cs w (record { position = p.position; node = p.node; more = more })) rs → CanMake (in_pass w p) rs

shorter_next : (w : WriterView) (rs : List Record) (p : Pass) (more : ℕ) (cs : List Chore) → Shorter w rs → HaveBodies cs → (b : Bool)
    → IsMade (cond b (tailing cs w (record { position = p.position; node = p.node + 1; more = more })) (maker_of cs w)) rs
    → CanMake (cond b (in_pass w (record p { node = p.node + 1 })) (between w)) rs
shorter_next w rs p more cs later bodies true h = later (record p { node = p.node + 1 }) more cs bodies h
shorter_next w rs p more cs later bodies false h = (cs, bodies, h)

shorter_read : (w : WriterView) (rs : List Record) (p : Pass) (more : ℕ) (cs : List Chore) (t : Told) → is_some (next_call w) ≡ false → Shorter w rs → HaveBodies cs
    → IsMade (read_heard (record { position = p.position; node = p.node; more = more }) t
    (tailing cs w (record { position = p.position; node = p.node; more = more }))) rs → CanMake (after_pass w p t) rs
shorter_read w rs p zero cs (told.Reply (reply.Edits batch)) rests later b h = (cs, b, h)
shorter_read w rs p (suc more) cs (told.Reply (reply.Edits batch)) rests later b h =
    let next : Pass = record { position = p.position + length batch.bodies; node = 1 } in
    makes_tail w (p.position + length batch.bodies) rs rests (later next more cs b h)
shorter_read w rs p more cs (told.Reply reply.Ok) rests later b h = shorter_next w rs p more cs later b (nat_lt p.node (length w.left)) h
shorter_read w rs p more cs (told.Reply (reply.State promised)) rests later b h = shorter_next w rs p more cs later b (nat_lt p.node (length w.left)) h
shorter_read w rs p more cs (told.Reply (reply.NewEpoch newest)) rests later b h = shorter_next w rs p more cs later b (nat_lt p.node (length w.left)) h
shorter_read w rs p more cs (told.Reply (reply.Prepared writer committed segment)) rests later b h = shorter_next w rs p more cs later b (nat_lt p.node (length w.left)) h
shorter_read w rs p more cs (told.Reply (reply.Segments segments)) rests later b h = shorter_next w rs p more cs later b (nat_lt p.node (length w.left)) h
shorter_read w rs p more cs (told.Reply (reply.Refused refusal)) rests later b h = shorter_next w rs p more cs later b (nat_lt p.node (length w.left)) h
shorter_read w rs p more cs told.Dropped rests later b h = shorter_next w rs p more cs later b (nat_lt p.node (length w.left)) h
shorter_read w rs p more cs told.Muted rests later b h = shorter_next w rs p more cs later b (nat_lt p.node (length w.left)) h
shorter_read w rs p more cs told.Silent rests later b h = shorter_next w rs p more cs later b (nat_lt p.node (length w.left)) h

pub shorter : (w : WriterView) → is_some (next_call w) ≡ false → (rs : List Record) → Shorter w rs
unfolding IsMade maker_hears
shorter w rests [] p more cs b h = (cs, b, tt)
shorter w rests (Call node r t ∷ rs) p more cs b (e, h) =
    let g = shorter_read w rs p more cs t rests (shorter w rests rs) b h in (g.0, g.1, (e, subst (λ m. IsMade m rs) (read_passes g.0 w p t) g.2))
shorter w rests (Late node r ∷ rs) p more cs b h = shorter w rests rs p more cs b h
shorter w rests (Operator node ask done ∷ rs) p more cs b h = absurd h
shorter w rests (Outcome text ∷ rs) p more cs b h = shorter w rests rs p more cs b h

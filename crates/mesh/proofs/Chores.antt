-- A maker along a record: what holds of its writer as tasks begin and calls are answered, and at
-- reads, which come between tasks.
use Rattle.std.proofs.Common.{◌≡◌, ℕ, zero, suc, ◌+◌, List, [], ◌∷◌, Bool, true, false, cond, refl, sym, ap, ◌∙◌, length, ◌⊎◌, inl, inr}
use Rattle.std.specs.Prelude.{Option, Some, None, is_some, nat_lt}
use Rattle.std.proofs.lemmas.Bool.{cases_Bool}
use Rattle.journal_core.specs.declared.request.Request.{Request}
use Rattle.journal_core.specs.declared.request.Request.TheVariants as request
use Rattle.journal_core.specs.declared.reply.Reply.TheVariants as reply
use Rattle.writer_core.specs.declared.task.Task.{Task}
use Rattle.writer_core.specs.Views.{WriterView}
use Rattle.writer_core.specs.Writer.{HasBody, is_under_way, writer_begun, next_call, writer_heard}
use Rattle.writer_core.specs.Left.{IsLive}
use Rattle.writer_core.proofs.LiveLaws.{someone_called}
use Rattle.journal_history.specs.declared.record.Told.{Told}
use Rattle.journal_history.specs.declared.record.Told.TheVariants as told
use Rattle.mesh.proofs.Calls.{pair}
use Rattle.mesh.specs.Makers.{heard_of, Chore, Writes, Tails, Reading, Maker, maker_of, asks, read_on, next_node, read_heard, chore_hears, maker_hears, HaveBodies}

-- a tail begins where the writer has no call to make
abbrev pub Rests : Option Reading → WriterView → Type 0
Rests None w = Unit {0}
Rests (Some r) w = next_call w ≡ None

-- the call to make next is the writer's, or a read
pub data Asked (m : Maker) (k : ℕ) (q : Request) : Type 0 where
  Writing : next_call m.writer ≡ Some (k, q) → Asked m k q
  Reads : (from : ℕ) → q ≡ request.Read from → next_call m.writer ≡ None → Asked m k q

request_is : (j k : ℕ) (p q : Request) → Some (pair j p) ≡ Some (pair k q) → q ≡ p
request_is j k p q e = let whole : pair j p ≡ pair k q = cc e in sym (ap (λ (c : ℕ × Request). c.1) whole)

pub asked_of : (m : Maker) (k : ℕ) (q : Request) → asks m.reading m.writer ≡ Some (k, q) → Rests m.reading m.writer → Asked m k q
asked_of m k q e r = by m.reading e r
  where
    by : (o : Option Reading) → asks o m.writer ≡ Some (k, q) → Rests o m.writer → Asked m k q
    by None c s = Writing c
    by (Some x) c s = Reads (x.position + 1) (request_is x.node k (request.Read (x.position + 1)) q c) s

-- where it reads, no round is under way
pub at_rest : (w : WriterView) → IsLive w → next_call w ≡ None → is_under_way w.phase ≡ false
at_rest w l none = by (cases_Bool (is_under_way w.phase))
  where
    by : (is_under_way w.phase ≡ true) ⊎ (is_under_way w.phase ≡ false) → is_under_way w.phase ≡ false
    by (inr e) = e
    by (inl e) =
        let called : (node : ℕ) × (q : Request) × (next_call w ≡ Some (node, q)) = someone_called w l e in
        absurd (cc (sym none ∙ called.2))

module _ {A : Type 0} (P : A → WriterView → Type 0) (begins : (a : A) (w : WriterView) (t : Task) → HasBody t → P a w → P a (writer_begun w t).writer) where
  pub record Stands (a : A) (m : Maker) : Type 0 where
    pub bodies : HaveBodies m.chores
    pub writer : P a m.writer
    pub rests : Rests m.reading m.writer

  cond_stands : (b : Bool) (a : A) (x y : Maker) → Stands a x → Stands a y → Stands a (cond b x y)
  cond_stands true a x y h g = h
  cond_stands false a x y h g = g

  tails_stand : (o : Option (ℕ × Request)) (a : A) (position more : ℕ) (cs : List Chore) (w : WriterView) → next_call w ≡ o → HaveBodies cs → P a w
      → Stands a (cond (is_some o) (record { chores = Tails position more ∷ cs; writer = w; reading = None })
      (record { chores = cs; writer = w; reading = Some (record { position = position; node = 1; more = more }) }))
  unfolding HaveBodies
  tails_stand None a position more cs w e b h = record { bodies = b; writer = h; rests = e }
  tails_stand (Some c) a position more cs w e b h = record { bodies = b; writer = h; rests = tt }

  pub maker_stands : (cs : List Chore) (a : A) (w : WriterView) → HaveBodies cs → P a w → Stands a (maker_of cs w)
  unfolding maker_of HaveBodies
  maker_stands [] a w b h = record { bodies = tt; writer = h; rests = tt }
  maker_stands (Writes t ∷ cs) a w b h =
      cond_stands (is_some (next_call w)) a (record { chores = Writes t ∷ cs; writer = w; reading = None }) (maker_of cs (writer_begun w t).writer)
      (record { bodies = b; writer = h; rests = tt }) (maker_stands cs a (writer_begun w t).writer b.1 (begins a w t b.0 h))
  maker_stands (Tails position more ∷ cs) a w b h = tails_stand (next_call w) a position more cs w refl b h

  -- ## After an answer
  read_on_stands : (more position : ℕ) (a : A) (m : Maker) → HaveBodies m.chores → next_call m.writer ≡ None → P a m.writer → Stands a (read_on more position m)
  read_on_stands zero position a m b none h = maker_stands m.chores a m.writer b h
  read_on_stands (suc more) position a m b none h = record { bodies = b; writer = h; rests = none }

  next_stands : (r : Reading) (a : A) (m : Maker) → HaveBodies m.chores → next_call m.writer ≡ None → P a m.writer → Stands a (next_node r m)
  next_stands r a m b none h =
      cond_stands (nat_lt r.node (length m.writer.left)) a (record m { reading = Some (record r { node = r.node + 1 }) }) (maker_of m.chores m.writer)
      (record { bodies = b; writer = h; rests = none }) (maker_stands m.chores a m.writer b h)

  read_stands : (r : Reading) (t : Told) (a : A) (m : Maker) → HaveBodies m.chores → next_call m.writer ≡ None → P a m.writer → Stands a (read_heard r t m)
  read_stands r (told.Reply (reply.Edits batch)) a m b none h = read_on_stands r.more (r.position + length batch.bodies) a m b none h
  read_stands r (told.Reply reply.Ok) a m b none h = next_stands r a m b none h
  read_stands r (told.Reply (reply.State promised)) a m b none h = next_stands r a m b none h
  read_stands r (told.Reply (reply.NewEpoch newest)) a m b none h = next_stands r a m b none h
  read_stands r (told.Reply (reply.Prepared x y z)) a m b none h = next_stands r a m b none h
  read_stands r (told.Reply (reply.Segments lines)) a m b none h = next_stands r a m b none h
  read_stands r (told.Reply (reply.Refused refusal)) a m b none h = next_stands r a m b none h
  read_stands r told.Dropped a m b none h = next_stands r a m b none h
  read_stands r told.Muted a m b none h = next_stands r a m b none h
  read_stands r told.Silent a m b none h = next_stands r a m b none h

  pub hears_stands : (a : A) (m : Maker) (k : ℕ) (q : Request) (t : Told) → HaveBodies m.chores → Rests m.reading m.writer → asks m.reading m.writer ≡ Some (k, q)
      → (next_call m.writer ≡ Some (k, q) → P a (writer_heard m.writer k (heard_of t)).writer)
      → ((from : ℕ) → q ≡ request.Read from → next_call m.writer ≡ None → P a m.writer) → Stands a (maker_hears m k t)
  unfolding maker_hears
  hears_stands a m k q t b r e write read = by m.reading r e
    where
      by : (o : Option Reading) → Rests o m.writer → asks o m.writer ≡ Some (k, q) → Stands a (chore_hears o k t m)
      by None s c = maker_stands m.chores a (writer_heard m.writer k (heard_of t)).writer b (write c)
      by (Some x) s c = read_stands x t a m b s (read (x.position + 1) (request_is x.node k (request.Read (x.position + 1)) q c) s)

-- The requests of an epoch depend on the answers of the Ok kind alone.
use Rattle.std.proofs.Common.{ℕ, ◌≡◌, ◌-◌, ◌&&◌, List, [], ◌∷◌, Option, Some, None, Bool, true, false, refl, sym, ap, suc, zero, ◌∙◌, map, slice_get, nat_lt, subst}
use Rattle.journal_core.specs.declared.reply.Reply.{Reply}
use Rattle.journal_core.specs.declared.heard.Heard.TheVariants.{Answer, Silent}
use Rattle.writer_core.specs.declared.round.Round.{Round}
use Rattle.writer_core.specs.declared.round.Round.TheVariants as round
use Rattle.writer_core.specs.declared.phase.Phase.{Phase}
use Rattle.writer_core.specs.declared.phase.Phase.TheVariants as phase
use Rattle.writer_core.specs.declared.slot.Slot.{Slot}
use Rattle.writer_core.specs.declared.slot.Slot.TheVariants.{Waiting, LeftOut, Told}
use Rattle.writer_core.specs.declared.task.Task.{Task}
use Rattle.writer_core.specs.declared.task.Task.TheVariants as task
use Rattle.writer_core.specs.Views.{WriterView}
use Rattle.writer_core.specs.Answers.{fits_round}
use Rattle.writer_core.specs.Rounds.{request_in, Judgment}
use Rattle.writer_core.specs.Writer.{Began, writer_begun, is_writing, if_writing, log_begins, log_limit}
use Rattle.writer_core.specs.Whole.{Takeover, TaskProgress, round_heard, is_called, progress_from, has_begun, next_begun, next_task, round_after, next_round, proposer, writer_at, calls_in}
use Rattle.writer_core.specs.Heed.{counted_reply, slot_if, counted_slot, counted_slots, bare, bare_judgment, AskAlike, HeardAlike}
use Rattle.writer_core.proofs.HeedLaws.{ok_decides}

-- a round under way, of a bare writer
bare_underway : Option TaskProgress → Option TaskProgress
bare_underway None = None
bare_underway (Some u) = Some (record u { writer = bare u.writer })

-- ## The next round, of a bare writer
underway_bare : (p : Phase) (w v : WriterView) (ts : List Task) → bare w ≡ bare v → bare_underway (progress_from p w ts) ≡ bare_underway (progress_from p v ts)
unfolding bare_underway
underway_bare (phase.InRound r) w v ts e = ap (λ (x : WriterView). Some (record { writer = x; round = r; tasks = ts })) e
underway_bare phase.Idle w v ts e = refl
underway_bare phase.Writing w v ts e = refl
underway_bare phase.Stopped w v ts e = refl

-- without what a task's beginning doesn't ask
abbrev plain : WriterView → WriterView
plain w = record w { slots = []; causes = [] }

record BeginsAlike (b c : Began) : Type 0 where
  begun : b.begun ≡ c.begun
  bares : has_begun b.begun ≡ true → bare b.writer ≡ bare c.writer

if_alike : (b : Bool) (x y : Began) (w v : WriterView) → BeginsAlike x y → BeginsAlike (if_writing b x w) (if_writing b y v)
if_alike true x y w v a = a
if_alike false x y w v a = record { begun = refl; bares = λ g. cc }

log_alike : (o : Option ℕ) (bodies : List (List ℕ)) (w : WriterView) → BeginsAlike (log_begins o bodies w) (log_begins o bodies (plain w))
log_alike None bodies w = record { begun = refl; bares = λ g. refl }
log_alike (Some number) bodies w = record { begun = refl; bares = λ g. cc }

limit_same : (w : WriterView) (bodies : List (List ℕ)) → log_limit (plain w) bodies ≡ log_limit w bodies
unfolding log_limit
limit_same w bodies = refl

begins_alike : (w : WriterView) (t : Task) → BeginsAlike (writer_begun w t) (writer_begun (plain w) t)
unfolding writer_begun
begins_alike w task.Takeover = record { begun = refl; bares = λ g. refl }
begins_alike w (task.Log bodies) = rw (limit_same w bodies) (if_alike (is_writing w.phase) _ _ w (plain w) (log_alike (log_limit w bodies) bodies w))
begins_alike w task.Roll = if_alike (is_writing w.phase) _ _ w (plain w) (record { begun = refl; bares = λ g. refl })
begins_alike w task.Close = if_alike (is_writing w.phase) _ _ w (plain w) (record { begun = refl; bares = λ g. refl })
begins_alike w (task.Purge min) = if_alike (is_writing w.phase) _ _ w (plain w) (record { begun = refl; bares = λ g. refl })

begun_bare : (b c : Bool) (x y p q : Option TaskProgress) → b ≡ c → (b ≡ true → bare_underway x ≡ bare_underway y) → bare_underway p ≡ bare_underway q
    → bare_underway (next_begun b x p) ≡ bare_underway (next_begun c y q)
begun_bare true true x y p q e f g = f refl
begun_bare false false x y p q e f g = g
begun_bare true false x y p q e f g = cc
begun_bare false true x y p q e f g = cc

underway_both : (w v : WriterView) (ts : List Task) → bare w ≡ bare v → bare_underway (progress_from w.phase w ts) ≡ bare_underway (progress_from v.phase v ts)
underway_both w v ts e =
    let q : w.phase ≡ v.phase = ap (λ (x : WriterView). x.phase) e in
    underway_bare w.phase w v ts e ∙ ap (λ (p : Phase). bare_underway (progress_from p v ts)) q

next_plain : (w : WriterView) (ts : List Task) → bare_underway (next_task w ts) ≡ bare_underway (next_task (plain w) ts)
unfolding next_task
next_plain w [] = refl
next_plain w (t ∷ ts) =
    let a = begins_alike w t in
    begun_bare (has_begun (writer_begun w t).begun) (has_begun (writer_begun (plain w) t).begun) _ _ (next_task w ts) (next_task (plain w) ts) (ap has_begun a.begun)
    (λ g. underway_both (writer_begun w t).writer (writer_begun (plain w) t).writer ts (a.bares g)) (next_plain w ts)

after_by : (p : Phase) (w v : WriterView) (ts : List Task) → bare w ≡ bare v → bare_underway (round_after p w ts) ≡ bare_underway (round_after p v ts)
after_by (phase.InRound r) w v ts e = underway_bare (phase.InRound r) w v ts e
after_by phase.Writing w v ts e = next_plain w ts ∙ ap (λ (x : WriterView). bare_underway (next_task (plain x) ts)) e ∙ sym (next_plain v ts)
after_by phase.Idle w v ts e = refl
after_by phase.Stopped w v ts e = refl

after_bare : (w v : WriterView) (ts : List Task) → bare w ≡ bare v → bare_underway (round_after w.phase w ts) ≡ bare_underway (round_after v.phase v ts)
after_bare w v ts e =
    let q : w.phase ≡ v.phase = ap (λ (x : WriterView). x.phase) e in
    after_by w.phase w v ts e ∙ ap (λ (p : Phase). bare_underway (round_after p v ts)) q

-- ## A writer under way is in its round
IsIn : TaskProgress → Type 0
IsIn u = u.writer.phase ≡ phase.InRound u.round

underway_in : (p : Phase) (w : WriterView) (ts : List Task) (u : TaskProgress) → w.phase ≡ p → progress_from p w ts ≡ Some u → IsIn u
unfolding IsIn
underway_in (phase.InRound r) w ts u q e =
    let s : record { writer = w; round = r; tasks = ts } ≡ u = cc in subst (λ (x : TaskProgress). x.writer.phase ≡ phase.InRound x.round) s q
underway_in phase.Idle w ts u q e = cc
underway_in phase.Writing w ts u q e = cc
underway_in phase.Stopped w ts u q e = cc

or_in : (b : Bool) (x y : Option TaskProgress) (u : TaskProgress) → (x ≡ Some u → IsIn u) → (y ≡ Some u → IsIn u) → next_begun b x y ≡ Some u → IsIn u
or_in true x y u f g e = f e
or_in false x y u f g e = g e

next_in : (w : WriterView) (ts : List Task) (u : TaskProgress) → next_task w ts ≡ Some u → IsIn u
unfolding next_task
next_in w [] u e = cc
next_in w (t ∷ ts) u e =
    or_in (has_begun (writer_begun w t).begun) _ (next_task w ts) u (underway_in (writer_begun w t).writer.phase (writer_begun w t).writer ts u refl) (next_in w ts u) e

after_in : (p : Phase) (w : WriterView) (ts : List Task) (u : TaskProgress) → w.phase ≡ p → round_after p w ts ≡ Some u → IsIn u
after_in (phase.InRound r) w ts u q e = underway_in (phase.InRound r) w ts u q e
after_in phase.Writing w ts u q e = next_in w ts u e
after_in phase.Idle w ts u q e = cc
after_in phase.Stopped w ts u q e = cc

round_in_it : (heard : ℕ → Option Reply) (o : Option TaskProgress) (u : TaskProgress) → next_round heard o ≡ Some u → IsIn u
round_in_it heard None u e = cc
round_in_it heard (Some v) u e = let w = (round_heard v.round heard v.writer).writer in after_in w.phase w v.tasks u refl e

at_in : (nodes : ℕ) (t : Takeover) (number : ℕ) (u : TaskProgress) → writer_at nodes t number ≡ Some u → IsIn u
unfolding writer_at IsIn
at_in nodes t zero u e =
    let s : record { writer = proposer nodes t.epoch; round = round.Propose; tasks = t.tasks } ≡ u = cc in
    subst (λ (x : TaskProgress). x.writer.phase ≡ phase.InRound x.round) s refl
at_in nodes t (suc number) u e = round_in_it (t.heard number) (writer_at nodes t number) u e

-- ## Each round
next_bare : (heard other : ℕ → Option Reply) (o p : Option TaskProgress) → bare_underway o ≡ bare_underway p → ((u : TaskProgress) → o ≡ Some u → IsIn u)
    → ((u v : TaskProgress) (node : ℕ) → o ≡ Some u → p ≡ Some v → counted_reply u.writer u.round (heard node) ≡ counted_reply v.writer v.round (other node))
    → bare_underway (next_round heard o) ≡ bare_underway (next_round other p)
unfolding bare_underway IsIn
next_bare heard other None None e i h = refl
next_bare heard other None (Some v) e i h = cc
next_bare heard other (Some u) None e i h = cc
next_bare heard other (Some u) (Some v) e i h =
    let s : record u { writer = bare u.writer } ≡ record v { writer = bare v.writer } = cc in
    let b : bare u.writer ≡ bare v.writer = ap (λ (x : TaskProgress). x.writer) s in
    let r : u.round ≡ v.round = ap (λ (x : TaskProgress). x.round) s in
    let ts : u.tasks ≡ v.tasks = ap (λ (x : TaskProgress). x.tasks) s in
    let same : (node : ℕ) → counted_reply u.writer u.round (heard node) ≡ counted_reply v.writer u.round (other node) =
    λ node. subst (λ (q : Round). counted_reply u.writer u.round (heard node) ≡ counted_reply v.writer q (other node)) (sym r) (h u v node refl refl) in
    let j : bare_judgment (round_heard u.round heard u.writer) ≡ bare_judgment (round_heard u.round other v.writer) =
    ok_decides u.writer v.writer u.round heard other (i u refl) b same in
    after_bare (round_heard u.round heard u.writer).writer (round_heard u.round other v.writer).writer u.tasks (ap (λ (x : Judgment). x.writer) j)
    ∙ ap (λ (q : Round). bare_underway (round_after (round_heard q other v.writer).writer.phase (round_heard q other v.writer).writer u.tasks)) r
    ∙ ap (λ (q : List Task). bare_underway (round_after (round_heard v.round other v.writer).writer.phase (round_heard v.round other v.writer).writer q)) ts

at_bare : (nodes : ℕ) (t other : Takeover) → HeardAlike nodes t other → (number : ℕ)
    → bare_underway (writer_at nodes t number) ≡ bare_underway (writer_at nodes other number)
unfolding writer_at
at_bare nodes t other a zero = rw (a.epoch, a.tasks) refl
at_bare nodes t other a (suc number) =
    next_bare (t.heard number) (other.heard number) (writer_at nodes t number) (writer_at nodes other number) (at_bare nodes t other a number)
    (at_in nodes t number) (λ u v node. a.heard number node u v)

-- ## What is asked, of a bare writer
request_bare : (r : Round) (w : WriterView) (slots : List Slot) → request_in (record w { slots = slots; causes = [] }) r ≡ request_in w r
request_bare round.State w slots = refl
request_bare round.Propose w slots = refl
request_bare (round.Prepare start) w slots = refl
request_bare (round.Accept batch) w slots = refl
request_bare (round.Finalize start end) w slots = refl
request_bare round.Start w slots = refl
request_bare round.Open w slots = refl
request_bare (round.Write bodies) w slots = refl
request_bare (round.Purge min) w slots = refl
request_bare (round.Fetch node start end bodies) w slots = refl

called_if : (answer : Reply) (b : Bool) → is_called (Some (slot_if b answer)) ≡ false
called_if answer true = refl
called_if answer false = refl

called_part : (r : Round) (slots : List Slot) (k : ℕ) → is_called (slice_get (map (counted_slot r) slots) k) ≡ is_called (slice_get slots k)
called_part r [] k = refl
called_part r (Told (Answer answer) ∷ slots) zero = called_if answer (fits_round r answer)
called_part r (Told Silent ∷ slots) zero = refl
called_part r (Waiting ∷ slots) zero = refl
called_part r (LeftOut ∷ slots) zero = refl
called_part r (s ∷ slots) (suc k) = called_part r slots k

calls_bare : (r : Round) (q : Round) (slots : List Slot) (node : ℕ) → calls_in r (map (counted_slot q) slots) node ≡ calls_in r slots node
calls_bare (round.Fetch from start end bodies) q slots node = refl
calls_bare round.State q slots node = ap (λ b. nat_lt 0 node && b) (called_part q slots (node - 1))
calls_bare round.Propose q slots node = ap (λ b. nat_lt 0 node && b) (called_part q slots (node - 1))
calls_bare (round.Prepare start) q slots node = ap (λ b. nat_lt 0 node && b) (called_part q slots (node - 1))
calls_bare (round.Accept batch) q slots node = ap (λ b. nat_lt 0 node && b) (called_part q slots (node - 1))
calls_bare (round.Finalize start end) q slots node = ap (λ b. nat_lt 0 node && b) (called_part q slots (node - 1))
calls_bare round.Start q slots node = ap (λ b. nat_lt 0 node && b) (called_part q slots (node - 1))
calls_bare round.Open q slots node = ap (λ b. nat_lt 0 node && b) (called_part q slots (node - 1))
calls_bare (round.Write bodies) q slots node = ap (λ b. nat_lt 0 node && b) (called_part q slots (node - 1))
calls_bare (round.Purge min) q slots node = ap (λ b. nat_lt 0 node && b) (called_part q slots (node - 1))

asks_bare : (o p : Option TaskProgress) → ((u : TaskProgress) → o ≡ Some u → IsIn u) → ((u : TaskProgress) → p ≡ Some u → IsIn u) → bare_underway o ≡ bare_underway p → AskAlike o p
unfolding bare_underway IsIn
asks_bare None None i j e = tt
asks_bare None (Some v) i j e = cc
asks_bare (Some u) None i j e = cc
asks_bare (Some u) (Some v) i j e =
    let s : record u { writer = bare u.writer } ≡ record v { writer = bare v.writer } = cc in
    let b : bare u.writer ≡ bare v.writer = ap (λ (x : TaskProgress). x.writer) s in
    let r : u.round ≡ v.round = ap (λ (x : TaskProgress). x.round) s in
    let m : map (counted_slot u.round) u.writer.slots ≡ map (counted_slot v.round) v.writer.slots =
    sym (ap (λ (p : Phase). counted_slots p u.writer.slots) (i u refl)) ∙ ap (λ (x : WriterView). x.slots) b ∙ ap (λ (p : Phase). counted_slots p v.writer.slots) (j v refl) in (
      sym (request_bare u.round u.writer (bare u.writer).slots)
          ∙ ap (λ (x : WriterView). request_in x u.round) b
          ∙ ap (λ (q : Round). request_in (bare v.writer) q) r
          ∙ request_bare v.round v.writer (bare v.writer).slots,
      λ node.
          sym (calls_bare u.round u.round u.writer.slots node)
          ∙ ap (λ (x : List Slot). calls_in u.round x node) m
          ∙ ap (λ (q : Round). calls_in q (map (counted_slot v.round) v.writer.slots) node) r
          ∙ calls_bare v.round v.round v.writer.slots node,
    )

pub ok_leads : (nodes : ℕ) (t other : Takeover) → HeardAlike nodes t other → (number : ℕ) → AskAlike (writer_at nodes t number) (writer_at nodes other number)
ok_leads nodes t other a number =
    asks_bare (writer_at nodes t number) (writer_at nodes other number) (at_in nodes t number) (at_in nodes other number) (at_bare nodes t other a number)

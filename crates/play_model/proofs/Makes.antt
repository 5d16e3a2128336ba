-- An actor that is led along its record makes its calls as a maker of its tasks does.
use Rattle.std.proofs.Common.{◌≡◌, ℕ, List, [], ◌∷◌, ◌++◌, Bool, true, false, cond, refl, sym, ap, ◌∙◌, subst, ◌⊎◌, inl, inr}
use Rattle.std.proofs.lemmas.Bool.{cond-false}
use Rattle.std.specs.Prelude.{Option, Some, None, is_some, map, ◌||◌}
use Rattle.journal_core.specs.declared.request.Request.{Request}
use Rattle.writer_core.specs.declared.task.Task.{Task}
use Rattle.writer_core.specs.declared.task.Task.TheVariants as task
use Rattle.writer_core.specs.declared.task.Begun.{Begun}
use Rattle.writer_core.specs.declared.task.Begun.TheVariants as begun
use Rattle.writer_core.specs.Views.{WriterView}
use Rattle.writer_core.specs.Writer.{Began, log_begins, log_limit, is_writing, if_writing, writer_begun, next_call, writer_heard}
use Rattle.journal_history.specs.declared.record.Record.{Record}
use Rattle.journal_history.specs.declared.record.Record.TheVariants.{Call, Late, Operator, Outcome}
use Rattle.mesh.specs.Makers.{Chore, Writes, Tails, Maker, asks, heard_of, maker_of, maker_hears, HaveBodies, IsMade, IsOfTasks}
use Rattle.play_model.specs.Lines.{Action, Does, DoDrop, DoMute, DoLate, Submits, Trims, DoTail, Saves, Reloads, AreActions}
use Rattle.play_model.specs.EditResults.{IsRaw, AreRaw}
use Rattle.play_model.specs.Actor.{Actor, fresh_actor, wants, is_wanting, is_broken, task_begun, make_copy, take_action, while_wanting, settle, moved_on, settle_again, goes_on, IsLed}
use Rattle.play_model.proofs.Led.{waiting, either_wants, moved_keeps}
use Rattle.play_model.proofs.Holds.{RawActor, raw_taken, raw_moved, raw_writer, raw_whole, raw_settled, raw_goes}
use Rattle.play_model.proofs.Sound.{or_false, actions_raw}
use Rattle.play_model.proofs.Wanting.{Calling, resting, fits_calling, no_operation, raw_call, raw_rest}

pub tasks_of : List Action → List Task
tasks_of [] = []
tasks_of (Does t ∷ ds) = t ∷ tasks_of ds
tasks_of (DoDrop k n ∷ ds) = tasks_of ds
tasks_of (DoMute k n ∷ ds) = tasks_of ds
tasks_of (DoLate k n ∷ ds) = tasks_of ds
tasks_of (Submits es ∷ ds) = tasks_of ds
tasks_of (Trims extra ∷ ds) = tasks_of ds
tasks_of (DoTail ∷ ds) = tasks_of ds
tasks_of (Saves ∷ ds) = tasks_of ds
tasks_of (Reloads ∷ ds) = tasks_of ds

-- a maker of tasks alone
abbrev pub made_by : List Task → WriterView → Maker
made_by ts w = maker_of (map Writes ts) w

pub its_maker : Actor → Maker
its_maker a = made_by (tasks_of a.todo) a.writer

-- ## A task that is refused leaves the writer as it was
Keeps : WriterView → Began → Type 0
Keeps w b = (b.begun ≡ begun.Going) ⊎ (b.writer ≡ w)

log_keeps : (o : Option ℕ) (bodies : List (List ℕ)) (w : WriterView) → Keeps w (log_begins o bodies w)
unfolding Keeps
log_keeps (Some n) bodies w = inr refl
log_keeps None bodies w = inl refl

if_keeps : (b : Bool) (x : Began) (w : WriterView) → Keeps w x → Keeps w (if_writing b x w)
unfolding Keeps
if_keeps true x w h = h
if_keeps false x w h = inr refl

begun_keeps : (w : WriterView) (t : Task) → Keeps w (writer_begun w t)
unfolding Keeps writer_begun
begun_keeps w task.Takeover = inl refl
begun_keeps w (task.Log bodies) = if_keeps (is_writing w.phase) (log_begins (log_limit w bodies) bodies w) w (log_keeps (log_limit w bodies) bodies w)
begun_keeps w task.Roll = if_keeps (is_writing w.phase) _ w (inl refl)
begun_keeps w task.Close = if_keeps (is_writing w.phase) _ w (inl refl)
begun_keeps w (task.Purge min) = if_keeps (is_writing w.phase) _ w (inl refl)

begun_writer : (t : Task) (v : WriterView) (a : Actor) (b : Begun) → (b ≡ begun.Going) ⊎ (v ≡ a.writer) → (task_begun t v a b).writer ≡ v
unfolding task_begun
begun_writer t v a begun.Going h = refl
begun_writer t v a begun.NotActive (inl e) = absurd (cc e)
begun_writer t v a begun.NotActive (inr e) = sym e
begun_writer t v a (begun.TooLong n) (inl e) = absurd (cc e)
begun_writer t v a (begun.TooLong n) (inr e) = sym e

copied_writer : (k n : ℕ) (o : Option Request) (a : Actor) → (make_copy k n o a).writer ≡ a.writer
unfolding make_copy
copied_writer k n None a = refl
copied_writer k n (Some q) a = refl

-- ## The maker passes over what the actor passes over
taken_maker : (d : Action) (ds : List Action) (a : Actor) → IsRaw d → next_call a.writer ≡ None → made_by (tasks_of ds) (take_action d a).writer ≡ made_by (tasks_of (d ∷ ds)) a.writer
unfolding tasks_of take_action maker_of Keeps
taken_maker (Does t) ds a r none =
    ap (made_by (tasks_of ds)) (begun_writer t (writer_begun a.writer t).writer a (writer_begun a.writer t).begun (begun_keeps a.writer t))
    ∙ sym (cond-false (is_some (next_call a.writer)) (record { chores = map Writes (t ∷ tasks_of ds); writer = a.writer; reading = None })
    (made_by (tasks_of ds) (writer_begun a.writer t).writer) (ap (λ (o : Option (ℕ × Request)). is_some o) none))
taken_maker (DoDrop k n) ds a r none = refl
taken_maker (DoMute k n) ds a r none = refl
taken_maker (DoLate k n) ds a r none = ap (made_by (tasks_of ds)) (copied_writer k n _ a)
taken_maker (Submits es) ds a r none = absurd r
taken_maker (Trims extra) ds a r none = absurd r
taken_maker DoTail ds a r none = absurd r
taken_maker Saves ds a r none = absurd r
taken_maker Reloads ds a r none = absurd r

settled_by : (b : Bool) (d : Action) (ds : List Action) (a : Actor) → (is_wanting (wants a) || is_broken a) ≡ b → IsRaw d → a.holds ≡ None
    → its_maker (settle ds (take_action d a)) ≡ made_by (tasks_of ds) (take_action d a).writer
    → its_maker (cond b (record a { todo = while_wanting (is_wanting (wants a)) (d ∷ ds) }) (settle ds (take_action d a))) ≡ made_by (tasks_of (d ∷ ds)) a.writer
unfolding its_maker
settled_by true d ds a is r e h =
    ap (λ (ts : List Action). made_by (tasks_of ts) a.writer) (waiting a (d ∷ ds) (either_wants (is_wanting (wants a)) (is_broken a) is (raw_whole a e)))
settled_by false d ds a is r e h = h ∙ taken_maker d ds a r (raw_rest a e (resting a (or_false (is_wanting (wants a)) (is_broken a) is)))

pub settled_maker : (ds : List Action) (a : Actor) → AreRaw ds → a.holds ≡ None → its_maker (settle ds a) ≡ made_by (tasks_of ds) a.writer
unfolding settle its_maker
settled_maker [] a r e = refl
settled_maker (d ∷ ds) a r e = settled_by (is_wanting (wants a) || is_broken a) d ds a refl r.0 e (settled_maker ds (take_action d a) r.1 (raw_taken d a r.0 ∙ e))

-- ## Along a record
pub busy_by : (cs : List Chore) (w : WriterView) (c : ℕ × Request) → next_call w ≡ Some c → maker_of cs w ≡ record { chores = cs; writer = w; reading = None }
unfolding maker_of
busy_by [] w c e = refl
busy_by (Writes t ∷ cs) w c e = rw (ap (λ (o : Option (ℕ × Request)). is_some o) e) refl
busy_by (Tails position more ∷ cs) w c e = rw (ap (λ (o : Option (ℕ × Request)). is_some o) e) refl

busy_maker : (a : Actor) (c : ℕ × Request) → next_call a.writer ≡ Some c → its_maker a ≡ record { chores = map Writes (tasks_of a.todo); writer = a.writer; reading = None }
unfolding its_maker
busy_maker a c e = busy_by (map Writes (tasks_of a.todo)) a.writer c e

moved_maker : (r : Record) (a : Actor) → RawActor a → its_maker (goes_on a r) ≡ made_by (tasks_of a.todo) (moved_on r (record a { past = a.past ++ r ∷ [] })).writer
unfolding goes_on settle_again
moved_maker r a raw =
    let old : Actor = record a { past = a.past ++ r ∷ [] } in
    let b : Actor = moved_on r old in
    settled_maker b.todo b (subst AreRaw (sym (moved_keeps r old).0) raw.actions) (raw_moved r old raw.holds) ∙ ap (λ (l : List Action). made_by (tasks_of l) b.writer) (moved_keeps r old).0

same_maker : (r : Record) (a : Actor) → RawActor a → (moved_on r (record a { past = a.past ++ r ∷ [] })).writer ≡ a.writer → its_maker (goes_on a r) ≡ its_maker a
unfolding its_maker
same_maker r a raw e = moved_maker r a raw ∙ ap (made_by (tasks_of a.todo)) e

says_writer : (x : List ℕ) (a : Actor) → (moved_on (Outcome x) a).writer ≡ a.writer
unfolding moved_on
says_writer x a = refl

late_writer : (k : ℕ) (q : Request) (a : Actor) → (moved_on (Late k q) a).writer ≡ a.writer
unfolding moved_on
late_writer k q a = refl

pub led_made : (a : Actor) (rs : List Record) → RawActor a → IsLed a rs → IsMade (its_maker a) rs
unfolding IsLed IsMade maker_hears
led_made a [] raw h = tt
led_made a (Call k q t ∷ rs) raw h =
    let c : Calling k q a = fits_calling a k q t h.0 in
    let call : next_call a.writer ≡ Some (k, q) = raw_call a k q raw.holds c in
    let same : its_maker a ≡ record { chores = map Writes (tasks_of a.todo); writer = a.writer; reading = None } = busy_maker a (k, q) call in
    let next : its_maker (goes_on a (Call k q t)) ≡ made_by (tasks_of a.todo) (writer_heard a.writer k (heard_of t)).writer =
    moved_maker (Call k q t) a raw ∙ ap (made_by (tasks_of a.todo)) (raw_writer k q t (record a { past = a.past ++ Call k q t ∷ [] }) raw.holds) in
    subst (λ (m : Maker). (asks m.reading m.writer ≡ Some (k, q)) × IsMade (maker_hears m k t) rs) (sym same)
    (call, subst (λ (m : Maker). IsMade m rs) next (led_made (goes_on a (Call k q t)) rs (raw_goes a (Call k q t) raw) h.1))
led_made a (Late k q ∷ rs) raw h =
    let next : its_maker (goes_on a (Late k q)) ≡ its_maker a = same_maker (Late k q) a raw (late_writer k q (record a { past = a.past ++ Late k q ∷ [] })) in
    subst (λ (m : Maker). IsMade m rs) next (led_made (goes_on a (Late k q)) rs (raw_goes a (Late k q) raw) h.1)
led_made a (Operator k q d ∷ rs) raw h = absurd (no_operation (wants a) k q d h.0)
led_made a (Outcome x ∷ rs) raw h =
    let next : its_maker (goes_on a (Outcome x)) ≡ its_maker a = same_maker (Outcome x) a raw (says_writer x (record a { past = a.past ++ Outcome x ∷ [] })) in
    subst (λ (m : Maker). IsMade m rs) next (led_made (goes_on a (Outcome x)) rs (raw_goes a (Outcome x) raw) h.1)

-- a log that is an action has a body
have_bodies : (ds : List Action) → AreActions false ds → HaveBodies (map Writes (tasks_of ds))
unfolding tasks_of AreActions HaveBodies
have_bodies [] d = tt
have_bodies (Does t ∷ ds) d = (d.0, have_bodies ds d.1)
have_bodies (DoDrop k n ∷ ds) d = have_bodies ds d.1
have_bodies (DoMute k n ∷ ds) d = have_bodies ds d.1
have_bodies (DoLate k n ∷ ds) d = have_bodies ds d.1
have_bodies (Submits es ∷ ds) d = absurd d.0
have_bodies (Trims extra ∷ ds) d = absurd d.0
have_bodies (DoTail ∷ ds) d = absurd d.0
have_bodies (Saves ∷ ds) d = absurd d.0
have_bodies (Reloads ∷ ds) d = absurd d.0

pub lines_made : (n : ℕ) (ds : List Action) (rs : List Record) → AreActions false ds → IsLed (settle ds (fresh_actor false n)) rs → IsOfTasks n rs
unfolding fresh_actor
lines_made n ds rs d h =
    let raw : RawActor (settle ds (fresh_actor false n)) = raw_settled ds (fresh_actor false n) (actions_raw ds d) refl in
    (tasks_of ds, have_bodies ds d, subst (λ (m : Maker). IsMade m rs) (settled_maker ds (fresh_actor false n) (actions_raw ds d) refl) (led_made (settle ds (fresh_actor false n)) rs raw h))

-- A machine that is led along its record: one line of the record more, and one action more.
use Rattle.std.proofs.Common.{◌≡◌, ℕ, List, [], ◌∷◌, ◌++◌, Bool, true, false, refl, sym, ap, ◌∙◌, subst, cond}
use Rattle.std.specs.Prelude.{Option, Some, None, ◌||◌}
use Rattle.journal_core.specs.declared.request.Request.{Request}
use Rattle.writer_core.specs.Writer.{writer_begun}
use Rattle.journal_history.specs.declared.record.Record.{Record}
use Rattle.journal_history.specs.declared.record.Record.TheVariants.{Call, Late, Operator, Outcome}
use Rattle.journal_history.specs.declared.record.Told.{Told}
use Rattle.mesh.specs.Makers.{heard_of}
use Rattle.play_model.specs.Lines.{Action, Does, DoDrop, DoMute, DoLate, Submits, Trims, DoTail, Saves, Reloads}
use Rattle.play_model.proofs.Framed.{framed_todo, framed_keeps, begun_framed, held_framed, heard_framed}
use Rattle.play_model.specs.Actor.{Actor, Want, WantsCall, WantsCopy, Says, Rests, wants, is_wanting, is_broken, task_begun, make_copy}
use Rattle.play_model.specs.Actor.{take_named_action, take_action, while_wanting, settle, hand_action, heard_by, moved_on, settle_again, goes_on}
use Rattle.play_model.specs.Actor.{Fits, IsLed, actor_after}

pub led_snoc : (a : Actor) (rs : List Record) (r : Record) → IsLed a rs → Fits (wants (actor_after a rs)) r → IsLed a (rs ++ r ∷ [])
unfolding IsLed actor_after
led_snoc a [] r led fits = (fits, tt)
led_snoc a (x ∷ rs) r led fits = (led.0, led_snoc (goes_on a x) rs r led.1 fits)

pub after_snoc : (a : Actor) (rs : List Record) (r : Record) → actor_after a (rs ++ r ∷ []) ≡ goes_on (actor_after a rs) r
unfolding actor_after
after_snoc a [] r = refl
after_snoc a (x ∷ rs) r = after_snoc (goes_on a x) rs r

-- ## What was to do before is of no account
copied_todo : (k n : ℕ) (o : Option Request) (a : Actor) (x : List Action) → make_copy k n o (record a { todo = x }) ≡ record (make_copy k n o a) { todo = x }
unfolding make_copy
copied_todo k n None a x = refl
copied_todo k n (Some r) a x = refl

taken_todo : (d : Action) (a : Actor) (x : List Action) → take_action d (record a { todo = x }) ≡ record (take_action d a) { todo = x }
unfolding take_action
taken_todo (Does t) a x = framed_todo (λ b. task_begun t (writer_begun a.writer t).writer b (writer_begun a.writer t).begun)
    (begun_framed t (writer_begun a.writer t).writer (writer_begun a.writer t).begun) a x
taken_todo (DoDrop k n) a x = refl
taken_todo (DoMute k n) a x = refl
taken_todo (DoLate k n) a x = copied_todo k n _ a x
taken_todo (Submits es) a x = framed_todo (take_named_action (Submits es) a.holds) (held_framed (Submits es) a.holds) a x
taken_todo (Trims extra) a x = framed_todo (take_named_action (Trims extra) a.holds) (held_framed (Trims extra) a.holds) a x
taken_todo DoTail a x = framed_todo (take_named_action DoTail a.holds) (held_framed DoTail a.holds) a x
taken_todo Saves a x = framed_todo (take_named_action Saves a.holds) (held_framed Saves a.holds) a x
taken_todo Reloads a x = framed_todo (take_named_action Reloads a.holds) (held_framed Reloads a.holds) a x

else_same : {A : Type 0} (b : Bool) (x y z : A) → y ≡ z → cond b x y ≡ cond b x z
else_same b x y z e = ap (λ (w : _). cond b x w) e

pub settled_todo : (ds : List Action) (a : Actor) (x : List Action) → settle ds (record a { todo = x }) ≡ settle ds a
unfolding settle wants is_broken
settled_todo [] a x = refl
settled_todo (d ∷ ds) a x =
    else_same (is_wanting (wants a) || is_broken a) (record a { todo = while_wanting (is_wanting (wants a)) (d ∷ ds) })
    (settle ds (take_action d (record a { todo = x }))) (settle ds (take_action d a))
    (ap (settle ds) (taken_todo d a x) ∙ settled_todo ds (take_action d a) x)

-- while something is wanted all actions stay to be done
pub waiting : (a : Actor) (ds : List Action) → is_wanting (wants a) ≡ true → while_wanting (is_wanting (wants a)) ds ≡ ds
waiting a ds e = ap (λ b. while_wanting b ds) e

pub either_wants : (b c : Bool) → (b || c) ≡ true → c ≡ false → b ≡ true
either_wants true c e f = refl
either_wants false c e f = absurd (cc (e, f))

-- ## Actions that are handed over together, or one after the other
more_by : (b w : Bool) (a : Actor) (d : Action) (ds : List Action) (e : Action) → (is_wanting (wants a) || is_broken a) ≡ b → is_wanting (wants a) ≡ w
    → settle (ds ++ e ∷ []) (take_action d a) ≡ hand_action e (settle ds (take_action d a))
    → cond b (record a { todo = while_wanting w (d ∷ ds ++ e ∷ []) }) (settle (ds ++ e ∷ []) (take_action d a)) ≡ hand_action e
    (cond b (record a { todo = while_wanting w (d ∷ ds) }) (settle ds (take_action d a)))
unfolding settle hand_action wants is_broken
more_by true true a d ds e is at_work h = rw (is, at_work) refl
more_by true false a d ds e is at_work h = rw (is, at_work) refl
more_by false w a d ds e is at_work h = h

pub settled_more : (ds : List Action) (a : Actor) (e : Action) → settle (ds ++ e ∷ []) a ≡ hand_action e (settle ds a)
unfolding settle hand_action
settled_more [] a e = sym (settled_todo (e ∷ []) a [])
settled_more (d ∷ ds) a e = more_by (is_wanting (wants a) || is_broken a) (is_wanting (wants a)) a d ds e refl refl (settled_more ds (take_action d a) e)

fits_wanting : (w : Want) (r : Record) → Fits w r → is_wanting w ≡ true
unfolding Fits is_wanting
fits_wanting (WantsCall k q) r h = refl
fits_wanting (WantsCopy k q) r h = refl
fits_wanting (Says t) r h = refl
fits_wanting Rests r h = absurd h

handed_by : (ds : List Action) (a : Actor) (e : Action) → is_wanting (wants a) ≡ true → settle (ds ++ e ∷ []) a ≡ record a { todo = ds ++ e ∷ [] }
unfolding settle
handed_by [] a e is = rw is refl
handed_by (d ∷ ds) a e is = rw is refl

handed_busy : (a : Actor) (e : Action) → is_wanting (wants a) ≡ true → hand_action e a ≡ record a { todo = a.todo ++ e ∷ [] }
unfolding hand_action
handed_busy a e is = handed_by a.todo a e is

-- ## A line of the record, and one more action
moved_todo : (r : Record) (a : Actor) (x : List Action) → moved_on r (record a { todo = x }) ≡ record (moved_on r a) { todo = x }
unfolding moved_on
moved_todo (Call k q t) a x = framed_todo (heard_by a.holds k (heard_of t)) (heard_framed a.holds k (heard_of t)) a x
moved_todo (Late k q) a x = refl
moved_todo (Operator k q d) a x = refl
moved_todo (Outcome t) a x = refl

pub moved_keeps : (r : Record) (a : Actor) → ((moved_on r a).todo ≡ a.todo) × ((moved_on r a).past ≡ a.past) × ((moved_on r a).marks ≡ a.marks)
unfolding moved_on
moved_keeps (Call k q t) a =
    let e : ((heard_by a.holds k (heard_of t) a).todo ≡ a.todo) × ((heard_by a.holds k (heard_of t) a).past ≡ a.past)
    × ((heard_by a.holds k (heard_of t) a).marks ≡ a.marks) × ((heard_by a.holds k (heard_of t) a).copies ≡ a.copies) =
    framed_keeps (heard_by a.holds k (heard_of t)) (heard_framed a.holds k (heard_of t)) a in
    (e.0, e.1, e.2)
moved_keeps (Late k q) a = (refl, refl, refl)
moved_keeps (Operator k q d) a = (refl, refl, refl)
moved_keeps (Outcome t) a = (refl, refl, refl)

pub call_copies : (k : ℕ) (q : Request) (t : Told) (a : Actor) → (moved_on (Call k q t) a).copies ≡ a.copies
unfolding moved_on
call_copies k q t a = (framed_keeps (heard_by a.holds k (heard_of t)) (heard_framed a.holds k (heard_of t)) a).3

resettled_handed : (b : Actor) (t : List Action) (e : Action) → b.todo ≡ t → settle_again (record b { todo = t ++ e ∷ [] }) ≡ hand_action e (settle_again b)
unfolding settle_again
resettled_handed b t e is = settled_todo (t ++ e ∷ []) b (t ++ e ∷ []) ∙ (ap (λ (l : List Action). settle (l ++ e ∷ []) b) (sym is) ∙ settled_more b.todo b e)

goes_todo : (a : Actor) (r : Record) (e : Action) → goes_on (record a { todo = a.todo ++ e ∷ [] }) r ≡ hand_action e (goes_on a r)
unfolding goes_on
goes_todo a r e =
    let b : Actor = record a { past = a.past ++ r ∷ [] } in
    ap settle_again (moved_todo r b (a.todo ++ e ∷ [])) ∙ resettled_handed (moved_on r b) a.todo e (moved_keeps r b).0

handed_goes : (a : Actor) (r : Record) (e : Action) → Fits (wants a) r → goes_on (hand_action e a) r ≡ hand_action e (goes_on a r)
handed_goes a r e h = ap (λ (b : Actor). goes_on b r) (handed_busy a e (fits_wanting (wants a) r h)) ∙ goes_todo a r e

pub todo_wants : (a : Actor) (x : List Action) → wants (record a { todo = x }) ≡ wants a
unfolding wants
todo_wants a x = refl

handed_wants : (a : Actor) (r : Record) (e : Action) → Fits (wants a) r → Fits (wants (hand_action e a)) r
handed_wants a r e h =
    subst (λ (w : Want). Fits w r) (sym (ap wants (handed_busy a e (fits_wanting (wants a) r h)) ∙ todo_wants a (a.todo ++ e ∷ []))) h

pub handed_after : (a : Actor) (rs : List Record) (e : Action) → IsLed a rs → actor_after (hand_action e a) rs ≡ hand_action e (actor_after a rs)
unfolding actor_after IsLed
handed_after a [] e h = refl
handed_after a (r ∷ rs) e h = ap (λ (b : Actor). actor_after b rs) (handed_goes a r e h.0) ∙ handed_after (goes_on a r) rs e h.1

pub handed_led : (a : Actor) (rs : List Record) (e : Action) → IsLed a rs → IsLed (hand_action e a) rs
unfolding actor_after IsLed
handed_led a [] e h = tt
handed_led a (r ∷ rs) e h = (handed_wants a r e h.0, subst (λ (b : Actor). IsLed b rs) (sym (handed_goes a r e h.0)) (handed_led (goes_on a r) rs e h.1))

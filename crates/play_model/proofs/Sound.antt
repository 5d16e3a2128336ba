-- What holds of an actor from its first action on: its writer calls nodes that there are, its
-- record speaks of these, and it goes by its marks.
use Rattle.std.proofs.Common.{◌≡◌, ℕ, ◌-◌, ◌≤◌, List, [], ◌∷◌, ◌++◌, Bool, true, false, cond, refl, sym, ap, ◌∙◌, subst, append_assoc, append-nil, inl, inr}
use Rattle.std.specs.Prelude.{Option, Some, None, slice_get, ◌==◌, ◌||◌}
use Rattle.journal_core.specs.declared.request.Request.{Request}
use Rattle.writer_core.specs.declared.task.Task.{Task}
use Rattle.writer_core.specs.declared.task.Begun.{Begun}
use Rattle.writer_core.specs.declared.task.Begun.TheVariants as begun
use Rattle.writer_core.specs.Views.{WriterView}
use Rattle.writer_core.specs.Writer.{next_call, writer_begun}
use Rattle.journal_history.specs.declared.record.Record.{Record}
use Rattle.journal_history.specs.declared.record.Record.TheVariants.{Call, Late, Operator, Outcome}
use Rattle.mesh.specs.Marks.{calls_to, IsCopy}
use Rattle.mesh.specs.Makers.{heard_of}
use Rattle.mesh.specs.Matches.{IsWithin, AreWithin}
use Rattle.play_names.specs.Holding.{Holding, Work, Free, Tails, Logs, Broken}
use Rattle.play_model.specs.Lines.{Action, Does, DoDrop, DoMute, DoLate, Submits, Trims, DoTail, Saves, Reloads, IsAction, AreActions, HasNodes}
use Rattle.play_model.specs.EditResults.{IsRaw, AreRaw}
use Rattle.play_model.specs.Actor.{Actor, WantsCall, WantsCopy, fresh_actor, call_wanted, work_read, read_first, wants, is_wanting, is_broken}
use Rattle.play_model.specs.Actor.{task_begun, make_copy, take_named_action, take_action, while_wanting, settle, hand_action, moved_on, settle_again}
use Rattle.play_model.specs.Actor.{goes_on, actor_after, Fits}
use Rattle.play_model.proofs.Framed.{framed_keeps, held_framed}
use Rattle.play_model.proofs.Led.{moved_keeps}
use Rattle.play_model.proofs.Holds.{AsksNode, AsksIn, HoldsWell, Well, taken_well, moved_well, raw_taken, raw_moved, raw_writer}
use Rattle.mesh.proofs.Lists.{alike, Alike}
use Rattle.mesh.proofs.CopyLaws.{copy_named}
use Rattle.play_model.proofs.Wanting.{Calling, Resting, calling, copying, resting, call_by, raw_call}
use Rattle.run_safety.proofs.WriterRange.{Sized, heard_sized, begun_sized, new_sized, call_within}
use Rattle.play_model.proofs.Goes.{Goes, GoesBy, copy_due, fresh_goes, taken_goes, IsTold, moved_goes}

pub actions_snoc : (named : Bool) (ds : List Action) (d : Action) → AreActions named ds → IsAction named d → AreActions named (ds ++ d ∷ [])
unfolding AreActions
actions_snoc named [] d h e = (e, tt)
actions_snoc named (x ∷ ds) d h e = (h.0, actions_snoc named ds d h.1 e)

pub record Sound (named : Bool) (n : ℕ) (a : Actor) : Type 0 where
  pub sized : Sized n a.writer
  pub within : AreWithin n a.past
  pub goes : GoesBy a
  pub actions : AreActions named a.todo
  pub holds : HoldsWell named n a.holds

pub within_snoc : (n : ℕ) (rs : List Record) (r : Record) → AreWithin n rs → IsWithin n r → AreWithin n (rs ++ r ∷ [])
unfolding AreWithin
within_snoc n [] r h e = (e, tt)
within_snoc n (x ∷ rs) r h e = (h.0, within_snoc n rs r h.1 e)

-- ## An action
begun_keeps : (t : Task) (v : WriterView) (a : Actor) (b : Begun) → ((task_begun t v a b).todo ≡ a.todo) × ((task_begun t v a b).past ≡ a.past)
unfolding task_begun
begun_keeps t v a begun.Going = (refl, refl)
begun_keeps t v a begun.NotActive = (refl, refl)
begun_keeps t v a (begun.TooLong n) = (refl, refl)

copied_keeps : (k n : ℕ) (o : Option Request) (a : Actor) → ((make_copy k n o a).todo ≡ a.todo) × ((make_copy k n o a).past ≡ a.past)
unfolding make_copy
copied_keeps k n None a = (refl, refl)
copied_keeps k n (Some q) a = (refl, refl)

held_keeps : (d : Action) (o : Option Holding) (a : Actor) → ((take_named_action d o a).todo ≡ a.todo) × ((take_named_action d o a).past ≡ a.past)
held_keeps d o a =
    let e : ((take_named_action d o a).todo ≡ a.todo) × ((take_named_action d o a).past ≡ a.past) × ((take_named_action d o a).marks ≡ a.marks) × ((take_named_action d o a).copies ≡ a.copies) =
    framed_keeps (take_named_action d o) (held_framed d o) a in
    (e.0, e.1)

pub taken_keeps : (d : Action) (a : Actor) → ((take_action d a).todo ≡ a.todo) × ((take_action d a).past ≡ a.past)
unfolding take_action
taken_keeps (Does t) a = begun_keeps t (writer_begun a.writer t).writer a (writer_begun a.writer t).begun
taken_keeps (DoDrop k n) a = (refl, refl)
taken_keeps (DoMute k n) a = (refl, refl)
taken_keeps (DoLate k n) a = copied_keeps k n _ a
taken_keeps (Submits es) a = held_keeps (Submits es) a.holds a
taken_keeps (Trims extra) a = held_keeps (Trims extra) a.holds a
taken_keeps DoTail a = held_keeps DoTail a.holds a
taken_keeps Saves a = held_keeps Saves a.holds a
taken_keeps Reloads a = held_keeps Reloads a.holds a

task_sized : (n : ℕ) (t : Task) (v : WriterView) (a : Actor) (b : Begun) → Sized n v → Sized n a.writer → Sized n (task_begun t v a b).writer
unfolding task_begun
task_sized n t v a begun.Going g h = g
task_sized n t v a begun.NotActive g h = h
task_sized n t v a (begun.TooLong k) g h = h

copied_sized : (n k i : ℕ) (o : Option Request) (a : Actor) → Sized n a.writer → Sized n (make_copy k i o a).writer
unfolding make_copy
copied_sized n k i None a h = h
copied_sized n k i (Some q) a h = h

raw_sized : (n : ℕ) (d : Action) (a : Actor) → IsRaw d → Sized n a.writer → Sized n (take_action d a).writer
unfolding take_action
raw_sized n (Does t) a r h = task_sized n t (writer_begun a.writer t).writer a (writer_begun a.writer t).begun (begun_sized n a.writer t h) h
raw_sized n (DoDrop k i) a r h = h
raw_sized n (DoMute k i) a r h = h
raw_sized n (DoLate k i) a r h = copied_sized n k i _ a h
raw_sized n (Submits es) a r h = absurd r
raw_sized n (Trims extra) a r h = absurd r
raw_sized n DoTail a r h = absurd r
raw_sized n Saves a r h = absurd r
raw_sized n Reloads a r h = absurd r

pub action_raw : (d : Action) → IsAction false d → IsRaw d
action_raw (Does t) e = tt
action_raw (DoDrop k i) e = tt
action_raw (DoMute k i) e = tt
action_raw (DoLate k i) e = tt
action_raw (Submits es) e = absurd e
action_raw (Trims extra) e = absurd e
action_raw DoTail e = absurd e
action_raw Saves e = absurd e
action_raw Reloads e = absurd e

pub actions_raw : (ds : List Action) → AreActions false ds → AreRaw ds
unfolding AreActions
actions_raw [] e = tt
actions_raw (d ∷ ds) e = (action_raw d e.0, actions_raw ds e.1)

taken_held : (named : Bool) (n : ℕ) (d : Action) (a : Actor) → IsAction named d → Sized n a.writer → HoldsWell named n a.holds
    → Sized n (take_action d a).writer × HoldsWell named n (take_action d a).holds
taken_held true n d a e s h = let w : Well n (take_action d a) = taken_well n d a h.0 (s, h.1) in (w.0, (h.0, w.1))
taken_held false n d a e s h = (raw_sized n d a (action_raw d e) s, raw_taken d a (action_raw d e) ∙ h)

taken_sound : (named : Bool) (n : ℕ) (d : Action) (a : Actor) → IsAction named d → Resting a → Sound named n a → Sound named n (take_action d a)
taken_sound named n d a e r h = record {
  sized = (taken_held named n d a e h.sized h.holds).0;
  within = subst (λ (l : List Record). AreWithin n l) (sym (taken_keeps d a).1) h.within;
  goes = taken_goes named d a e r.copies h.goes;
  actions = subst (AreActions named) (sym (taken_keeps d a).0) h.actions;
  holds = (taken_held named n d a e h.sized h.holds).1;
}

pub or_false : (b c : Bool) → (b || c) ≡ false → b ≡ false
or_false true c e = absurd (cc e)
or_false false c e = refl

pub waiting_actions : (named w : Bool) (ds : List Action) → AreActions named ds → AreActions named (while_wanting w ds)
unfolding AreActions
waiting_actions named true ds e = e
waiting_actions named false ds e = tt

settled_by : (named : Bool) (n : ℕ) (b : Bool) (d : Action) (ds : List Action) (a : Actor) → (is_wanting (wants a) || is_broken a) ≡ b → AreActions named (d ∷ ds) → Sound named n a
    → (Sound named n (take_action d a) → Sound named n (settle ds (take_action d a)))
    → Sound named n (cond b (record a { todo = while_wanting (is_wanting (wants a)) (d ∷ ds) }) (settle ds (take_action d a)))
unfolding GoesBy AreActions
settled_by named n true d ds a is e h go =
    record { sized = h.sized; within = h.within; goes = h.goes; actions = waiting_actions named (is_wanting (wants a)) (d ∷ ds) e; holds = h.holds }
settled_by named n false d ds a is e h go = go (taken_sound named n d a e.0 (resting a (or_false (is_wanting (wants a)) (is_broken a) is)) h)

pub settled_sound : (named : Bool) (n : ℕ) (ds : List Action) (a : Actor) → AreActions named ds → Sound named n a → Sound named n (settle ds a)
unfolding settle AreActions GoesBy
settled_sound named n [] a e h = record { sized = h.sized; within = h.within; goes = h.goes; actions = tt; holds = h.holds }
settled_sound named n (d ∷ ds) a e h = settled_by named n (is_wanting (wants a) || is_broken a) d ds a refl e h (λ g. settled_sound named n ds (take_action d a) e.1 g)

settled_past_by : (b : Bool) (d : Action) (ds left : List Action) (a : Actor) → (settle ds (take_action d a)).past ≡ (take_action d a).past
    → (cond b (record a { todo = left }) (settle ds (take_action d a))).past ≡ a.past
settled_past_by true d ds left a h = refl
settled_past_by false d ds left a h = h ∙ (taken_keeps d a).1

pub settled_past : (ds : List Action) (a : Actor) → (settle ds a).past ≡ a.past
unfolding settle
settled_past [] a = refl
settled_past (d ∷ ds) a = settled_past_by (is_wanting (wants a) || is_broken a) d ds (while_wanting (is_wanting (wants a)) (d ∷ ds)) a (settled_past ds (take_action d a))

pub handed_past : (d : Action) (a : Actor) → (hand_action d a).past ≡ a.past
unfolding hand_action
handed_past d a = settled_past (a.todo ++ d ∷ []) a

pub handed_sound : (named : Bool) (n : ℕ) (d : Action) (a : Actor) → IsAction named d → Sound named n a → Sound named n (hand_action d a)
unfolding hand_action
handed_sound named n d a e h = settled_sound named n (a.todo ++ d ∷ []) a (actions_snoc named a.todo d h.actions e) h

-- a script has a node
pub has_nodes : (named : Bool) (n : ℕ) → 1 ≤ n → HasNodes named n
has_nodes true n some = some
has_nodes false n some = tt

fresh_holds : (named : Bool) (n : ℕ) → HasNodes named n → HoldsWell named n (fresh_actor named n).holds
unfolding fresh_actor
fresh_holds true n some = (some, tt)
fresh_holds false n some = refl

pub fresh_sound : (named : Bool) (n : ℕ) → HasNodes named n → Sound named n (fresh_actor named n)
unfolding fresh_actor AreWithin AreActions GoesBy
fresh_sound named n some = record { sized = new_sized n; within = tt; goes = fresh_goes; actions = tt; holds = fresh_holds named n some }

-- ## A line of its record
raw_moved_sized : (n : ℕ) (r : Record) (a : Actor) → a.holds ≡ None → Sized n a.writer → Sized n (moved_on r a).writer
unfolding moved_on
raw_moved_sized n (Call k q t) a e h = subst (λ (w : WriterView). Sized n w) (sym (raw_writer k q t a e)) (heard_sized n a.writer k (heard_of t) h)
raw_moved_sized n (Late k q) a e h = h
raw_moved_sized n (Operator k ask d) a e h = h
raw_moved_sized n (Outcome x) a e h = h

moved_held : (named : Bool) (n : ℕ) (r : Record) (a : Actor) → Sized n a.writer → HoldsWell named n a.holds → Sized n (moved_on r a).writer × HoldsWell named n (moved_on r a).holds
moved_held true n r a s h = let w : Well n (moved_on r a) = moved_well n r a h.0 (s, h.1) in (w.0, (h.0, w.1))
moved_held false n r a s h = (raw_moved_sized n r a h s, raw_moved r a h)

pub goes_past : (a : Actor) (r : Record) → (goes_on a r).past ≡ a.past ++ r ∷ []
unfolding goes_on settle_again
goes_past a r = let b : Actor = record a { past = a.past ++ r ∷ [] } in settled_past (moved_on r b).todo (moved_on r b) ∙ (moved_keeps r b).1

pub goes_sound : (named : Bool) (n : ℕ) (a : Actor) (r : Record) → Fits (wants a) r → IsTold a r → IsWithin n r → Sound named n a → Sound named n (goes_on a r)
unfolding goes_on settle_again
goes_sound named n a r f t w h =
    let b : Actor = record a { past = a.past ++ r ∷ [] } in
    let keeps : ((moved_on r b).todo ≡ b.todo) × ((moved_on r b).past ≡ b.past) × ((moved_on r b).marks ≡ b.marks) = moved_keeps r b in
    let todo : AreActions named (moved_on r b).todo = subst (AreActions named) (sym keeps.0) h.actions in
    let held : Sized n (moved_on r b).writer × HoldsWell named n (moved_on r b).holds = moved_held named n r b h.sized h.holds in
    settled_sound named n (moved_on r b).todo (moved_on r b) todo
    (record {
      sized = held.0;
      within = subst (λ (l : List Record). AreWithin n l) (sym keeps.1) (within_snoc n a.past r h.within w);
      goes = moved_goes r a f t h.goes;
      actions = todo;
      holds = held.1;
    })

-- ## What it wants is of a node that there is
made_within : (n k i : ℕ) (q : Request) (rs : List Record) → AreWithin n rs → slice_get (calls_to k rs) i ≡ Some q → (1 ≤ k) × (k ≤ n)
unfolding AreWithin calls_to Alike
made_within n k i q [] h e = absurd (cc e)
made_within n k i q (Call j p t ∷ rs) h e = by i (alike j k) e (λ x y. made_within n k x q rs h.1 y)
  where
    by : (i : ℕ) → Alike j k → slice_get (cond (j == k) (p ∷ calls_to k rs) (calls_to k rs)) i ≡ Some q → ((x : ℕ) → slice_get (calls_to k rs) x ≡ Some q → (1 ≤ k) × (k ≤ n)) → (1 ≤ k) × (k ≤ n)
    by i (inl g) f go = subst (λ (z : ℕ). (1 ≤ z) × (z ≤ n)) g.1 h.0
    by i (inr g) f go = go i (rw g.0 at f)
made_within n k i q (Late j p ∷ rs) h e = made_within n k i q rs h.1 e
made_within n k i q (Operator j ask d ∷ rs) h e = made_within n k i q rs h.1 e
made_within n k i q (Outcome x ∷ rs) h e = made_within n k i q rs h.1 e

-- a read is of the node that the tail asks
work_within : (n k : ℕ) (q : Request) (w : Work) (t : ℕ) (v : WriterView) → Sized n v → AsksNode n w → work_read w t (call_wanted (next_call v)) ≡ WantsCall k q → (1 ≤ k) × (k ≤ n)
work_within n k q Free t v s g e = call_within n v k q s (call_by (next_call v) k q e)
work_within n k q (Tails until node told) t v s g e = let same : node ≡ k = cc e in subst (λ (i : ℕ). (1 ≤ i) × (i ≤ n)) same g
work_within n k q (Logs ahead dues) t v s g e = call_within n v k q s (call_by (next_call v) k q e)
work_within n k q Broken t v s g e = call_within n v k q s (call_by (next_call v) k q e)

read_within : (n k : ℕ) (q : Request) (o : Option Holding) (v : WriterView) → Sized n v → AsksIn n o → read_first o (call_wanted (next_call v)) ≡ WantsCall k q → (1 ≤ k) × (k ≤ n)
unfolding read_first
read_within n k q None v s g e = call_within n v k q s (call_by (next_call v) k q e)
read_within n k q (Some h) v s g e = work_within n k q h.work h.position v s g e

wants_within : (named : Bool) (n k : ℕ) (q : Request) (a : Actor) → Sized n a.writer → HoldsWell named n a.holds → Calling k q a → (1 ≤ k) × (k ≤ n)
wants_within true n k q a s h c = read_within n k q a.holds a.writer s h.1 c.want
wants_within false n k q a s h c = call_within n a.writer k q s (raw_call a k q h c)

pub wants_call_within : (named : Bool) (n k : ℕ) (q : Request) (a : Actor) → Sound named n a → wants a ≡ WantsCall k q → (1 ≤ k) × (k ≤ n)
wants_call_within named n k q a h e = wants_within named n k q a h.sized h.holds (calling a k q e)

pub wants_copy_within : (named : Bool) (n k : ℕ) (q : Request) (a : Actor) → Sound named n a → wants a ≡ WantsCopy k q → (1 ≤ k) × (k ≤ n)
unfolding GoesBy
wants_copy_within named n k q a h e =
    let due : IsCopy a.marks a.past k q = copy_due a.marks a.past k q (subst (λ (z : Option (ℕ × Request)). Goes a.marks a.past z) (copying a k q e).copies h.goes) in
    let c = copy_named a.marks a.past k q due in
    made_within n k (c.0 - 1) q a.past h.within c.2.1

-- the record of an actor some lines later
pub led_past : (x : Actor) (rs : List Record) → (actor_after x rs).past ≡ x.past ++ rs
unfolding actor_after
led_past x [] = sym (append-nil x.past)
led_past x (r ∷ rs) = led_past (goes_on x r) rs ∙ ap (λ l. l ++ rs) (goes_past x r) ∙ append_assoc x.past (r ∷ []) rs

-- What the actions of an actor of a script with names leave it holding.
use Rattle.std.proofs.Common.{◌≡◌, ℕ, ◌+◌, List, [], ◌∷◌, ◌++◌, Bool, true, false, cond, refl, sym, ap, ◌∙◌, subst, arith, length, inl, inr}
use Rattle.std.specs.Prelude.{Option, Some, None, ◌||◌, is_some}
use Rattle.journal_core.specs.declared.request.Request.{Request}
use Rattle.edit_ops.specs.Records.{EditView, record_of}
use Rattle.ns_edits.specs.declared.refusal.AdmitRefusal.{AdmitRefusal}
use Rattle.ns_edits.specs.declared.refusal.AdmitRefusal.TheVariants.{RepeatedCall}
use Rattle.ns_edits.specs.Admit.{Refusal, admit_of}
use Rattle.ns_edits.specs.Apply.{apply_of}
use Rattle.ns_edits.specs.Replay.{replay_from}
use Rattle.ns_edits.proofs.Splits.{replay_joins, replay_one}
use Rattle.ns_edits.proofs.Decodes.{record_decodes}
use Rattle.ns_edits.proofs.Calls.{enters}
use Rattle.writer_core.specs.declared.round.Round.TheVariants as round
use Rattle.writer_core.specs.declared.phase.Phase.{Phase}
use Rattle.writer_core.specs.declared.phase.Phase.TheVariants as phase
use Rattle.writer_core.specs.declared.phase.Aim.TheVariants as aim
use Rattle.writer_core.specs.declared.task.Task.{Task}
use Rattle.writer_core.specs.declared.task.Task.TheVariants as task
use Rattle.writer_core.specs.declared.task.Begun.{Begun}
use Rattle.writer_core.specs.declared.task.Begun.TheVariants as begun
use Rattle.writer_core.specs.Views.{WriterView}
use Rattle.writer_core.specs.Writer.{Began, is_writing, if_writing, log_begins, log_limit, writer_begun, next_call}
use Rattle.play_model.specs.Lines.{Action, Does, DoDrop, DoMute, DoLate, Submits, Trims, DoTail, Saves, Reloads, IsNamesTask, AreEdits, IsAction, AreActions}
use Rattle.play_names.specs.Submissions.{Submission, unless_long, unless_refused, submitted_one, submit_edits, nothing_submitted}
use Rattle.play_names.specs.Holding.{Holding, Work, Free, Tails, Logs, Broken, with_work, save_image, reload_image, min_to_keep}
use Rattle.play_names.specs.Tails.{pass_begun}
use Rattle.play_model.specs.Actor.{Actor, Want, call_wanted, work_read, read_first, copy_first, say_first, wants, is_wanting, is_broken_work}
use Rattle.play_model.specs.Actor.{is_broken_holding, is_broken, tail_stepped, task_begun, make_copy, begin_sync, after_sync, logged_when, trim_at}
use Rattle.play_model.specs.Actor.{unless_active, begin_save, begin_reload, take_named_action, take_action, while_wanting, settle}
use Rattle.writer_core.specs.Turns.{IsInRound, aim_of}
use Rattle.play_model.proofs.Sound.{waiting_actions}
use Rattle.play_model.proofs.WriterTurns.{has_other, Course, Begins, begun_turn, call_some}
use Rattle.play_names.proofs.HoldingLaws.{reloaded_free}
use Rattle.play_laws.proofs.WriterPlaces.{PhasePlace, IsLogIn}
use Rattle.play_laws.proofs.Held.{saved_stands, reloaded_stands}
use Rattle.play_laws.proofs.Stages.{AtStandby, RestsAt, OnTask, Stage, GoodActor, free_stage, rests_standby, pass_good}

module _ (L : ℕ → List ℕ → Type 0) where
  -- ## At rest
  pub record Resting (h : Holding) (a : Actor) : Type 0 where
    pub idle : a.doing ≡ None
    pub free : h.work ≡ Free
    pub rests : RestsAt L h.position a.writer.phase a.writer

  not_wanting : (s : List (List ℕ)) (c : Option (ℕ × Request)) (w : Want) → is_wanting (say_first s (copy_first c w)) ≡ false → is_wanting w ≡ false
  unfolding say_first copy_first is_wanting
  not_wanting [] None w e = e
  not_wanting [] (Some c) w e = absurd (cc e)
  not_wanting (t ∷ ts) c w e = absurd (cc e)

  call_wants : (o : Option (ℕ × Request)) → is_some o ≡ true → is_wanting (call_wanted o) ≡ false → ⊥
  unfolding is_wanting call_wanted
  call_wants None s e = cc s
  call_wants (Some c) s e = cc e

  task_wants : (p : ℕ) (t : Task) (w : WriterView) → OnTask L p t w → is_wanting (call_wanted (next_call w)) ≡ false → ⊥
  task_wants p t w o e = call_wants (next_call w) (call_some (aim_of t) w o.course o.in_round) e

  rest_by : (h : Holding) (doing : Option Task) (w : WriterView) (work : Work) → Stage L h doing w work
      → is_wanting (work_read work h.position (call_wanted (next_call w))) ≡ false → is_broken_work work ≡ false
      → (doing ≡ None) × (work ≡ Free) × RestsAt L h.position w.phase w
  unfolding is_wanting
  rest_by h None w Free s e b = (refl, refl, s)
  rest_by h None w (Tails until node told) s e b = absurd (cc e)
  rest_by h None w (Logs ahead dues) s e b = absurd s
  rest_by h None w Broken s e b = absurd (cc b)
  rest_by h (Some (task.Log bodies)) w (Logs ahead dues) s e b = absurd (unfold is_wanting in task_wants h.position (task.Log bodies) w s.on e)
  rest_by h (Some task.Takeover) w Free s e b = absurd (unfold is_wanting in task_wants h.position task.Takeover w s e)
  rest_by h (Some task.Roll) w Free s e b = absurd (unfold is_wanting in task_wants h.position task.Roll w s e)
  rest_by h (Some task.Close) w Free s e b = absurd (unfold is_wanting in task_wants h.position task.Close w s e)
  rest_by h (Some (task.Purge min)) w Free s e b = absurd (unfold is_wanting in task_wants h.position (task.Purge min) w s e)
  rest_by h (Some t) w _ s e b = absurd s

  resting : (a : Actor) (g : GoodActor L a) → is_wanting (wants a) ≡ false → is_broken a ≡ false → Resting g.holding a
  unfolding wants read_first is_broken
  resting a g e b =
      let later : is_wanting (read_first a.holds (call_wanted (next_call a.writer))) ≡ false = not_wanting a.says a.copies (read_first a.holds (call_wanted (next_call a.writer))) e in
      let read : is_wanting (work_read g.holding.work g.holding.position (call_wanted (next_call a.writer))) ≡ false =
      unfold read_first in subst (λ (o : Option Holding). is_wanting (read_first o (call_wanted (next_call a.writer))) ≡ false) g.is later in
      let whole : is_broken_work g.holding.work ≡ false = subst (λ (o : Option Holding). is_broken_holding o ≡ false) g.is b in
      let r : (a.doing ≡ None) × (g.holding.work ≡ Free) × RestsAt L g.holding.position a.writer.phase a.writer = rest_by g.holding a.doing a.writer g.holding.work g.stage read whole in
      record { idle = r.0; free = r.1; rests = r.2 }

  -- ## Tasks begin
  pub writing_next : (p : ℕ) (x : Phase) (w : WriterView) → is_writing x ≡ true → RestsAt L p x w → w.next ≡ p + 1
  writing_next p (phase.InRound r) w e s = absurd s
  writing_next p phase.Writing w e s = s
  writing_next p phase.Idle w e s = absurd (cc e)
  writing_next p phase.Stopped w e s = absurd (cc e)

  pub standby_at : (p : ℕ) (x : Phase) (w : WriterView) → is_writing x ≡ false → RestsAt L p x w → AtStandby L x
  standby_at p (phase.InRound r) w e s = s
  standby_at p phase.Writing w e s = absurd (cc e)
  standby_at p phase.Idle w e s = tt
  standby_at p phase.Stopped w e s = tt

  pub begun_writing : (b : Bool) (x : Began) (w : WriterView) → (if_writing b x w).begun ≡ begun.Going → b ≡ true
  begun_writing true x w e = refl
  begun_writing false x w e = absurd (cc e)

  pub begun_place : (p : ℕ) (t : Task) (w : WriterView) → IsNamesTask t → RestsAt L p w.phase w → (writer_begun w t).begun ≡ begun.Going
      → PhasePlace L p (aim_of t) (writer_begun w t).writer.phase (writer_begun w t).writer
  unfolding writer_begun
  begun_place p task.Takeover w i r e = tt
  begun_place p task.Roll w i r e = let b : is_writing w.phase ≡ true = begun_writing (is_writing w.phase) _ w e in rw b (refl, writing_next p w.phase w b r)
  begun_place p task.Close w i r e = let b : is_writing w.phase ≡ true = begun_writing (is_writing w.phase) _ w e in rw b (refl, writing_next p w.phase w b r)
  begun_place p (task.Log bodies) w i r e = absurd i
  begun_place p (task.Purge min) w i r e = absurd i

  -- a task of a names script, under way
  task_stage : (h : Holding) (t : Task) (w : WriterView) → IsNamesTask t → h.work ≡ Free → OnTask L h.position t w → Stage L h (Some t) w h.work
  task_stage h task.Takeover w i free o = subst (λ (x : Work). Stage L h (Some task.Takeover) w x) (sym free) o
  task_stage h task.Roll w i free o = subst (λ (x : Work). Stage L h (Some task.Roll) w x) (sym free) o
  task_stage h task.Close w i free o = subst (λ (x : Work). Stage L h (Some task.Close) w x) (sym free) o
  task_stage h (task.Log bodies) w i free o = absurd i
  task_stage h (task.Purge min) w i free o = absurd i

  pub record BegunWell (t : Task) (w : WriterView) : Type 0 where
    pub course : Course (aim_of t) (writer_begun w t).writer
    pub in_round : IsInRound (writer_begun w t).writer.phase

  pub begun_well : (t : Task) (w : WriterView) → has_other w.left ≡ true → (writer_begun w t).begun ≡ begun.Going → BegunWell t w
  unfolding Begins
  begun_well t w o e = by (begun_turn t w o)
    where
      by : Begins t w (writer_begun w t) → BegunWell t w
      by (inl x) = record { course = x.1; in_round = x.2 }
      by (inr x) = absurd (x.0 e)

  does_good : (t : Task) (a : Actor) (g : GoodActor L a) → IsNamesTask t → Resting g.holding a → GoodActor L (task_begun t (writer_begun a.writer t).writer a (writer_begun a.writer t).begun)
  unfolding task_begun
  does_good t a g i r = by (writer_begun a.writer t).begun refl
    where
      by : (b : Begun) → (writer_begun a.writer t).begun ≡ b → GoodActor L (task_begun t (writer_begun a.writer t).writer a b)
      by begun.Going e =
          let b : BegunWell t a.writer = begun_well t a.writer g.other e in
          record {
            holding = g.holding;
            is = g.is;
            stands = g.stands;
            other = b.course.other;
            stage = task_stage g.holding t (writer_begun a.writer t).writer i r.free
                (record { course = b.course; in_round = b.in_round; place = begun_place g.holding.position t a.writer i r.rests e });
          }
      by begun.NotActive e = g
      by (begun.TooLong number) e = g

  -- ## Edits are submitted
  abbrev pub Leads : Holding → Submission → Type 0
  Leads h x = replay_from h.position x.bodies h.space ≡ Some x.ahead

  one_leads : (h : Holding) (w : WriterView) (e : EditView) (x : Submission) → AreEdits (e ∷ []) → w.next ≡ h.position + 1 → Leads h x → Leads h (submitted_one w e x)
  one_leads h w e x is next l = by (admit_of x.ahead e) refl (log_limit w (x.bodies ++ record_of e ∷ []))
    where
      txid : ℕ
      txid = w.next + length x.bodies

      at : txid ≡ h.position + length x.bodies + 1
      at = omega (arith, next)

      more : (o : Option ℕ) → admit_of x.ahead e ≡ None → Leads h (unless_long o txid e x)
      more (Some number) a = l
      more None a =
          replay_joins h.position x.bodies (record_of e ∷ []) h.space x.ahead (apply_of x.ahead e txid) l
          (replay_one (h.position + length x.bodies) (record_of e) x.ahead (apply_of x.ahead e txid)
          (enters (h.position + length x.bodies + 1) (record_of e) x.ahead e (record_decodes e is.0) a ∙ ap (λ (k : ℕ). Some (apply_of x.ahead e k)) (sym at)))

      same : (r : AdmitRefusal) (y : Submission) → Leads h (unless_refused w.next (Some r) y x)
      same (RepeatedCall t) y = l
      same _ y = l

      by : (r : Refusal) → admit_of x.ahead e ≡ r → (o : Option ℕ) → Leads h (unless_refused w.next r (unless_long o txid e x) x)
      by None a o = more o a
      by (Some r) a o = same r (unless_long o txid e x)

  submitted_leads : (h : Holding) (w : WriterView) (es : List EditView) (x : Submission) → AreEdits es → w.next ≡ h.position + 1 → Leads h x → Leads h (submit_edits w es x)
  unfolding submit_edits
  submitted_leads h w [] x is next l = l
  submitted_leads h w (e ∷ es) x is next l = submitted_leads h w es (submitted_one w e x) is.1 next (one_leads h w e x (is.0, tt) next l)

  pub log_begun : (w : WriterView) (bodies : List (List ℕ)) → (writer_begun w (task.Log bodies)).begun ≡ begun.Going
      → ((writer_begun w (task.Log bodies)).writer.phase ≡ phase.InRound (round.Write bodies)) × ((writer_begun w (task.Log bodies)).writer.next ≡ w.next)
  unfolding writer_begun
  log_begun w bodies e = by (is_writing w.phase) (log_limit w bodies) e
    where
      by : (b : Bool) (o : Option ℕ) → (if_writing b (log_begins o bodies w) w).begun ≡ begun.Going
          → ((if_writing b (log_begins o bodies w) w).writer.phase ≡ phase.InRound (round.Write bodies)) × ((if_writing b (log_begins o bodies w) w).writer.next ≡ w.next)
      by true None e = (refl, refl)
      by true (Some number) e = absurd (cc e)
      by false o e = absurd (cc e)

  sync_good : (x : Submission) (a : Actor) (g : GoodActor L a) → Leads g.holding x → a.writer.next ≡ g.holding.position + 1
      → GoodActor L (begin_sync (writer_begun a.writer (task.Log x.bodies)).begun (writer_begun a.writer (task.Log x.bodies)).writer x g.holding a)
  sync_good x a g l next = by (writer_begun a.writer (task.Log x.bodies)).begun refl
    where
      w : WriterView
      w = (writer_begun a.writer (task.Log x.bodies)).writer

      h : Holding
      h = with_work (Logs x.ahead x.dues) g.holding

      by : (b : Begun) → (writer_begun a.writer (task.Log x.bodies)).begun ≡ b → GoodActor L (begin_sync b w x g.holding a)
      by begun.Going e =
          let b : BegunWell (task.Log x.bodies) a.writer = begun_well (task.Log x.bodies) a.writer g.other e in
          let at : (w.phase ≡ phase.InRound (round.Write x.bodies)) × (w.next ≡ a.writer.next) = log_begun a.writer x.bodies e in
          record {
            holding = h;
            is = refl;
            stands = record { held = g.stands.held; images = g.stands.images };
            other = b.course.other;
            stage = record {
              on = record { course = b.course; in_round = b.in_round; place = subst (λ (y : Phase). PhasePlace L g.holding.position aim.Log y w) (sym at.0) (at.1 ∙ next) };
              is_log = subst (λ (y : Phase). IsLogIn L x.bodies aim.Log y) (sym at.0) refl;
              leads = l;
            };
          }
      by begun.NotActive e = g
      by (begun.TooLong number) e = g

  synced_good : (bodies : List (List ℕ)) (x : Submission) (a : Actor) (g : GoodActor L a) → Leads g.holding x → a.writer.next ≡ g.holding.position + 1 → GoodActor L (after_sync bodies x g.holding a)
  synced_good [] x a g l next = g
  synced_good (b ∷ bs) x a g l next = sync_good x a g l next

  none_leads : (h : Holding) → Leads h (nothing_submitted h.space)
  unfolding replay_from
  none_leads h = refl

  logged_good : (es : List EditView) (a : Actor) (g : GoodActor L a) → AreEdits es → Resting g.holding a → GoodActor L (logged_when (is_writing a.writer.phase) es g.holding a)
  unfolding logged_when
  logged_good es a g is r = by (is_writing a.writer.phase) refl
    where
      x : Submission
      x = submit_edits a.writer es (nothing_submitted g.holding.space)

      by : (b : Bool) → is_writing a.writer.phase ≡ b → GoodActor L (logged_when b es g.holding a)
      by true e =
          let next : a.writer.next ≡ g.holding.position + 1 = writing_next g.holding.position a.writer.phase a.writer e r.rests in
          synced_good x.bodies x a g (submitted_leads g.holding a.writer es (nothing_submitted g.holding.space) is next (none_leads g.holding)) next
      by false e = g

  -- ## Other actions
  pub purge_begun : (w : WriterView) (min : ℕ) → is_writing w.phase ≡ true → (writer_begun w (task.Purge min)).begun ≡ begun.Going
  unfolding writer_begun
  purge_begun w min e = rw e refl

  pub purge_place : (p : ℕ) (w : WriterView) (min : ℕ) → is_writing w.phase ≡ true → w.next ≡ p + 1
      → PhasePlace L p aim.Purge (writer_begun w (task.Purge min)).writer.phase (writer_begun w (task.Purge min)).writer
  unfolding writer_begun
  purge_place p w min e next = rw e next

  trim_good : (min : Option ℕ) (a : Actor) (g : GoodActor L a) → Resting g.holding a → GoodActor L (trim_at (is_writing a.writer.phase) min a)
  unfolding trim_at
  trim_good min a g r = by (is_writing a.writer.phase) refl min
    where
      by : (b : Bool) → is_writing a.writer.phase ≡ b → (min : Option ℕ) → GoodActor L (trim_at b min a)
      by false e min = g
      by true e None = g
      by true e (Some min) =
          let b : BegunWell (task.Purge min) a.writer = begun_well (task.Purge min) a.writer g.other (purge_begun a.writer min e) in
          let next : a.writer.next ≡ g.holding.position + 1 = writing_next g.holding.position a.writer.phase a.writer e r.rests in
          record {
            holding = g.holding;
            is = g.is;
            stands = g.stands;
            other = b.course.other;
            stage = subst (λ (x : Work). Stage L g.holding (Some (task.Purge min)) (writer_begun a.writer (task.Purge min)).writer x) (sym r.free)
                (record { course = b.course; in_round = b.in_round; place = purge_place g.holding.position a.writer min e next });
          }

  tail_good : (a : Actor) (g : GoodActor L a) → Resting g.holding a → GoodActor L (unless_active (is_writing a.writer.phase) (tail_stepped None (pass_begun None g.holding) a) a)
  tail_good a g r = by (is_writing a.writer.phase) refl
    where
      by : (b : Bool) → is_writing a.writer.phase ≡ b → GoodActor L (unless_active b (tail_stepped None (pass_begun None g.holding) a) a)
      by true e = g
      by false e = pass_good L None g.holding a g.stands tt r.idle g.other (standby_at g.holding.position a.writer.phase a.writer e r.rests)

  pub saved_same : (h : Holding) → ((save_image h).work ≡ h.work) × ((save_image h).position ≡ h.position)
  unfolding save_image
  saved_same h = (refl, refl)

  rests_free : (h : Holding) (a : Actor) → h.work ≡ Free → a.doing ≡ None → RestsAt L h.position a.writer.phase a.writer → Stage L h a.doing a.writer h.work
  rests_free h a free idle r = subst (λ (x : Work). Stage L h a.doing a.writer x) (sym free) (free_stage L h a a.writer idle r)

  save_good : (a : Actor) (g : GoodActor L a) → Resting g.holding a → GoodActor L (unless_active (is_writing a.writer.phase) (begin_save g.holding a) a)
  save_good a g r = by (is_writing a.writer.phase)
    where
      by : (b : Bool) → GoodActor L (unless_active b (begin_save g.holding a) a)
      by true = g
      by false = record {
        holding = save_image g.holding;
        is = refl;
        stands = saved_stands L g.holding g.stands;
        other = g.other;
        stage = rests_free (save_image g.holding) a ((saved_same g.holding).0 ∙ r.free) r.idle (subst (λ (k : ℕ). RestsAt L k a.writer.phase a.writer) (sym (saved_same g.holding).1) r.rests);
      }

  reload_good : (a : Actor) (g : GoodActor L a) → Resting g.holding a → GoodActor L (unless_active (is_writing a.writer.phase) (begin_reload g.holding a) a)
  reload_good a g r = by (is_writing a.writer.phase) refl
    where
      by : (b : Bool) → is_writing a.writer.phase ≡ b → GoodActor L (unless_active b (begin_reload g.holding a) a)
      by true e = g
      by false e = record {
        holding = reload_image g.holding;
        is = refl;
        stands = reloaded_stands L g.holding g.stands.images;
        other = g.other;
        stage = rests_free (reload_image g.holding) a (reloaded_free g.holding) r.idle
            (rests_standby L (reload_image g.holding).position a.writer.phase a.writer
            (standby_at g.holding.position a.writer.phase a.writer e r.rests));
      }

  -- ## Actions
  copied_good : (node call : ℕ) (o : Option Request) (a : Actor) → GoodActor L a → GoodActor L (make_copy node call o a)
  unfolding make_copy
  copied_good node call None a g = g
  copied_good node call (Some r) a g = g

  held_good : (d : Action) (a : Actor) (g : GoodActor L a) → GoodActor L (take_named_action d (Some g.holding) a) → GoodActor L (take_named_action d a.holds a)
  held_good d a g h = subst (λ (o : Option Holding). GoodActor L (take_named_action d o a)) (sym g.is) h

  action_good : (d : Action) (a : Actor) (g : GoodActor L a) → IsAction true d → Resting g.holding a → GoodActor L (take_action d a)
  unfolding take_action take_named_action
  action_good (Does t) a g i r = does_good t a g i r
  action_good (DoDrop node call) a g i r = g
  action_good (DoMute node call) a g i r = g
  action_good (DoLate node call) a g i r = copied_good node call _ a g
  action_good (Submits es) a g i r = unfold take_named_action in held_good (Submits es) a g (logged_good es a g i.1 r)
  action_good (Trims extra) a g i r = unfold take_named_action in held_good (Trims extra) a g (trim_good (min_to_keep extra g.holding.images) a g r)
  action_good DoTail a g i r = unfold take_named_action in held_good DoTail a g (tail_good a g r)
  action_good Saves a g i r = unfold take_named_action in held_good Saves a g (save_good a g r)
  action_good Reloads a g i r = unfold take_named_action in held_good Reloads a g (reload_good a g r)

  pub or_false : (b c : Bool) → (b || c) ≡ false → (b ≡ false) × (c ≡ false)
  or_false true c e = absurd (cc e)
  or_false false c e = (refl, e)

  pub settled_good : (ds : List Action) (a : Actor) → AreActions true ds → GoodActor L a → GoodActor L (settle ds a) × AreActions true (settle ds a).todo
  unfolding settle AreActions
  settled_good [] a is g = (g, tt)
  settled_good (d ∷ ds) a is g = by (is_wanting (wants a) || is_broken a) refl (λ b. settled_good ds b is.1)
    where
      by : (b : Bool) → (is_wanting (wants a) || is_broken a) ≡ b → ((x : Actor) → GoodActor L x → GoodActor L (settle ds x) × AreActions true (settle ds x).todo)
          → GoodActor L (cond b (record a { todo = while_wanting (is_wanting (wants a)) (d ∷ ds) }) (settle ds (take_action d a)))
          × AreActions true (cond b (record a { todo = while_wanting (is_wanting (wants a)) (d ∷ ds) }) (settle ds (take_action d a))).todo
      by true e go = (g, waiting_actions true (is_wanting (wants a)) (d ∷ ds) is)
      by false e go = let f : (is_wanting (wants a) ≡ false) × (is_broken a ≡ false) =
          or_false (is_wanting (wants a)) (is_broken a) e in go (take_action d a) (action_good d a g is.0 (resting a g f.0 f.1))

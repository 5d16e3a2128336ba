-- What an actor of a script with names holds: at every moment its namespace and its images are
-- replays of the first entries of a line, if the reads gave it entries of that line, and its own
-- journal rounds that were done put their bodies there.
use Rattle.std.proofs.Common.{◌≡◌, ℕ, ◌+◌, ◌-◌, ◌≤◌, List, [], ◌∷◌, ◌++◌, Bool, true, false, cond, refl, sym, ap, ◌∙◌, subst, arith, length}
use Rattle.std.specs.Prelude.{Option, Some, None, nat_lt}
use Rattle.std.proofs.lemmas.Bool.Decides.{nat_tests}
use Rattle.journal_core.specs.declared.heard.Heard.{Heard}
use Rattle.ns_tree.specs.Space.{Space}
use Rattle.ns_edits.specs.Replay.{replay_from}
use Rattle.writer_core.specs.declared.round.Round.{Round}
use Rattle.writer_core.specs.declared.phase.Phase.{Phase}
use Rattle.writer_core.specs.declared.phase.Phase.TheVariants as phase
use Rattle.writer_core.specs.declared.phase.Aim.{Aim}
use Rattle.writer_core.specs.declared.phase.Aim.TheVariants as aim
use Rattle.writer_core.specs.declared.task.Task.{Task}
use Rattle.writer_core.specs.declared.task.Task.TheVariants as task
use Rattle.writer_core.specs.declared.turn.Turn.{Turn}
use Rattle.writer_core.specs.declared.turn.Turn.TheVariants as turn
use Rattle.writer_core.specs.declared.turn.Outcome.{Outcome as TaskOutcome}
use Rattle.writer_core.specs.declared.turn.Outcome.TheVariants as outcome
use Rattle.writer_core.specs.Views.{WriterView}
use Rattle.writer_core.specs.Rounds.{Judgment}
use Rattle.writer_core.specs.Writer.{heard_at, writer_heard}
use Rattle.journal_history.specs.declared.record.Record.{Record}
use Rattle.journal_history.specs.declared.record.Record.TheVariants.{Call, Late, Operator, Outcome}
use Rattle.mesh.specs.Makers.{heard_of}
use Rattle.play_model.specs.Lines.{Action, AreActions}
use Rattle.play_names.specs.Submissions.{Due}
use Rattle.play_names.specs.Holding.{Holding, new_holding, Work, Free, Tails, Logs, Broken, empty_holding, at_position, reload_image, enters as enters_at}
use Rattle.play_model.specs.Actor.{Actor, fresh_actor, settle, logs_done, task_done, held_turn, turn_with, turn_taken, after_judgment, heard_in_work, heard_by, moved_on, settle_again, goes_on}
use Rattle.writer_core.specs.Turns.{IsOf, aim_of}
use Rattle.play_model.proofs.Led.{moved_keeps}
use Rattle.play_model.proofs.WriterTurns.{has_other, IsBetween, Course, Turned, TurnOf, heard_turn, new_course}
use Rattle.play_laws.proofs.WriterPlaces.{OutcomePlace, TurnPlace, HearsAt, IsLogOf, IsLogIn, heard_place}
use Rattle.play_laws.proofs.Held.{Held, held_more, held_at, held_start, held_end, held_empty, Standing, reloaded_stands}
use Rattle.play_laws.proofs.Stages.{RestsAt, OnTask, Stage, Good, GoodActor, rests_writing, pass_good, EditsOn, hears_good}
use Rattle.play_names.proofs.HoldingLaws.{reloaded_free}
use Rattle.play_laws.proofs.Actions.{settled_good}

module _ (L : ℕ → List ℕ → Type 0) where
  -- ## A task goes on, or ends
  abbrev pub bodies_of : Task → List (List ℕ)
  bodies_of (task.Log bodies) = bodies
  bodies_of _ = []

  abbrev pub WorkOf : Holding → Task → Type 0
  WorkOf h (task.Log bodies) = (ahead : Space) × (dues : List Due) × (h.work ≡ Logs ahead dues) × (replay_from h.position bodies h.space ≡ Some ahead)
  WorkOf h task.Takeover = h.work ≡ Free
  WorkOf h task.Roll = h.work ≡ Free
  WorkOf h task.Close = h.work ≡ Free
  WorkOf h (task.Purge min) = h.work ≡ Free

  pub record UnderTask (h : Holding) (t : Task) (w : WriterView) : Type 0 where
    pub work : WorkOf h t
    pub on : OnTask L h.position t w
    pub is_log : IsLogIn L (bodies_of t) (aim_of t) w.phase

  pub no_log : (a : Aim) (x : Phase) → ((r : Round) → IsLogOf L [] a r) → IsLogIn L [] a x
  no_log a (phase.InRound r) h = h r
  no_log a phase.Idle h = tt
  no_log a phase.Writing h = tt
  no_log a phase.Stopped h = tt

  pub under_by : (h : Holding) (t : Task) (w : WriterView) (work : Work) → h.work ≡ work → Stage L h (Some t) w work → UnderTask h t w
  under_by h (task.Log bodies) w (Logs ahead dues) is s = record { work = (ahead, dues, is, s.leads); on = s.on; is_log = s.is_log }
  under_by h task.Takeover w Free is s = record { work = is; on = s; is_log = no_log aim.Takeover w.phase (λ r. tt) }
  under_by h task.Roll w Free is s = record { work = is; on = s; is_log = no_log aim.Roll w.phase (λ r. tt) }
  under_by h task.Close w Free is s = record { work = is; on = s; is_log = no_log aim.Close w.phase (λ r. tt) }
  under_by h (task.Purge min) w Free is s = record { work = is; on = s; is_log = no_log aim.Purge w.phase (λ r. tt) }
  under_by h t w _ is s = absurd s

  stage_of : (h : Holding) (t : Task) (w : WriterView) → UnderTask h t w → Stage L h (Some t) w h.work
  stage_of h (task.Log bodies) w u = subst (λ (x : Work). Stage L h (Some (task.Log bodies)) w x) (sym u.work.2) (record { on = u.on; is_log = u.is_log; leads = u.work.3 })
  stage_of h task.Takeover w u = subst (λ (x : Work). Stage L h (Some task.Takeover) w x) (sym u.work) u.on
  stage_of h task.Roll w u = subst (λ (x : Work). Stage L h (Some task.Roll) w x) (sym u.work) u.on
  stage_of h task.Close w u = subst (λ (x : Work). Stage L h (Some task.Close) w x) (sym u.work) u.on
  stage_of h (task.Purge min) w u = subst (λ (x : Work). Stage L h (Some (task.Purge min)) w x) (sym u.work) u.on

  -- what the line has begins at 1
  abbrev pub FromOne : Type 0
  FromOne = (t : ℕ) (x : List ℕ) → L t x → 1 ≤ t

  enters_stands : (last : ℕ) (h : Holding) → Standing L h → Standing L (enters_at last h) × ((enters_at last h).position ≤ last)
  enters_stands last h s = by (nat_lt last h.position) refl
    where
      by : (b : Bool) → nat_lt last h.position ≡ b → Standing L (cond b (empty_holding h) h) × ((cond b (empty_holding h) h).position ≤ last)
      by true e = (record { held = (held_empty L); images = s.images }, omega arith)
      by false e = (s, grind (arith, nat_tests, e))

  ends_rests : (h : Holding) (x : Phase) (w : WriterView) → x ≡ phase.Stopped → RestsAt L h.position x w
  ends_rests h x w e = subst (λ (y : Phase). RestsAt L h.position y w) (sym e) tt

  abbrev after : Actor → WriterView → Actor
  after a w = record a { writer = w; doing = None }

  done_good : (h : Holding) (t : Task) (o : TaskOutcome) (a : Actor) (w : WriterView) → FromOne → Standing L h → has_other w.left ≡ true → WorkOf h t
      → IsOf (aim_of t) o → OutcomePlace L h.position (bodies_of t) o w
      → a.holds ≡ Some h → GoodActor L (task_done o t h (after a w))
  unfolding task_done logs_done
  done_good h task.Takeover (outcome.Takeover epoch first) a w one s other work i pl is =
      let least : 1 ≤ first = one first (24 ∷ []) pl.3 in
      let up : first - 1 + 1 ≡ first = omega (arith, least) in
      let start : w.start ≡ first - 1 + 1 = pl.1 ∙ sym up in
      let next : w.next ≡ first - 1 + 2 = (let n : w.next ≡ first + 1 = pl.2 in omega (arith, n, least)) in
      let e : Standing L (enters_at (first - 1) h) × ((enters_at (first - 1) h).position ≤ first - 1) = enters_stands (first - 1) h s in
      pass_good L (Some (first - 1)) (enters_at (first - 1) h) (after a w) e.0 e.1 refl other
      (record { writing = pl.0; start = start; next = next; logged = subst (λ (k : ℕ). L k (24 ∷ [])) (sym up) pl.3 })
  done_good h (task.Log bodies) (outcome.Log first last) a w one s other work i pl is = by h.work work.2
    where
      ahead : Space
      ahead = work.0

      made : Holding
      made = record h { space = ahead; position = last; work = Free }

      by : (x : Work) → x ≡ Logs work.0 work.1 → GoodActor L (logs_done x first last h (after a w))
      by Free e = absurd (cc e)
      by (Tails until node told) e = absurd (cc e)
      by Broken e = absurd (cc e)
      by (Logs other_ahead dues) e =
          let same : other_ahead ≡ ahead = ahead_is e in
          record {
            holding = record h { space = other_ahead; position = last; work = Free };
            is = refl;
            stands = record {
              held = subst (λ (z : Space). Held L last z) (sym same) (held_at L (h.position + length bodies) last ahead (sym pl.2) (held_more L h.position h.space ahead bodies s.held pl.3 work.3));
              images = s.images;
            };
            other = other;
            stage = rests_writing L last w pl.0 pl.1;
          }
        where
          ahead_is : Logs other_ahead dues ≡ Logs work.0 work.1 → other_ahead ≡ work.0
          ahead_is e = ap ahead_in e
            where
              ahead_in : Work → Space
              ahead_in (Logs z ds) = z
              ahead_in _ = other_ahead
  done_good h task.Roll (outcome.Roll start) a w one s other work i pl is =
      let up : start ≡ h.position + 1 + 1 = (let at : start ≡ h.position + 2 = pl.2 in omega (arith, at)) in
      let last : Held L (h.position + 1) h.space = held_end L h.position (h.position + 1) h.space refl s.held pl.3 in
      let same : h.position + 2 ≡ start = sym pl.2 in
      record {
        holding = at_position start h;
        is = refl;
        stands = record { held = held_start L (h.position + 1) start h.space up last (subst (λ (k : ℕ). L k (24 ∷ [])) same pl.4); images = s.images };
        other = other;
        stage = rests_writing L start w pl.0 pl.1;
      }
  done_good h task.Close (outcome.Close last) a w one s other work i pl is = record {
    holding = at_position last h;
    is = refl;
    stands = record { held = held_end L h.position last h.space pl.1 s.held (subst (λ (k : ℕ). L k (23 ∷ [])) (sym pl.1) pl.2); images = s.images };
    other = other;
    stage = subst (λ (x : Phase). RestsAt L last x w) (sym pl.0) tt;
  }
  done_good h (task.Purge min) outcome.Purge a w one s other work i pl is = record {
    holding = h;
    is = is;
    stands = s;
    other = other;
    stage = subst (λ (x : Work). Stage L h None w x) (sym work) (rests_writing L h.position w pl.0 pl.1);
  }
  done_good h t o a w one s other work i pl is = absurd i

  free_work : (h : Holding) (t : Task) → aim_of t ≡ aim.Takeover → WorkOf h t → h.work ≡ Free
  free_work h task.Takeover e work = work
  free_work h (task.Log bodies) e work = absurd (cc e)
  free_work h task.Roll e work = absurd (cc e)
  free_work h task.Close e work = absurd (cc e)
  free_work h (task.Purge min) e work = absurd (cc e)

  stopped_good : (h : Holding) (a : Actor) (w : WriterView) → Standing L h → has_other w.left ≡ true → h.work ≡ Free → w.phase ≡ phase.Stopped → a.holds ≡ Some h → Good L None w a.holds
  stopped_good h a w s other free e is = record { holding = h; is = is; stands = s; other = other; stage = subst (λ (x : Work). Stage L h None w x) (sym free) (ends_rests h w.phase w e) }

  turn_good : (h : Holding) (t : Task) (tn : Turn) (a : Actor) (w : WriterView) → FromOne → Standing L h → Course (aim_of t) w → WorkOf h t
      → TurnOf (aim_of t) w.phase tn → TurnPlace L h.position (bodies_of t) (aim_of t) tn w
      → a.holds ≡ Some h → a.doing ≡ Some t → GoodActor L (turn_taken tn (Some t) (record a { writer = w }))
  unfolding turn_taken turn_with held_turn
  turn_good h t turn.Going a w one s c work i pl is doing = record {
    holding = h;
    is = is;
    stands = s;
    other = c.other;
    stage = subst (λ (d : Option Task). Stage L h d w h.work) (sym doing) (stage_of h t w (record { work = work; on = record { course = c; in_round = i; place = pl.0 }; is_log = pl.1 }));
  }
  turn_good h t (turn.Done o) a w one s c work i pl is doing =
      subst (λ (x : Option Holding). GoodActor L (turn_with x (turn.Done o) t (after a w))) (sym is) (unfold turn_with in done_good h t o a w one s c.other work i.0 pl is)
  turn_good h t turn.Aborted a w one s c work i pl is doing =
      subst (λ (x : Option Holding). GoodActor L (turn_with x turn.Aborted t (after a w))) (sym is)
      (unfold turn_with in record {
        holding = reload_image h;
        is = refl;
        stands = reloaded_stands L h s.images;
        other = c.other;
        stage = subst (λ (x : Work). Stage L (reload_image h) None w x) (sym (reloaded_free h)) (ends_rests (reload_image h) w.phase w pl);
      })
  turn_good h t (turn.EpochLimit told) a w one s c work i pl is doing =
      subst (λ (x : Option Holding). GoodActor L (turn_with x (turn.EpochLimit told) t (after a w))) (sym is)
      (unfold turn_with in stopped_good h a w s c.other (free_work h t i.0 work) pl is)

  -- the writer hears, in the course of a task
  task_hears : (a : Actor) (g : GoodActor L a) (t : Task) (node : ℕ) (heard : Heard) → FromOne → a.doing ≡ Some t
      → HearsAt L a.writer.phase a.writer node heard → GoodActor L (after_judgment (writer_heard a.writer node heard) a)
  task_hears a g t node heard one doing h =
      subst (λ (d : Option Task). GoodActor L (turn_taken j.turn d (record a { writer = j.writer }))) (sym doing)
      (turn_good g.holding t j.turn a j.writer one g.stands turned.course u.work turned.turn placed g.is doing)
    where
      j : Judgment
      j = writer_heard a.writer node heard

      u : UnderTask g.holding t a.writer
      u = under_by g.holding t a.writer g.holding.work refl (subst (λ (d : Option Task). Stage L g.holding d a.writer g.holding.work) doing g.stage)

      turned : Turned (aim_of t) j
      turned = heard_turn (aim_of t) a.writer node heard u.on.course u.on.in_round

      placed : TurnPlace L g.holding.position (bodies_of t) (aim_of t) j.turn j.writer
      placed = heard_place L g.holding.position (bodies_of t) (aim_of t) a.writer node heard u.on.course u.on.in_round u.is_log u.on.place h

  -- and between tasks
  pub same_heard : (w : WriterView) (node : ℕ) (heard : Heard) → IsBetween w.phase → writer_heard w node heard ≡ record { writer = w; turn = turn.Going }
  unfolding writer_heard
  same_heard w node heard b = by w.phase b
    where
      by : (x : Phase) → IsBetween x → heard_at x w node heard ≡ record { writer = w; turn = turn.Going }
      by (phase.InRound r) b = absurd b
      by phase.Idle b = refl
      by phase.Writing b = refl
      by phase.Stopped b = refl

  pub rests_between : (p : ℕ) (x : Phase) (w : WriterView) → RestsAt L p x w → IsBetween x
  rests_between p (phase.InRound r) w s = s
  rests_between p phase.Writing w s = tt
  rests_between p phase.Idle w s = tt
  rests_between p phase.Stopped w s = tt

  idle_hears : (a : Actor) (g : GoodActor L a) (node : ℕ) (heard : Heard) → IsBetween a.writer.phase → GoodActor L (after_judgment (writer_heard a.writer node heard) a)
  unfolding turn_taken
  idle_hears a g node heard b = subst (λ (j : Judgment). GoodActor L (after_judgment j a)) (sym (same_heard a.writer node heard b)) g

  -- ## A line of its record
  -- what it must have learned by a call
  abbrev pub LearnsIn : Work → Holding → WriterView → ℕ → Heard → Type 0
  LearnsIn (Tails until next told) h w node heard = EditsOn L h.position heard
  LearnsIn _ h w node heard = HearsAt L w.phase w node heard

  abbrev pub Learns : Option Holding → WriterView → ℕ → Heard → Type 0
  Learns None w node heard = Unit {0}
  Learns (Some h) w node heard = LearnsIn h.work h w node heard

  work_hears : (a : Actor) (g : GoodActor L a) (node : ℕ) (heard : Heard) → FromOne → LearnsIn g.holding.work g.holding a.writer node heard
      → GoodActor L (heard_in_work g.holding.work g.holding node heard a)
  work_hears a g node heard one l = by a.doing refl g.holding.work refl g.stage l
    where
      at_task : (t : Task) → a.doing ≡ Some t → HearsAt L a.writer.phase a.writer node heard → GoodActor L (after_judgment (writer_heard a.writer node heard) a)
      at_task t e h = task_hears a g t node heard one e h

      by : (d : Option Task) → a.doing ≡ d → (x : Work) → g.holding.work ≡ x → Stage L g.holding d a.writer x
          → LearnsIn x g.holding a.writer node heard → GoodActor L (heard_in_work x g.holding node heard a)
      by None e (Tails until next told) is s l = hears_good L (length a.writer.left) until next told heard g.holding a g.stands s.1 e g.other s.0 l
      by None e Free is s l = idle_hears a g node heard (rests_between g.holding.position a.writer.phase a.writer s)
      by None e Broken is s l = idle_hears a g node heard s
      by None e (Logs ahead dues) is s l = absurd s
      by (Some t) e Free is s l = at_task t e l
      by (Some t) e (Logs ahead dues) is s l = at_task t e l
      by (Some t) e Broken is s l = at_task t e l
      by (Some (task.Log bodies)) e (Tails until next told) is s l = absurd s
      by (Some t) e (Tails until next told) is s l = absurd s

  call_good : (a : Actor) (g : GoodActor L a) (node : ℕ) (heard : Heard) → FromOne → Learns a.holds a.writer node heard → GoodActor L (heard_by a.holds node heard a)
  unfolding heard_by
  call_good a g node heard one l =
      subst (λ (o : Option Holding). GoodActor L (heard_by o node heard a)) (sym g.is)
      (unfold heard_by in work_hears a g node heard one (subst (λ (o : Option Holding). Learns o a.writer node heard) g.is l))

  abbrev pub LineLearns : Actor → Record → Type 0
  LineLearns a (Call node r t) = Learns a.holds a.writer node (heard_of t)
  LineLearns a _ = Unit {0}

  moved_good : (r : Record) (a : Actor) → GoodActor L a → FromOne → LineLearns a r → GoodActor L (moved_on r a)
  unfolding moved_on
  moved_good (Call node r t) a g one l = call_good a g node (heard_of t) one l
  moved_good (Late node r) a g one l = g
  moved_good (Operator node ask done) a g one l = g
  moved_good (Outcome text) a g one l = g

  -- ## Along its record
  pub record Going (a : Actor) : Type 0 where
    pub good : GoodActor L a
    pub actions : AreActions true a.todo

  pub goes_good : (a : Actor) (r : Record) → FromOne → Going a → LineLearns a r → Going (goes_on a r)
  unfolding goes_on settle_again
  goes_good a r one g l =
      let b : Actor = record a { past = a.past ++ r ∷ [] } in
      let s : GoodActor L (settle (moved_on r b).todo (moved_on r b)) × AreActions true (settle (moved_on r b).todo (moved_on r b)).todo =
      settled_good L (moved_on r b).todo (moved_on r b) (subst (λ (ds : List Action). AreActions true ds) (sym (moved_keeps r b).0) g.actions) (moved_good r b g.good one (learns r l)) in
      record { good = s.0; actions = s.1 }
    where
      learns : (r : Record) → LineLearns a r → LineLearns (record a { past = a.past ++ r ∷ [] }) r
      learns (Call node q t) l = l
      learns (Late node q) l = tt
      learns (Operator node ask done) l = tt
      learns (Outcome text) l = tt

  fresh_good : (n : ℕ) → 1 ≤ n → GoodActor L (fresh_actor true n)
  unfolding fresh_actor
  fresh_good n h = record { holding = new_holding; is = refl; stands = record { held = (held_empty L); images = tt }; other = (new_course n h).other; stage = tt }

  pub begins_good : (n : ℕ) (ds : List Action) → 1 ≤ n → AreActions true ds → Going (settle ds (fresh_actor true n))
  begins_good n ds h is = let s : GoodActor L (settle ds (fresh_actor true n)) × AreActions true (settle ds (fresh_actor true n)).todo =
      settled_good L ds (fresh_actor true n) is (fresh_good n h) in record { good = s.0; actions = s.1 }

-- What an actor has still to say, of any script: each result line that is due claims only what is
-- acknowledged, and its rounds go on as its task says. What its actions leave of that.
use Rattle.std.proofs.Common.{◌≡◌, ℕ, ◌+◌, ◌≤◌, List, [], ◌∷◌, ◌++◌, Bool, true, false, cond, refl, sym, ap, ◌∙◌, subst, arith, length, map, reverse}
use Rattle.std.specs.Prelude.{Option, Some, None, ◌||◌, nat_lt, codes}
use Rattle.journal_core.specs.Limits.{max_number}
use Rattle.journal_core.specs.declared.request.Request.{Request}
use Rattle.journal_core.specs.declared.reply.Reply.TheVariants as reply
use Rattle.journal_core.specs.declared.heard.Heard.{Heard}
use Rattle.journal_core.specs.declared.heard.Heard.TheVariants.{Answer}
use Rattle.edit_ops.specs.Records.{EditView}
use Rattle.ns_edits.specs.Replay.{Applied, All, BadEntry, applied}
use Rattle.writer_core.specs.declared.round.Round.TheVariants as round
use Rattle.writer_core.specs.declared.phase.Phase.{Phase}
use Rattle.writer_core.specs.declared.phase.Phase.TheVariants as phase
use Rattle.writer_core.specs.declared.phase.Aim.TheVariants as aim
use Rattle.writer_core.specs.declared.task.Task.{Task}
use Rattle.writer_core.specs.declared.task.Task.TheVariants as task
use Rattle.writer_core.specs.declared.task.Begun.{Begun}
use Rattle.writer_core.specs.declared.task.Begun.TheVariants as begun
use Rattle.writer_core.specs.Turns.{IsInRound, aim_of}
use Rattle.writer_core.specs.Views.{WriterView}
use Rattle.writer_core.specs.Writer.{is_writing, writer_begun, next_call, writer_stopped}
use Rattle.journal_history.specs.Entries.{Entry}
use Rattle.run_safety.proofs.Safety.{acknowledged_survive}
use Rattle.mesh.specs.declared.whole.Mesh.{Mesh}
use Rattle.play_names.specs.Holding.{Holding, Work, Free, Tails, Logs, Broken, with_work, at_position, save_image, reload_image, min_to_keep}
use Rattle.play_names.specs.Tails.{TailEnd, Caught, Reached, PurgedFrom, BehindBy, TailStep, GoesOn, Ends, Breaks, is_until, pass_begun, up_to, after_applied, pass_end, no_edits, tail_hears}
use Rattle.play_names.specs.Results.{took, dues_aborted, dues_logged, inactive_results, too_long_results, late_none, word}
use Rattle.play_names.specs.Submissions.{Submission, submit_edits, nothing_submitted}
use Rattle.play_names.proofs.HoldingLaws.{reloaded_free}
use Rattle.play_model.specs.Lines.{Action, Does, DoDrop, DoMute, DoLate, Submits, Trims, DoTail, Saves, Reloads}
use Rattle.play_model.specs.Actor.{Actor, fresh_actor, call_wanted, work_read, read_first, wants, is_wanting, is_broken_work, is_broken_holding, is_broken}
use Rattle.play_model.specs.Actor.{tail_text, entry_text, is_entered, not_entered, tail_ended, tail_stepped, task_begun, make_copy, begin_sync, after_sync, logged_when, trim_at}
use Rattle.play_model.specs.Actor.{unless_active, begin_save, begin_reload, take_named_action, take_action, while_wanting, settle}
use Rattle.play_model.proofs.Wanting.{Resting, resting, rests_by}
use Rattle.play_model.proofs.WriterTurns.{has_other, Course, new_course, call_some}
use Rattle.play_laws.specs.Linear.{IsLinear}
use Rattle.play_laws.specs.Acked.{IsAckedBy}
use Rattle.play_laws.proofs.WriterPlaces.{PhasePlace, IsLogIn}
use Rattle.play_laws.proofs.Stages.{RestsAt}
use Rattle.play_laws.proofs.Actions.{BegunWell, begun_well, writing_next, begun_writing, begun_place, log_begun, purge_begun, purge_place, saved_same, or_false}
use Rattle.play_laws.proofs.Keeps.{bodies_of, no_log}
use Rattle.play_laws.proofs.Acks.{Acked}
use Rattle.play_laws.proofs.Claims.{pends_in, AreAsMany, submitted_many, TellAll, one_tells, repeated_tell, inactive_tell, long_tell, lost_tell, none_tell}
use Rattle.play_laws.proofs.Claims.{tail_claims, entry_claims, takeover_tells}

-- ## What a step of a tail leaves
abbrev pub StepShape : Option ℕ → TailStep → Type 0
StepShape until (GoesOn h) = (node : ℕ) × (told : List Heard) × (h.work ≡ Tails until node told)
StepShape until (Ends end h) = h.work ≡ Free
StepShape until (Breaks h) = h.work ≡ Broken

pub pass_shape : (until : Option ℕ) (h : Holding) → StepShape until (pass_begun until h)
unfolding pass_begun
pass_shape until h = by (is_until until h.position)
  where
    by : (b : Bool) → StepShape until (cond b (Ends Reached (with_work Free h)) (GoesOn (with_work (Tails until 1 []) h)))
    by true = refl
    by false = (1, [], refl)

applied_shape : (until : Option ℕ) (x : Applied) (h : Holding) → StepShape until (after_applied until x h)
applied_shape until (All s t) h = pass_shape until (record h { space = s; position = t })
applied_shape until (BadEntry s t) h = refl

none_shape : (nodes : ℕ) (until : Option ℕ) (node : ℕ) (told : List Heard) (h : Holding) → StepShape until (no_edits nodes until node told h)
none_shape nodes until node told h = by (nat_lt node nodes)
  where
    by : (b : Bool) → StepShape until (cond b (GoesOn (with_work (Tails until (node + 1) told) h)) (Ends (pass_end until told) (with_work Free h)))
    by true = (node + 1, told, refl)
    by false = refl

pub tail_shape : (nodes : ℕ) (until : Option ℕ) (node : ℕ) (told : List Heard) (heard : Heard) (h : Holding) → StepShape until (tail_hears nodes until node told heard h)
unfolding tail_hears
tail_shape nodes until node told (Answer (reply.Edits batch)) h = applied_shape until (applied h.position (up_to until h.position batch.bodies) h.space) h
tail_shape nodes until node told heard h = none_shape nodes until node (told ++ heard ∷ []) h

module _ (m : Mesh) (entries : List Entry) (c : ℕ) where
  -- ## What is acknowledged, under some epoch
  abbrev pub AckedOnce : ℕ → List ℕ → Type 0
  AckedOnce t x = (e : ℕ) × Acked m entries c e t x

  -- a takeover's first record
  abbrev pub IsBegun : WriterView → Type 0
  IsBegun w = Acked m entries c w.epoch w.start (24 ∷ [])

  -- ## Where the writer stands
  abbrev pub AtRest : WriterView → Type 0
  AtRest w = (p : ℕ) × RestsAt AckedOnce p w.phase w

  pub record Under (t : Task) (w : WriterView) : Type 0 where
    pub course : Course (aim_of t) w
    pub in_round : IsInRound w.phase
    pub p : ℕ
    pub place : PhasePlace AckedOnce p (aim_of t) w.phase w
    pub is_log : IsLogIn AckedOnce (bodies_of AckedOnce t) (aim_of t) w.phase

  -- as many edits that pend as the task logs; no tail while a task is under way
  abbrev pub Matches : Task → Work → Type 0
  Matches t Free = Unit {0}
  Matches t (Tails until node told) = ⊥
  Matches (task.Log bodies) (Logs ahead dues) = length bodies ≡ pends_in dues
  Matches t (Logs ahead dues) = ⊥
  Matches t Broken = ⊥

  abbrev pub TailFact : Option ℕ → WriterView → Type 0
  TailFact None w = Unit {0}
  TailFact (Some last) w = IsBegun w

  abbrev pub IdleWork : Work → WriterView → Type 0
  IdleWork (Tails until node told) w = TailFact until w
  IdleWork (Logs ahead dues) w = ⊥
  IdleWork _ w = Unit {0}

  abbrev pub Stage : Option Task → Option Holding → WriterView → Type 0
  Stage None None w = AtRest w
  Stage None (Some h) w = AtRest w × IdleWork h.work w
  Stage (Some t) None w = Under t w
  Stage (Some t) (Some h) w = Under t w × Matches t h.work

  pub record TellsBy (says : List (List ℕ)) (doing : Option Task) (w : WriterView) (holds : Option Holding) : Type 0 where
    pub says_all : TellAll m entries c says
    pub other : has_other w.left ≡ true
    pub stage : Stage doing holds w

  abbrev pub Telling : Actor → Type 0
  Telling a = TellsBy a.says a.doing a.writer a.holds

  -- ## Between actions
  abbrev pub IsFree : Option Holding → Type 0
  IsFree None = Unit {0}
  IsFree (Some h) = h.work ≡ Free

  record Quiet (a : Actor) : Type 0 where
    idle : a.doing ≡ None
    rests : AtRest a.writer
    free : IsFree a.holds

  under_wants : (t : Task) (w : WriterView) → Under t w → is_wanting (call_wanted (next_call w)) ≡ false → ⊥
  under_wants t w u e = cc (rests_by (next_call w) e, call_some (aim_of t) w u.course u.in_round)

  work_quiet : (doing : Option Task) (h : Holding) (w : WriterView) (x : Work) → h.work ≡ x → Stage doing (Some (with_work x h)) w
      → is_wanting (work_read x h.position (call_wanted (next_call w))) ≡ false → is_broken_work x ≡ false → (doing ≡ None) × AtRest w × (h.work ≡ Free)
  unfolding is_wanting
  work_quiet None h w Free is s e b = (refl, s.0, is)
  work_quiet None h w (Tails until node told) is s e b = absurd (cc e)
  work_quiet None h w (Logs ahead dues) is s e b = absurd s.1
  work_quiet None h w Broken is s e b = absurd (cc b)
  work_quiet (Some t) h w Free is s e b = absurd (unfold is_wanting in under_wants t w s.0 e)
  work_quiet (Some t) h w (Tails until node told) is s e b = absurd s.1
  work_quiet (Some t) h w (Logs ahead dues) is s e b = absurd (unfold is_wanting in under_wants t w s.0 e)
  work_quiet (Some t) h w Broken is s e b = absurd s.1

  holds_quiet : (doing : Option Task) (holds : Option Holding) (w : WriterView) → Stage doing holds w → is_wanting (read_first holds (call_wanted (next_call w))) ≡ false
      → is_broken_holding holds ≡ false → (doing ≡ None) × AtRest w × IsFree holds
  unfolding read_first
  holds_quiet None None w s e b = (refl, s, tt)
  holds_quiet (Some t) None w s e b = absurd (under_wants t w s e)
  holds_quiet doing (Some h) w s e b = unfold read_first in work_quiet doing h w h.work refl s e b

  quiet_at : (a : Actor) → Telling a → is_wanting (wants a) ≡ false → is_broken a ≡ false → Quiet a
  unfolding is_broken
  quiet_at a g e b =
      let r : Resting a = resting a e in
      let q : (a.doing ≡ None) × AtRest a.writer × IsFree a.holds = holds_quiet a.doing a.holds a.writer g.stage r.want b in
      record { idle = q.0; rests = q.1; free = q.2 }

  -- it says these texts, and holds no work
  pub stage_free : (doing : Option Task) (holds : Option Holding) (w : WriterView) → doing ≡ None → AtRest w → IsFree holds → Stage doing holds w
  stage_free doing None w idle r f = subst (λ (d : Option Task). Stage d None w) (sym idle) r
  stage_free doing (Some h) w idle r f = subst (λ (d : Option Task). Stage d (Some h) w) (sym idle) (r, subst (λ (x : Work). IdleWork x w) (sym f) tt)

  pub says_next : (a : Actor) (texts : List (List ℕ)) (w : WriterView) (holds : Option Holding) → TellAll m entries c texts → a.doing ≡ None → has_other w.left ≡ true → AtRest w → IsFree holds
      → TellsBy texts a.doing w holds
  says_next a texts w holds t idle o r f = record { says_all = t; other = o; stage = stage_free a.doing holds w idle r f }

  module _ (lin : IsLinear m entries) where
    abbrev pub is_acked : (e t : ℕ) (x : List ℕ) → Acked m entries c e t x → IsAckedBy m entries c t
    is_acked e t x a = record {
      epoch = e;
      body = x;
      logged = a.logged;
      acknowledged = a.acknowledged;
      on_line = (acknowledged_survive m.nodes lin.run.0 (reverse entries) lin.run.1 e t x a.acknowledged).0;
    }

    -- ## Tails
    pub took_tells : (w : WriterView) → IsBegun w → TellAll m entries c (took w.epoch w.start ∷ [])
    took_tells w a =
        let epoch : w.epoch ≤ max_number = a.epoch_fits in
        let start : w.start ≤ max_number = a.txid_fits in
        (takeover_tells m entries c w.epoch w.start (omega (arith, epoch)) (omega (arith, start)) (is_acked w.epoch w.start (24 ∷ []) a, refl) refl, tt)

    entered_tells : (h : Holding) (a : Actor) → a.doing ≡ None → has_other a.writer.left ≡ true → AtRest a.writer → IsBegun a.writer → Telling (is_entered h a)
    entered_tells h a idle o r b = says_next a (took a.writer.epoch a.writer.start ∷ []) a.writer (Some (at_position a.writer.start h)) (took_tells a.writer b) idle o r refl

    left_tells : (end : TailEnd) (h : Holding) (a : Actor) → h.work ≡ Free → a.doing ≡ None → has_other a.writer.left ≡ true → Telling (not_entered end h a)
    left_tells end h a free idle o =
        says_next a (entry_text h.position end ∷ []) (writer_stopped a.writer) (Some h) (one_tells m entries c (entry_text h.position end) (entry_claims h.position end)) idle o (0, tt) free

    ended_tells : (until : Option ℕ) (end : TailEnd) (h : Holding) (a : Actor) → h.work ≡ Free → a.doing ≡ None → has_other a.writer.left ≡ true → AtRest a.writer → TailFact until a.writer
        → Telling (tail_ended until end h a)
    unfolding tail_ended
    ended_tells None end h a free idle o r b =
        says_next a (tail_text h.position end ∷ []) a.writer (Some h) (one_tells m entries c (tail_text h.position end) (tail_claims h.position end)) idle o r free
    ended_tells (Some last) Reached h a free idle o r b = entered_tells h a idle o r b
    ended_tells (Some last) Caught h a free idle o r b = left_tells Caught h a free idle o
    ended_tells (Some last) (PurgedFrom first) h a free idle o r b = left_tells (PurgedFrom first) h a free idle o
    ended_tells (Some last) (BehindBy causes) h a free idle o r b = left_tells (BehindBy causes) h a free idle o

    pub stepped_tells : (until : Option ℕ) (x : TailStep) (a : Actor) → StepShape until x → TellAll m entries c a.says → a.doing ≡ None → has_other a.writer.left ≡ true → AtRest a.writer
        → TailFact until a.writer → Telling (tail_stepped until x a)
    unfolding tail_stepped
    stepped_tells until (GoesOn h) a s t idle o r b = record {
      says_all = t;
      other = o;
      stage = subst (λ (d : Option Task). Stage d (Some h) a.writer) (sym idle) (r, subst (λ (x : Work). IdleWork x a.writer) (sym s.2) b);
    }
    stepped_tells until (Ends end h) a s t idle o r b = ended_tells until end h a s idle o r b
    stepped_tells until (Breaks h) a s t idle o r b = record {
      says_all = t;
      other = o;
      stage = subst (λ (d : Option Task). Stage d (Some h) a.writer) (sym idle) (r, subst (λ (x : Work). IdleWork x a.writer) (sym s) tt);
    }

    -- ## Tasks begin
    begun_under : (t : Task) (w : WriterView) → has_other w.left ≡ true → AtRest w → (writer_begun w t).begun ≡ begun.Going → Under t (writer_begun w t).writer
    unfolding writer_begun
    begun_under task.Takeover w o r e =
        let b : BegunWell AckedOnce task.Takeover w = begun_well AckedOnce task.Takeover w o e in
        record {
          course = b.course;
          in_round = b.in_round;
          p = r.0;
          place = begun_place AckedOnce r.0 task.Takeover w tt r.1 e;
          is_log = no_log AckedOnce aim.Takeover (writer_begun w task.Takeover).writer.phase (λ x. tt);
        }
    begun_under task.Roll w o r e =
        let b : BegunWell AckedOnce task.Roll w = begun_well AckedOnce task.Roll w o e in
        record {
          course = b.course;
          in_round = b.in_round;
          p = r.0;
          place = begun_place AckedOnce r.0 task.Roll w tt r.1 e;
          is_log = no_log AckedOnce aim.Roll (writer_begun w task.Roll).writer.phase (λ x. tt);
        }
    begun_under task.Close w o r e =
        let b : BegunWell AckedOnce task.Close w = begun_well AckedOnce task.Close w o e in
        record {
          course = b.course;
          in_round = b.in_round;
          p = r.0;
          place = begun_place AckedOnce r.0 task.Close w tt r.1 e;
          is_log = no_log AckedOnce aim.Close (writer_begun w task.Close).writer.phase (λ x. tt);
        }
    begun_under (task.Purge min) w o r e =
        let b : BegunWell AckedOnce (task.Purge min) w = begun_well AckedOnce (task.Purge min) w o e in
        let writing : is_writing w.phase ≡ true = begun_writing AckedOnce (is_writing w.phase) _ w e in
        let next : w.next ≡ r.0 + 1 = writing_next AckedOnce r.0 w.phase w writing r.1 in
        record {
          course = b.course;
          in_round = b.in_round;
          p = r.0;
          place = purge_place AckedOnce r.0 w min writing next;
          is_log = no_log AckedOnce aim.Purge (writer_begun w (task.Purge min)).writer.phase (λ x. tt);
        }
    begun_under (task.Log bodies) w o r e =
        let b : BegunWell AckedOnce (task.Log bodies) w = begun_well AckedOnce (task.Log bodies) w o e in
        let writing : is_writing w.phase ≡ true = begun_writing AckedOnce (is_writing w.phase) _ w e in
        let next : w.next ≡ r.0 + 1 = writing_next AckedOnce r.0 w.phase w writing r.1 in
        let v : WriterView = (writer_begun w (task.Log bodies)).writer in
        let at : (v.phase ≡ phase.InRound (round.Write bodies)) × (v.next ≡ w.next) = log_begun AckedOnce w bodies e in
        record {
          course = b.course;
          in_round = b.in_round;
          p = r.0;
          place = subst (λ (y : Phase). PhasePlace AckedOnce r.0 aim.Log y v) (sym at.0) (at.1 ∙ next);
          is_log = subst (λ (y : Phase). IsLogIn AckedOnce bodies aim.Log y) (sym at.0) refl;
        }

    stage_under : (t : Task) (holds : Option Holding) (w : WriterView) → Under t w → IsFree holds → Stage (Some t) holds w
    stage_under t None w u f = u
    stage_under t (Some h) w u f = (u, subst (λ (x : Work). Matches t x) (sym f) tt)

    goes_tells : (t : Task) (a : Actor) → Telling a → Quiet a → (writer_begun a.writer t).begun ≡ begun.Going
        → TellsBy a.says (Some t) (writer_begun a.writer t).writer a.holds
    goes_tells t a g q e =
        let u : Under t (writer_begun a.writer t).writer = begun_under t a.writer g.other q.rests e in
        record { says_all = g.says_all; other = u.course.other; stage = stage_under t a.holds (writer_begun a.writer t).writer u q.free }

    -- as it was, but for these texts
    quiet_says : (a : Actor) (texts : List (List ℕ)) → Telling a → Quiet a → TellAll m entries c texts → TellsBy texts a.doing a.writer a.holds
    quiet_says a texts g q t = says_next a texts a.writer a.holds t q.idle g.other q.rests q.free

    does_tells : (t : Task) (a : Actor) (b : Begun) → Telling a → Quiet a → (writer_begun a.writer t).begun ≡ b → Telling (task_begun t (writer_begun a.writer t).writer a b)
    unfolding task_begun
    does_tells t a begun.Going g q e = goes_tells t a g q e
    does_tells t a begun.NotActive g q e = quiet_says a (inactive_results t) g q (inactive_tell m entries c t)
    does_tells t a (begun.TooLong number) g q e = quiet_says a (too_long_results t number) g q (long_tell m entries c t number)

    copied_tells : (node call : ℕ) (o : Option Request) (a : Actor) → Telling a → Quiet a → Telling (make_copy node call o a)
    unfolding make_copy late_none
    copied_tells node call None a g q = quiet_says a (late_none ∷ []) g q (one_tells m entries c late_none refl)
    copied_tells node call (Some r) a g q = g

    -- ## Edits are submitted
    sync_tells : (b : Begun) (x : Submission) (h : Holding) (a : Actor) → Telling a → Quiet a → AreAsMany x → (writer_begun a.writer (task.Log x.bodies)).begun ≡ b
        → Telling (begin_sync b (writer_begun a.writer (task.Log x.bodies)).writer x h a)
    sync_tells begun.Going x h a g q many e =
        let u : Under (task.Log x.bodies) (writer_begun a.writer (task.Log x.bodies)).writer = begun_under (task.Log x.bodies) a.writer g.other q.rests e in
        record { says_all = g.says_all; other = u.course.other; stage = (u, many) }
    sync_tells begun.NotActive x h a g q many e = quiet_says a (dues_aborted (codes "inactive") x.dues) g q (lost_tell m entries c (codes "inactive") x.dues refl)
    sync_tells (begun.TooLong number) x h a g q many e =
        quiet_says a (dues_aborted (word (codes "toolong") number) x.dues) g q (lost_tell m entries c (word (codes "toolong") number) x.dues refl)

    synced_tells : (bodies : List (List ℕ)) (x : Submission) (h : Holding) (a : Actor) → x.bodies ≡ bodies → Telling a → Quiet a → AreAsMany x → Telling (after_sync bodies x h a)
    synced_tells [] x h a is g q many = quiet_says a (dues_logged 0 x.dues) g q (none_tell m entries c 0 x.dues (sym many ∙ ap (λ (l : List (List ℕ)). length l) is))
    synced_tells (b ∷ bs) x h a is g q many = sync_tells (writer_begun a.writer (task.Log x.bodies)).begun x h a g q many refl

    logged_tells : (b : Bool) (es : List EditView) (h : Holding) (a : Actor) → Telling a → Quiet a → Telling (logged_when b es h a)
    unfolding logged_when
    logged_tells true es h a g q =
        let x : Submission = submit_edits a.writer es (nothing_submitted h.space) in
        synced_tells x.bodies x h a refl g q (submitted_many a.writer es (nothing_submitted h.space) refl)
    logged_tells false es h a g q = quiet_says a (map (λ e. codes "inactive") es) g q (repeated_tell m entries c es (codes "inactive") refl)

    -- ## Other actions
    trim_tells : (b : Bool) (min : Option ℕ) (a : Actor) → is_writing a.writer.phase ≡ b → Telling a → Quiet a → Telling (trim_at b min a)
    unfolding trim_at
    trim_tells false min a e g q = quiet_says a (codes "trim inactive" ∷ []) g q (one_tells m entries c (codes "trim inactive") refl)
    trim_tells true None a e g q = quiet_says a (codes "trim noimage" ∷ []) g q (one_tells m entries c (codes "trim noimage") refl)
    trim_tells true (Some min) a e g q = goes_tells (task.Purge min) a g q (purge_begun AckedOnce a.writer min e)

    unless_tells : (b : Bool) (x a : Actor) → Telling x → Telling a → Quiet a → Telling (unless_active b x a)
    unless_tells true x a y g q = quiet_says a (codes "active" ∷ []) g q (one_tells m entries c (codes "active") refl)
    unless_tells false x a y g q = y

    tail_tells : (h : Holding) (a : Actor) → Telling a → Quiet a → Telling (tail_stepped None (pass_begun None h) a)
    tail_tells h a g q = stepped_tells None (pass_begun None h) a (pass_shape None h) g.says_all q.idle g.other q.rests tt

    save_tells : (h : Holding) (a : Actor) → h.work ≡ Free → Telling a → Quiet a → Telling (begin_save h a)
    save_tells h a free g q =
        says_next a (word (codes "checkpoint") h.position ∷ []) a.writer (Some (save_image h))
        (one_tells m entries c (word (codes "checkpoint") h.position) refl) q.idle g.other q.rests ((saved_same AckedOnce h).0 ∙ free)

    reload_tells : (h : Holding) (a : Actor) → Telling a → Quiet a → Telling (begin_reload h a)
    reload_tells h a g q =
        says_next a (word (codes "reload") (reload_image h).position ∷ []) a.writer (Some (reload_image h))
        (one_tells m entries c (word (codes "reload") (reload_image h).position) refl) q.idle g.other q.rests (reloaded_free h)

    held_tells : (d : Action) (o : Option Holding) (a : Actor) → IsFree o → Telling a → Quiet a → Telling (take_named_action d o a)
    unfolding take_named_action
    held_tells (Submits es) (Some h) a f g q = logged_tells (is_writing a.writer.phase) es h a g q
    held_tells (Trims extra) (Some h) a f g q = trim_tells (is_writing a.writer.phase) (min_to_keep extra h.images) a refl g q
    held_tells DoTail (Some h) a f g q = unless_tells (is_writing a.writer.phase) (tail_stepped None (pass_begun None h) a) a (tail_tells h a g q) g q
    held_tells Saves (Some h) a f g q = unless_tells (is_writing a.writer.phase) (begin_save h a) a (save_tells h a f g q) g q
    held_tells Reloads (Some h) a f g q = unless_tells (is_writing a.writer.phase) (begin_reload h a) a (reload_tells h a g q) g q
    held_tells d o a f g q = g

    action_tells : (d : Action) (a : Actor) → Telling a → Quiet a → Telling (take_action d a)
    unfolding take_action
    action_tells (Does t) a g q = does_tells t a (writer_begun a.writer t).begun g q refl
    action_tells (DoDrop node call) a g q = g
    action_tells (DoMute node call) a g q = g
    action_tells (DoLate node call) a g q = copied_tells node call _ a g q
    action_tells (Submits es) a g q = held_tells (Submits es) a.holds a q.free g q
    action_tells (Trims extra) a g q = held_tells (Trims extra) a.holds a q.free g q
    action_tells DoTail a g q = held_tells DoTail a.holds a q.free g q
    action_tells Saves a g q = held_tells Saves a.holds a q.free g q
    action_tells Reloads a g q = held_tells Reloads a.holds a q.free g q

    pub settled_tells : (ds : List Action) (a : Actor) → Telling a → Telling (settle ds a)
    unfolding settle
    settled_tells [] a g = g
    settled_tells (d ∷ ds) a g = by (is_wanting (wants a) || is_broken a) refl (λ x. settled_tells ds (take_action d a) x)
      where
        by : (b : Bool) → (is_wanting (wants a) || is_broken a) ≡ b → (Telling (take_action d a) → Telling (settle ds (take_action d a)))
            → Telling (cond b (record a { todo = while_wanting (is_wanting (wants a)) (d ∷ ds) }) (settle ds (take_action d a)))
        by true e go = g
        by false e go =
            let f : (is_wanting (wants a) ≡ false) × (is_broken a ≡ false) = or_false AckedOnce (is_wanting (wants a)) (is_broken a) e in
            go (action_tells d a g (quiet_at a g f.0 f.1))

    pub fresh_tells : (named : Bool) (n : ℕ) → 1 ≤ n → Telling (fresh_actor named n)
    unfolding fresh_actor
    fresh_tells true n h = record { says_all = tt; other = (new_course n h).other; stage = ((0, tt), tt) }
    fresh_tells false n h = record { says_all = tt; other = (new_course n h).other; stage = (0, tt) }

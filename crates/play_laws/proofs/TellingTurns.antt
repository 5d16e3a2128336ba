-- What an answer leads to: where an actor's task ends, it says only what is acknowledged.
use Rattle.std.proofs.Common.{◌≡◌, ℕ, ◌+◌, ◌-◌, ◌<◌, ◌≤◌, ◌^◌, List, [], ◌∷◌, ◌++◌, true, refl, sym, subst, arith}
use Rattle.std.specs.Prelude.{Option, Some, None, codes}
use Rattle.journal_core.specs.Limits.{max_number}
use Rattle.journal_core.specs.declared.heard.Heard.{Heard}
use Rattle.writer_core.specs.declared.phase.Phase.{Phase}
use Rattle.writer_core.specs.declared.phase.Phase.TheVariants as phase
use Rattle.writer_core.specs.declared.phase.Aim.{Aim}
use Rattle.writer_core.specs.declared.phase.Aim.TheVariants as aim
use Rattle.writer_core.specs.declared.cause.Cause.{Cause}
use Rattle.writer_core.specs.declared.task.Task.{Task}
use Rattle.writer_core.specs.declared.task.Task.TheVariants as task
use Rattle.writer_core.specs.declared.turn.Turn.{Turn}
use Rattle.writer_core.specs.declared.turn.Turn.TheVariants as turn
use Rattle.writer_core.specs.declared.turn.Outcome.{Outcome}
use Rattle.writer_core.specs.declared.turn.Outcome.TheVariants as outcome
use Rattle.writer_core.specs.Turns.{IsOf, IsInRound, aim_of}
use Rattle.writer_core.specs.Views.{WriterView}
use Rattle.writer_core.specs.Rounds.{Judgment}
use Rattle.writer_core.specs.Writer.{writer_heard}
use Rattle.journal_history.specs.Entries.{Entry}
use Rattle.mesh.specs.declared.whole.Mesh.{Mesh}
use Rattle.mesh.proofs.WriterNext.{Next, Stays, Proposes, Stops, Goes, next_of}
use Rattle.play_names.specs.Holding.{Holding, Work, Free, Tails, Logs, Broken, at_position, reload_image, enters}
use Rattle.play_names.specs.Tails.{pass_begun}
use Rattle.play_names.specs.Results.{word, took, acked_from, acknowledged_results, outcome_results, results_of, dues_logged, abort_text}
use Rattle.play_names.proofs.HoldingLaws.{reloaded_free}
use Rattle.play_model.specs.Actor.{Actor, logs_done, task_done, aborted_texts, held_turn, turn_with, turn_taken, after_judgment}
use Rattle.play_model.specs.Safe.{AllOn}
use Rattle.play_model.proofs.WriterTurns.{has_other, Course, TurnOf, Turned, heard_turn}
use Rattle.play_laws.specs.Linear.{IsLinear}
use Rattle.play_laws.specs.Acked.{IsAckedBy, IsRecordBy}
use Rattle.play_laws.proofs.WriterPlaces.{PhasePlace, OutcomePlace, TurnPlace, HearsAt, heard_place, hears_more}
use Rattle.play_laws.proofs.Stages.{RestsAt, rests_writing}
use Rattle.play_laws.proofs.Keeps.{bodies_of, no_log, same_heard, rests_between}
use Rattle.play_laws.proofs.Acks.{Acked}
use Rattle.play_laws.proofs.Claims.{TellAll, one_tells, lost_tell, aborted_tell, logged_tell, acked_tell, roll_tells, close_tells, abort_claims, trim_claims}
use Rattle.play_laws.proofs.Telling.{AckedOnce, IsBegun, AtRest, Under, Matches, Stage, TellsBy, Telling, IsFree, says_next, is_acked, took_tells, stepped_tells, pass_shape}

-- a segment that is opened is of the epoch that the writer had
opened_epoch : (w : WriterView) (k : ℕ) (h : Heard) (v : WriterView) → Next w k h v → v.phase ≡ phase.Writing → v.epoch ≡ w.epoch
opened_epoch w k h _ (Stays r p) e = refl
opened_epoch w k h _ (Proposes u is p s) e = absurd (cc (p, e))
opened_epoch w k h _ (Stops u p) e = absurd (cc (p, e))
opened_epoch w k h _ (Goes u r p d same l) e = same

epoch_kept : (w : WriterView) (k : ℕ) (h : Heard) → IsInRound w.phase → (writer_heard w k h).writer.phase ≡ phase.Writing → (writer_heard w k h).writer.epoch ≡ w.epoch
epoch_kept w k h i e = by w.phase refl i
  where
    by : (x : Phase) → w.phase ≡ x → IsInRound x → (writer_heard w k h).writer.epoch ≡ w.epoch
    by (phase.InRound r) is i = opened_epoch w k h (writer_heard w k h).writer (next_of w r k h is) e
    by phase.Idle is i = absurd i
    by phase.Writing is i = absurd i
    by phase.Stopped is i = absurd i

takes_place : (L : ℕ → List ℕ → Type 0) (x : Phase) (w : WriterView) → PhasePlace L 0 aim.Takeover x w
takes_place L (phase.InRound r) w = tt
takes_place L phase.Idle w = tt
takes_place L phase.Writing w = tt
takes_place L phase.Stopped w = tt

module _ (m : Mesh) (entries : List Entry) (c : ℕ) where
  abbrev L : ℕ → List ℕ → Type 0
  L = AckedOnce m entries c

  -- ## What an answer leads to
  -- at the end of a task that was done
  abbrev Told : List (List ℕ) → Outcome → WriterView → Type 0
  Told bodies (outcome.Takeover epoch first) v = (v.phase ≡ phase.Writing) × (v.next ≡ first + 1) × IsBegun m entries c v × (v.epoch ≡ epoch) × (v.start ≡ first)
  Told bodies (outcome.Log first last) v = (v.phase ≡ phase.Writing) × (v.next ≡ last + 1) × ((p : ℕ) × (first ≡ p + 1) × AllOn L p bodies)
  Told bodies (outcome.Roll start) v = (v.phase ≡ phase.Writing) × (v.next ≡ start + 1) × ((p : ℕ) × (start ≡ p + 2) × L (p + 1) (23 ∷ []) × L (p + 2) (24 ∷ []))
  Told bodies (outcome.Close last) v = (v.phase ≡ phase.Idle) × L last (23 ∷ [])
  Told bodies outcome.Purge v = (v.phase ≡ phase.Writing) × ((p : ℕ) × (v.next ≡ p + 1))

  abbrev TurnTold : Task → Turn → WriterView → Type 0
  TurnTold t turn.Going v = Under m entries c t v
  TurnTold t (turn.Done o) v = IsOf (aim_of t) o × Told (bodies_of L t) o v
  TurnTold t turn.Aborted v = v.phase ≡ phase.Stopped
  TurnTold t (turn.EpochLimit told) v = (aim_of t ≡ aim.Takeover) × (v.phase ≡ phase.Stopped)

  done_told : (p : ℕ) (bodies : List (List ℕ)) (a : Aim) (o : Outcome) (v : WriterView) → (a ≡ aim.Takeover → ⊥) → IsOf a o → OutcomePlace L p bodies o v → Told bodies o v
  done_told p bodies aim.Log (outcome.Log first last) v off i pl = (pl.0, pl.1, (p, pl.4, pl.3))
  done_told p bodies aim.Roll (outcome.Roll start) v off i pl = (pl.0, pl.1, (p, pl.2, pl.3, pl.4))
  done_told p bodies aim.Close (outcome.Close last) v off i pl = (pl.0, subst (λ (k : ℕ). L k (23 ∷ [])) (sym pl.1) pl.2)
  done_told p bodies aim.Purge outcome.Purge v off i pl = (pl.0, (p, pl.1))
  done_told p bodies aim.Takeover o v off i pl = absurd (off refl)
  done_told p bodies _ _ v off i pl = absurd i

  told_by : (t : Task) (p : ℕ) (tn : Turn) (v : WriterView) → (aim_of t ≡ aim.Takeover → ⊥) → Course (aim_of t) v → TurnOf (aim_of t) v.phase tn
      → TurnPlace L p (bodies_of L t) (aim_of t) tn v → TurnTold t tn v
  told_by t p turn.Going v off c i pl = record { course = c; in_round = i; p = p; place = pl.0; is_log = pl.1 }
  told_by t p (turn.Done o) v off c i pl = (i.0, done_told p (bodies_of L t) (aim_of t) o v off i.0 pl)
  told_by t p turn.Aborted v off c i pl = pl
  told_by t p (turn.EpochLimit told) v off c i pl = (i.0, pl)

  -- a takeover, whose first record stands under its epoch
  taken_by : (tn : Turn) (v : WriterView) (e : ℕ) → Course aim.Takeover v → TurnOf aim.Takeover v.phase tn → (v.phase ≡ phase.Writing → v.epoch ≡ e)
      → TurnPlace (Acked m entries c e) 0 [] aim.Takeover tn v → TurnTold task.Takeover tn v
  taken_by turn.Going v e course i same pl = record { course = course; in_round = i; p = 0; place = takes_place L v.phase v; is_log = no_log L aim.Takeover v.phase (λ r. tt) }
  taken_by (turn.Done (outcome.Takeover epoch first)) v e course i same pl =
      let begun : Acked m entries c e v.start (24 ∷ []) = subst (λ (k : ℕ). Acked m entries c e k (24 ∷ [])) (sym pl.1) pl.3 in
      (tt, (pl.0, pl.2, subst (λ (k : ℕ). Acked m entries c k v.start (24 ∷ [])) (sym (same pl.0)) begun, pl.4, pl.1))
  taken_by (turn.Done _) v e course i same pl = absurd i.0
  taken_by turn.Aborted v e course i same pl = pl
  taken_by (turn.EpochLimit told) v e course i same pl = (refl, pl)

  other_told : (t : Task) (w : WriterView) (node : ℕ) (heard : Heard) → (aim_of t ≡ aim.Takeover → ⊥) → Under m entries c t w → HearsAt (Acked m entries c w.epoch) w.phase w node heard
      → TurnTold t (writer_heard w node heard).turn (writer_heard w node heard).writer
  other_told t w node heard off u h =
      let j : Judgment = writer_heard w node heard in
      let z : Turned (aim_of t) j = heard_turn (aim_of t) w node heard u.course u.in_round in
      told_by t u.p j.turn j.writer off z.course z.turn
      (heard_place L u.p (bodies_of L t) (aim_of t) w node heard u.course u.in_round u.is_log u.place
      (hears_more (Acked m entries c w.epoch) L (λ k x a. (w.epoch, a)) w.phase w node heard h))

  heard_told : (t : Task) (w : WriterView) (node : ℕ) (heard : Heard) → Under m entries c t w → HearsAt (Acked m entries c w.epoch) w.phase w node heard
      → TurnTold t (writer_heard w node heard).turn (writer_heard w node heard).writer
  heard_told task.Takeover w node heard u h =
      let j : Judgment = writer_heard w node heard in
      let z : Turned aim.Takeover j = heard_turn aim.Takeover w node heard u.course u.in_round in
      taken_by j.turn j.writer w.epoch z.course z.turn (epoch_kept w node heard u.in_round)
      (heard_place (Acked m entries c w.epoch) 0 [] aim.Takeover w node heard u.course u.in_round
      (no_log (Acked m entries c w.epoch) aim.Takeover w.phase (λ r. tt)) (takes_place (Acked m entries c w.epoch) w.phase w) h)
  heard_told (task.Log bodies) w node heard u h = other_told (task.Log bodies) w node heard (λ e. cc e) u h
  heard_told task.Roll w node heard u h = other_told task.Roll w node heard (λ e. cc e) u h
  heard_told task.Close w node heard u h = other_told task.Close w node heard (λ e. cc e) u h
  heard_told (task.Purge min) w node heard u h = other_told (task.Purge min) w node heard (λ e. cc e) u h

  -- ## The writer, once its task is over
  rests_stopped : (v : WriterView) → v.phase ≡ phase.Stopped → AtRest m entries c v
  rests_stopped v e = (0, subst (λ (x : Phase). RestsAt L 0 x v) (sym e) tt)

  rests_done : (bodies : List (List ℕ)) (o : Outcome) (v : WriterView) → Told bodies o v → AtRest m entries c v
  rests_done bodies (outcome.Takeover epoch first) v d = (first, rests_writing L first v d.0 d.1)
  rests_done bodies (outcome.Log first last) v d = (last, rests_writing L last v d.0 d.1)
  rests_done bodies (outcome.Roll start) v d = (start, rests_writing L start v d.0 d.1)
  rests_done bodies (outcome.Close last) v d = (0, subst (λ (x : Phase). RestsAt L 0 x v) (sym d.0) tt)
  rests_done bodies outcome.Purge v d = (d.1.0, rests_writing L d.1.0 v d.0 d.1.1)

  module _ (lin : IsLinear m entries) where
    -- ## What is said then
    once_acked : (t : ℕ) (x : List ℕ) → L t x → (t < 2 ^ 64) × IsAckedBy m entries c t
    once_acked t x l = let fits : t ≤ max_number = l.1.txid_fits in (omega (arith, fits), is_acked m entries c lin l.0 t x l.1)

    record_by : (t : ℕ) (x : List ℕ) → L t x → IsRecordBy m entries c t (x ∷ [])
    record_by t x l = (is_acked m entries c lin l.0 t x l.1, refl)

    roll_says : (start p : ℕ) → start ≡ p + 2 → L (p + 1) (23 ∷ []) → L (p + 2) (24 ∷ []) → TellAll m entries c (word (codes "roll") start ∷ [])
    roll_says start p at last first =
        let begins : L start (24 ∷ []) = subst (λ (k : ℕ). L k (24 ∷ [])) (sym at) first in
        let before : p + 1 ≡ start - 1 = omega (arith, at) in
        let ends : L (start - 1) (23 ∷ []) = subst (λ (k : ℕ). L k (23 ∷ [])) before last in
        (roll_tells m entries c start (once_acked start (24 ∷ []) begins).0 (record_by start (24 ∷ []) begins) (record_by (start - 1) (23 ∷ []) ends), tt)

    close_says : (last : ℕ) → L last (23 ∷ []) → TellAll m entries c (word (codes "close") last ∷ [])
    close_says last l = (close_tells m entries c last (once_acked last (23 ∷ []) l).0 (record_by last (23 ∷ []) l), tt)

    -- without names
    outcome_tells : (t : Task) (o : Outcome) (v : WriterView) → IsOf (aim_of t) o → Told (bodies_of L t) o v → TellAll m entries c (outcome_results t o)
    unfolding outcome_results acknowledged_results
    outcome_tells task.Takeover (outcome.Takeover epoch first) v i d =
        subst (λ (k : ℕ). TellAll m entries c (took k first ∷ [])) d.3 (subst (λ (k : ℕ). TellAll m entries c (took v.epoch k ∷ [])) d.4 (took_tells m entries c lin v d.2))
    outcome_tells (task.Log bodies) (outcome.Log first last) v i d =
        subst (λ (k : ℕ). TellAll m entries c (acked_from k bodies)) (sym d.2.1) (acked_tell m entries c L once_acked d.2.0 bodies d.2.2)
    outcome_tells task.Roll (outcome.Roll start) v i d = roll_says start d.2.0 d.2.1 d.2.2 d.2.3
    outcome_tells task.Close (outcome.Close last) v i d = close_says last d.1
    outcome_tells (task.Purge min) outcome.Purge v i d = one_tells m entries c (codes "purge ok") refl
    outcome_tells _ _ v i d = absurd i

    results_tell : (t : Task) (tn : Turn) (v : WriterView) (causes : List Cause) → TurnTold t tn v → TellAll m entries c (results_of t tn causes)
    unfolding results_of
    results_tell t turn.Going v causes d = tt
    results_tell t (turn.Done o) v causes d = outcome_tells t o v d.0 d.1
    results_tell t turn.Aborted v causes d = aborted_tell m entries c t causes
    results_tell t (turn.EpochLimit told) v causes d = one_tells m entries c (word (codes "takeover limit") told) refl

    -- with names
    matches_free : (t : Task) (x : Work) → (aim_of t ≡ aim.Log → ⊥) → Matches m entries c t x → x ≡ Free
    matches_free t Free off h = refl
    matches_free t (Tails until node told) off h = absurd h
    matches_free (task.Log bodies) (Logs ahead dues) off h = absurd (off refl)
    matches_free task.Takeover (Logs ahead dues) off h = absurd h
    matches_free task.Roll (Logs ahead dues) off h = absurd h
    matches_free task.Close (Logs ahead dues) off h = absurd h
    matches_free (task.Purge min) (Logs ahead dues) off h = absurd h
    matches_free t Broken off h = absurd h

    aborted_says : (x : Work) (t : Task) (causes : List Cause) → Matches m entries c t x → TellAll m entries c (aborted_texts x t causes)
    aborted_says (Logs ahead dues) t causes h = lost_tell m entries c (abort_text causes) dues (abort_claims causes)
    aborted_says Free (task.Purge min) causes h = one_tells m entries c (codes "trim " ++ abort_text causes) (trim_claims causes)
    aborted_says Free task.Takeover causes h = aborted_tell m entries c task.Takeover causes
    aborted_says Free (task.Log bodies) causes h = aborted_tell m entries c (task.Log bodies) causes
    aborted_says Free task.Roll causes h = aborted_tell m entries c task.Roll causes
    aborted_says Free task.Close causes h = aborted_tell m entries c task.Close causes
    aborted_says (Tails until node told) t causes h = absurd h
    aborted_says Broken t causes h = absurd h

    -- an actor with its task over, and nothing said yet
    record Over (a : Actor) (h : Holding) : Type 0 where
      says_all : TellAll m entries c a.says
      idle : a.doing ≡ None
      holds : a.holds ≡ Some h
      other : has_other a.writer.left ≡ true

    over_says : (a : Actor) (h : Holding) (texts : List (List ℕ)) (holds : Option Holding) → Over a h → TellAll m entries c texts → AtRest m entries c a.writer → IsFree m entries c holds
        → TellsBy m entries c texts a.doing a.writer holds
    over_says a h texts holds o t r f = says_next m entries c a texts a.writer holds t o.idle o.other r f

    over_free : (a : Actor) (h : Holding) → Over a h → h.work ≡ Free → IsFree m entries c a.holds
    over_free a h o f = subst (λ (x : Option Holding). IsFree m entries c x) (sym o.holds) f

    logs_tells : (x : Work) (bodies : List (List ℕ)) (first last : ℕ) (h : Holding) (a : Actor) → h.work ≡ x → Over a h → Told bodies (outcome.Log first last) a.writer
        → Matches m entries c (task.Log bodies) x → Telling m entries c (logs_done x first last h a)
    unfolding logs_done
    logs_tells (Logs ahead dues) bodies first last h a is o d many =
        over_says a h (dues_logged first dues) (Some (record h { space = ahead; position = last; work = Free })) o
        (subst (λ (k : ℕ). TellAll m entries c (dues_logged k dues)) (sym d.2.1) (logged_tell m entries c L once_acked d.2.0 bodies dues d.2.2 many))
        (rests_done bodies (outcome.Log first last) a.writer d) refl
    logs_tells Free bodies first last h a is o d many = over_says a h a.says a.holds o o.says_all (rests_done bodies (outcome.Log first last) a.writer d) (over_free a h o is)
    logs_tells (Tails until node told) bodies first last h a is o d many = absurd many
    logs_tells Broken bodies first last h a is o d many = absurd many

    done_tells : (t : Task) (x : Outcome) (h : Holding) (a : Actor) → IsOf (aim_of t) x → Told (bodies_of L t) x a.writer → Matches m entries c t h.work → Over a h
        → Telling m entries c (task_done x t h a)
    unfolding task_done
    done_tells task.Takeover (outcome.Takeover epoch first) h a i d f o =
        stepped_tells m entries c lin (Some (first - 1)) (pass_begun (Some (first - 1)) (enters (first - 1) h)) a (pass_shape (Some (first - 1)) (enters (first - 1) h))
        o.says_all o.idle o.other (rests_done [] (outcome.Takeover epoch first) a.writer d) d.2
    done_tells (task.Log bodies) (outcome.Log first last) h a i d f o = logs_tells h.work bodies first last h a refl o d f
    done_tells task.Roll (outcome.Roll start) h a i d f o =
        over_says a h (word (codes "roll") start ∷ []) (Some (at_position start h)) o (roll_says start d.2.0 d.2.1 d.2.2 d.2.3) (rests_done [] (outcome.Roll start) a.writer d) refl
    done_tells task.Close (outcome.Close last) h a i d f o =
        over_says a h (word (codes "close") last ∷ []) (Some (at_position last h)) o (close_says last d.1) (rests_done [] (outcome.Close last) a.writer d) refl
    done_tells (task.Purge min) outcome.Purge h a i d f o =
        over_says a h (word (codes "trim") min ∷ []) a.holds o (one_tells m entries c (word (codes "trim") min) refl) (rests_done [] outcome.Purge a.writer d)
        (over_free a h o (matches_free (task.Purge min) h.work (λ e. cc e) f))
    done_tells _ _ h a i d f o = absurd i

    held_tells : (tn : Turn) (t : Task) (h : Holding) (a : Actor) → TurnTold t tn a.writer → Matches m entries c t h.work → Over a h → (tn ≡ turn.Going → ⊥) → Telling m entries c (held_turn tn t h a)
    unfolding held_turn
    held_tells turn.Going t h a d f o off = absurd (off refl)
    held_tells (turn.Done x) t h a d f o off = done_tells t x h a d.0 d.1 f o
    held_tells turn.Aborted t h a d f o off =
        over_says a h (aborted_texts h.work t a.writer.causes) (Some (reload_image h)) o (aborted_says h.work t a.writer.causes f) (rests_stopped a.writer d) (reloaded_free h)
    held_tells (turn.EpochLimit told) t h a d f o off =
        over_says a h (word (codes "takeover limit") told ∷ []) a.holds o (one_tells m entries c (word (codes "takeover limit") told) refl) (rests_stopped a.writer d.1)
        (over_free a h o (matches_free t h.work (λ e. cc (e, d.0)) f))

    -- ## A task goes on, or is over
    abbrev HoldsMatch : Task → Option Holding → Type 0
    HoldsMatch t None = Unit {0}
    HoldsMatch t (Some h) = Matches m entries c t h.work

    rests_over : (t : Task) (tn : Turn) (v : WriterView) → TurnTold t tn v → (tn ≡ turn.Going → ⊥) → AtRest m entries c v
    rests_over t turn.Going v d off = absurd (off refl)
    rests_over t (turn.Done o) v d off = rests_done (bodies_of L t) o v d.1
    rests_over t turn.Aborted v d off = rests_stopped v d
    rests_over t (turn.EpochLimit told) v d off = rests_stopped v d.1

    with_tells : (tn : Turn) (t : Task) (holds : Option Holding) (a : Actor) → a.holds ≡ holds → HoldsMatch t holds → a.doing ≡ None → has_other a.writer.left ≡ true → TellAll m entries c a.says
        → TurnTold t tn a.writer → (tn ≡ turn.Going → ⊥) → Telling m entries c (turn_with holds tn t a)
    unfolding turn_with
    with_tells tn t None a is f idle other s d off =
        says_next m entries c a (results_of t tn a.writer.causes) a.writer a.holds (results_tell t tn a.writer a.writer.causes d) idle other (rests_over t tn a.writer d off)
        (subst (λ (x : Option Holding). IsFree m entries c x) (sym is) tt)
    with_tells tn t (Some h) a is f idle other s d off = held_tells tn t h a d f (record { says_all = s; idle = idle; holds = is; other = other }) off

    under_stage : (t : Task) (holds : Option Holding) (v : WriterView) → Under m entries c t v → HoldsMatch t holds → Stage m entries c (Some t) holds v
    under_stage t None v u f = u
    under_stage t (Some h) v u f = (u, f)

    turn_tells : (tn : Turn) (t : Task) (a : Actor) (v : WriterView) → TurnTold t tn v → has_other v.left ≡ true → TellAll m entries c a.says → a.doing ≡ Some t → HoldsMatch t a.holds
        → Telling m entries c (turn_taken tn (Some t) (record a { writer = v }))
    unfolding turn_taken
    turn_tells turn.Going t a v d other s is f = record {
      says_all = s;
      other = other;
      stage = subst (λ (x : Option Task). Stage m entries c x a.holds v) (sym is) (under_stage t a.holds v d f);
    }
    turn_tells (turn.Done o) t a v d other s is f = with_tells (turn.Done o) t a.holds (record a { writer = v; doing = None }) refl f refl other s d (λ e. cc e)
    turn_tells turn.Aborted t a v d other s is f = with_tells turn.Aborted t a.holds (record a { writer = v; doing = None }) refl f refl other s d (λ e. cc e)
    turn_tells (turn.EpochLimit told) t a v d other s is f = with_tells (turn.EpochLimit told) t a.holds (record a { writer = v; doing = None }) refl f refl other s d (λ e. cc e)

    -- ## The writer hears
    rest_of : (holds : Option Holding) (w : WriterView) → Stage m entries c None holds w → AtRest m entries c w
    rest_of None w s = s
    rest_of (Some h) w s = s.0

    under_of : (t : Task) (holds : Option Holding) (w : WriterView) → Stage m entries c (Some t) holds w → Under m entries c t w
    under_of t None w s = s
    under_of t (Some h) w s = s.0

    match_of : (t : Task) (holds : Option Holding) (w : WriterView) → Stage m entries c (Some t) holds w → HoldsMatch t holds
    match_of t None w s = tt
    match_of t (Some h) w s = s.1

    pub writer_tells : (a : Actor) (node : ℕ) (heard : Heard) → Telling m entries c a → HearsAt (Acked m entries c a.writer.epoch) a.writer.phase a.writer node heard
        → Telling m entries c (after_judgment (writer_heard a.writer node heard) a)
    unfolding turn_taken
    writer_tells a node heard g h = by a.doing refl
      where
        j : Judgment
        j = writer_heard a.writer node heard

        at : (d : Option Task) → a.doing ≡ d → Stage m entries c d a.holds a.writer
        at d is = subst (λ (x : Option Task). Stage m entries c x a.holds a.writer) is g.stage

        by : (d : Option Task) → a.doing ≡ d → Telling m entries c (after_judgment j a)
        by None is =
            let r : AtRest m entries c a.writer = rest_of a.holds a.writer (at None is) in
            subst (λ (k : Judgment). Telling m entries c (after_judgment k a)) (sym (same_heard L a.writer node heard (rests_between L r.0 a.writer.phase a.writer r.1))) g
        by (Some t) is =
            let u : Under m entries c t a.writer = under_of t a.holds a.writer (at (Some t) is) in
            let z : Turned (aim_of t) j = heard_turn (aim_of t) a.writer node heard u.course u.in_round in
            subst (λ (x : Option Task). Telling m entries c (turn_taken j.turn x (record a { writer = j.writer }))) (sym is)
            (unfold turn_taken in turn_tells j.turn t a j.writer (heard_told t a.writer node heard u h) z.course.other g.says_all is (match_of t a.holds a.writer (at (Some t) is)))

-- What comes of a task, of its beginning and its end.
use Rattle.std.proofs.Common.{◌≡◌, ℕ, List, Bool, true, false, refl, sym, ap, ◌∙◌, subst}
use Rattle.std.specs.Prelude.{◌≢◌}
use Rattle.journal_core.specs.declared.peer_call.PeerCall.{PeerCall}
use Rattle.writer_core.specs.declared.cause.Cause.{Cause}
use Rattle.writer_core.specs.declared.phase.Phase.{Phase}
use Rattle.writer_core.specs.declared.phase.Phase.TheVariants as phase
use Rattle.writer_core.specs.declared.phase.Aim.{Aim}
use Rattle.writer_core.specs.declared.phase.Aim.TheVariants as aim
use Rattle.writer_core.specs.declared.task.Task.{Task}
use Rattle.writer_core.specs.declared.task.Task.TheVariants as task
use Rattle.writer_core.specs.declared.task.Begun.{Begun}
use Rattle.writer_core.specs.declared.task.Begun.TheVariants as begun
use Rattle.writer_core.specs.declared.turn.Turn.{Turn}
use Rattle.writer_core.specs.declared.turn.Turn.TheVariants as turn
use Rattle.writer_core.specs.declared.turn.Outcome.{Outcome}
use Rattle.writer_core.specs.Views.{WriterView}
use Rattle.writer_core.specs.Rounds.{Judgment}
use Rattle.writer_core.specs.Writer.{Began, writer_begun, writer_stopped, log_limit, log_begins, is_writing, if_writing}
use Rattle.writer_core.specs.Turns.{aim_of, IsOf, IsInRound, IsTurnOf, phase_after}
use Rattle.writer_core.proofs.LiveLaws.{begun_live, stopped_live}
use Rattle.writer_core.proofs.TaskTurns.{Begins, begun_turn}
use Rattle.writer_calls.specs.declared.came.Came.{Came}
use Rattle.writer_calls.specs.declared.came.Came.TheVariants as came
use Rattle.writer_calls.specs.Led.{nodes_of, Leads}
use Rattle.writer_calls.specs.Ready.{IsReady}
use Rattle.writer_calls.specs.Tasks.{Refuses, Ends, GivesUp, Comes, IsOwn, IsEnd, CameOf}

-- ## A task that begins, or is refused
pub begins_ready : (t : Task) (old new : WriterView) (b : Begun) → IsReady old → writer_begun old t ≡ record { writer = new; begun = b } → IsReady new
begins_ready t old new b r e =
    let turn = begun_turn t old in
    let w : (writer_begun old t).writer ≡ new = ap (λ x. x.writer) e in
    subst (λ (v : WriterView). IsReady v) w (record { live = begun_live old t r.live; apt = turn.apt r.apt })

pub begins_nodes : (t : Task) (old new : WriterView) (b : Begun) → writer_begun old t ≡ record { writer = new; begun = b } → nodes_of new ≡ nodes_of old
begins_nodes t old new b e = let w : (writer_begun old t).writer ≡ new = ap (λ x. x.writer) e in sym (ap nodes_of w) ∙ (begun_turn t old).left

pub begins_round : (t : Task) (old new : WriterView) → writer_begun old t ≡ record { writer = new; begun = begun.Going } → IsInRound new.phase
begins_round t old new e =
    let w : (writer_begun old t).writer ≡ new = ap (λ x. x.writer) e in
    subst (λ (v : WriterView). IsInRound v.phase) w ((begun_turn t old).under_way (ap (λ x. x.begun) e))

begins_aim : (t : Task) (old new : WriterView) → writer_begun old t ≡ record { writer = new; begun = begun.Going } → new.aim ≡ aim_of t
begins_aim t old new e = let w : (writer_begun old t).writer ≡ new = ap (λ x. x.writer) e in ap (λ v. v.aim) (sym w) ∙ (begun_turn t old).aim (ap (λ x. x.begun) e)

refuses : (t : Task) (old new : WriterView) (calls : List PeerCall) (b : Begun) → b ≢ begun.Going → writer_begun old t ≡ record { writer = new; begun = b } → Refuses t old calls new calls b
refuses t old new calls b n e =
    let is : (writer_begun old t).begun ≡ b = ap (λ x. x.begun) e in
    let w : (writer_begun old t).writer ≡ new = ap (λ x. x.writer) e in
    record { refused = is; same = sym w ∙ (begun_turn t old).refused (λ h. n (sym is ∙ h)); none = refl }

pub inactive : (t : Task) (old new : WriterView) (calls : List PeerCall) → writer_begun old t ≡ record { writer = new; begun = begun.NotActive } → Comes t old calls new calls came.NotActive
inactive t old new calls e = refuses t old new calls begun.NotActive (λ h. cc) e

pub too_long : (t : Task) (old new : WriterView) (calls : List PeerCall) (number : ℕ) → writer_begun old t ≡ record { writer = new; begun = begun.TooLong number }
    → Comes t old calls new calls (came.TooLong number)
too_long t old new calls number e = refuses t old new calls (begun.TooLong number) (λ h. cc) e

-- a takeover is never refused, and only a log is too long
pub inactive_own : (t : Task) (old new : WriterView) → writer_begun old t ≡ record { writer = new; begun = begun.NotActive } → IsOwn (aim_of t) came.NotActive
unfolding writer_begun
inactive_own task.Takeover old new e = absurd (cc (ap (λ x. x.begun) e))
inactive_own (task.Log bodies) old new e = λ h. cc
inactive_own task.Roll old new e = λ h. cc
inactive_own task.Close old new e = λ h. cc
inactive_own (task.Purge min) old new e = λ h. cc

if_long : (b : Bool) (w v : WriterView) (number : ℕ) → (if_writing b (record { writer = v; begun = begun.Going }) w).begun ≡ begun.TooLong number → ⊥
if_long true w v number e = cc
if_long false w v number e = cc

pub too_long_own : (t : Task) (old new : WriterView) (number : ℕ) → writer_begun old t ≡ record { writer = new; begun = begun.TooLong number } → IsOwn (aim_of t) (came.TooLong number)
unfolding writer_begun
too_long_own task.Takeover old new number e = absurd (cc (ap (λ x. x.begun) e))
too_long_own (task.Log bodies) old new number e = refl
too_long_own task.Roll old new number e = absurd (if_long (is_writing old.phase) old _ number (ap (λ x. x.begun) e))
too_long_own task.Close old new number e = absurd (if_long (is_writing old.phase) old _ number (ap (λ x. x.begun) e))
too_long_own (task.Purge min) old new number e = absurd (if_long (is_writing old.phase) old _ number (ap (λ x. x.begun) e))

-- ## A task that ends
led_from : (t : Task) (old v : WriterView) (before after : List PeerCall) (here : Judgment) → writer_begun old t ≡ record { writer = v; begun = begun.Going }
    → Leads v before after here → Leads (writer_begun old t).writer before after here
led_from t old v before after here e l =
    let w : v ≡ (writer_begun old t).writer = sym (ap (λ x. x.writer) e) in subst (λ (x : WriterView). Leads x before after here) w l

ends : (t : Task) (old v : WriterView) (before : List PeerCall) (new : WriterView) (after : List PeerCall) (u end : Turn) (p : Phase)
    → writer_begun old t ≡ record { writer = v; begun = begun.Going } → Leads v before after (record { writer = new; turn = u }) → u ≡ end → new.phase ≡ p
    → Ends t old before new after end p
ends t old v before new after u end p e l same stands = record {
  begun = ap (λ x. x.begun) e;
  calls = led_from t old v before after (record { writer = new; turn = end }) e (subst (λ (x : Turn). Leads v before after (record { writer = new; turn = x })) same l);
  phase = stands;
}

own_turn : (a : Aim) (p : Phase) (u end : Turn) → u ≡ end → IsEnd a p u → IsTurnOf a p end
own_turn a p u end same h = subst (λ (x : Turn). IsTurnOf a p x) same h.own

stopped_same : (w : WriterView) → w.phase ≡ phase.Stopped → w ≡ writer_stopped w
stopped_same w e = ap (λ (p : Phase). record w { phase = p }) e

pub ended : (t : Task) (old v : WriterView) (before : List PeerCall) (new : WriterView) (after : List PeerCall) (u : Turn) (c : Came)
    → writer_begun old t ≡ record { writer = v; begun = begun.Going } → Leads v before after (record { writer = new; turn = u }) → IsEnd v.aim new.phase u → CameOf u new.causes c
    → Comes t old before new after c
ended t old v before new after u came.NotActive e l h m = absurd m
ended t old v before new after u (came.TooLong number) e l h m = absurd m
ended t old v before new after u (came.Done o) e l h m = ends t old v before new after u (turn.Done o) (phase_after o) e l m (own_turn v.aim new.phase u (turn.Done o) m h).1
ended t old v before new after u (came.Aborted causes) e l h m = (ends t old v before new after u turn.Aborted phase.Stopped e l m.0 (own_turn v.aim new.phase u turn.Aborted m.0 h), m.1)
ended t old v before new after u (came.EpochLimit told) e l h m = ends t old v before new after u (turn.EpochLimit told) phase.Stopped e l m (own_turn v.aim new.phase u (turn.EpochLimit told) m h).1
ended t old v before new after u came.OutOfMemory e l h m = record {
  here = record { writer = new; turn = u };
  begun = ap (λ x. x.begun) e;
  calls = led_from t old v before after (record { writer = new; turn = u }) e l;
  stopped = stopped_same new (own_turn v.aim new.phase u turn.Aborted m h);
}

pub gives_up : (t : Task) (old v : WriterView) (before : List PeerCall) (new last : WriterView) (after : List PeerCall) (u : Turn)
    → writer_begun old t ≡ record { writer = v; begun = begun.Going } → Leads v before after (record { writer = last; turn = u }) → new ≡ writer_stopped last
    → Comes t old before new after came.OutOfMemory
gives_up t old v before new last after u e l s = record {
  here = record { writer = last; turn = u };
  begun = ap (λ x. x.begun) e;
  calls = led_from t old v before after (record { writer = last; turn = u }) e l;
  stopped = s;
}

pub own_by : (a : Aim) (p : Phase) (u : Turn) (causes : List Cause) (c : Came) → IsEnd a p u → CameOf u causes c → IsOwn a c
own_by a p u causes came.NotActive h m = absurd m
own_by a p u causes (came.TooLong number) h m = absurd m
own_by a p u causes (came.Done o) h m = (own_turn a p u (turn.Done o) m h).0
own_by a p u causes (came.Aborted list) h m = tt
own_by a p u causes (came.EpochLimit told) h m = (own_turn a p u (turn.EpochLimit told) m h).0
own_by a p u causes came.OutOfMemory h m = tt

pub stopped_ready : (w : WriterView) → IsReady w → IsReady (writer_stopped w)
stopped_ready w r = record { live = stopped_live w r.live; apt = tt }

-- ## What a task begins, where its answer is known
begun_as : (t : Task) (old new : WriterView) (b c : Begun) → writer_begun old t ≡ record { writer = new; begun = b } → b ≡ c → writer_begun old t ≡ record { writer = new; begun = c }
begun_as t old new b c e h = subst (λ (x : Begun). writer_begun old t ≡ record { writer = new; begun = x }) h e

pub going_as : (t : Task) (old new : WriterView) (b : Begun) → writer_begun old t ≡ record { writer = new; begun = b } → b ≡ begun.Going
    → writer_begun old t ≡ record { writer = new; begun = begun.Going }
going_as t old new b e h = begun_as t old new b begun.Going e h

pub going_round : (t : Task) (old new : WriterView) (b : Begun) → writer_begun old t ≡ record { writer = new; begun = b } → b ≡ begun.Going → IsInRound new.phase
going_round t old new b e h = begins_round t old new (begun_as t old new b begun.Going e h)

pub going_own : (t : Task) (old new : WriterView) (b : Begun) (c : Came) → writer_begun old t ≡ record { writer = new; begun = b } → b ≡ begun.Going → IsOwn new.aim c → IsOwn (aim_of t) c
going_own t old new b c e h o = subst (λ (a : Aim). IsOwn a c) (begins_aim t old new (begun_as t old new b begun.Going e h)) o

pub inactive_as : (t : Task) (old new : WriterView) (calls : List PeerCall) (b : Begun) → writer_begun old t ≡ record { writer = new; begun = b }
    → b ≡ begun.NotActive → Comes t old calls new calls came.NotActive
inactive_as t old new calls b e h = inactive t old new calls (begun_as t old new b begun.NotActive e h)

pub inactive_own_as : (t : Task) (old new : WriterView) (b : Begun) → writer_begun old t ≡ record { writer = new; begun = b } → b ≡ begun.NotActive → IsOwn (aim_of t) came.NotActive
inactive_own_as t old new b e h = inactive_own t old new (begun_as t old new b begun.NotActive e h)

pub too_long_as : (t : Task) (old new : WriterView) (calls : List PeerCall) (b : Begun) (number : ℕ) → writer_begun old t ≡ record { writer = new; begun = b } → b ≡ begun.TooLong number
    → Comes t old calls new calls (came.TooLong number)
too_long_as t old new calls b number e h = too_long t old new calls number (begun_as t old new b (begun.TooLong number) e h)

pub too_long_own_as : (t : Task) (old new : WriterView) (b : Begun) (number : ℕ) → writer_begun old t ≡ record { writer = new; begun = b }
    → b ≡ begun.TooLong number → IsOwn (aim_of t) (came.TooLong number)
too_long_own_as t old new b number e h = too_long_own t old new number (begun_as t old new b (begun.TooLong number) e h)

pub ruleset beginnings = (begins_ready, begins_nodes)

pub ruleset refusals = (going_as, going_round, going_own, inactive_as, inactive_own_as, too_long_as, too_long_own_as)

pub ruleset endings = (ended, own_by, gives_up)

-- No actor of a script with names meets a bad entry: whatever it reads is the line's, and the line
-- replays.
use Rattle.std.proofs.Common.{◌≡◌, ℕ, ◌+◌, ◌-◌, ◌<◌, List, [], ◌∷◌, ◌++◌, Bool, true, false, cond, refl, sym, ap, ◌∙◌, subst, arith, length, append_assoc}
use Rattle.std.specs.Prelude.{Option, Some, None, ◌||◌, ◌==◌, nat_lt}
use Rattle.journal_core.specs.declared.request.Request.{Request}
use Rattle.journal_core.specs.declared.reply.Reply.TheVariants as reply
use Rattle.journal_core.specs.declared.heard.Heard.{Heard}
use Rattle.journal_core.specs.declared.heard.Heard.TheVariants.{Answer}
use Rattle.edit_ops.specs.Records.{EditView}
use Rattle.ns_tree.specs.Space.{Space}
use Rattle.ns_edits.specs.Replay.{Applied, All, BadEntry, applied, replay, replay_from}
use Rattle.ns_edits.proofs.Splits.{some_is, none≢some, HasGone, has_gone, LogSplit, log_split}
use Rattle.writer_core.specs.declared.task.Task.{Task}
use Rattle.writer_core.specs.declared.task.Task.TheVariants as task
use Rattle.writer_core.specs.declared.task.Begun.{Begun}
use Rattle.writer_core.specs.declared.task.Begun.TheVariants as begun
use Rattle.writer_core.specs.declared.turn.Turn.{Turn}
use Rattle.writer_core.specs.declared.turn.Turn.TheVariants as turn
use Rattle.writer_core.specs.declared.turn.Outcome.{Outcome as TaskOutcome}
use Rattle.writer_core.specs.declared.turn.Outcome.TheVariants as outcome
use Rattle.writer_core.specs.Views.{WriterView}
use Rattle.writer_core.specs.Rounds.{Judgment}
use Rattle.writer_core.specs.Writer.{is_writing, writer_begun, writer_heard}
use Rattle.journal_history.specs.declared.record.Record.{Record}
use Rattle.journal_history.specs.declared.record.Record.TheVariants.{Call, Late, Operator, Outcome}
use Rattle.journal_history.specs.Entries.{Entry}
use Rattle.mesh.specs.declared.whole.Mesh.{Mesh}
use Rattle.mesh.specs.Agree.{operator_of, record_of, ListsAgree}
use Rattle.mesh.specs.Makers.{heard_of}
use Rattle.play_model.specs.Lines.{Action, Line, Does, DoDrop, DoMute, DoLate, Submits, Trims, DoTail, Saves, Reloads}
use Rattle.play_names.specs.Holding.{Holding, Work, Free, Tails, Logs, Broken, with_work, save_image, reload_image, min_to_keep, enters}
use Rattle.play_names.specs.Tails.{Caught, Reached, PurgedFrom, BehindBy, TailStep, GoesOn, Ends, Breaks, pass_begun, up_to, after_applied, pass_end, no_edits, tail_hears}
use Rattle.play_names.specs.Submissions.{Submission, submit_edits, nothing_submitted}
use Rattle.play_model.specs.Actor.{Actor, fresh_actor, wants, is_wanting, is_broken_work, is_broken_holding, is_broken, tail_ended, tail_stepped}
use Rattle.play_model.specs.Actor.{task_begun, make_copy, begin_sync, after_sync, logged_when, trim_at, unless_active, begin_save, begin_reload}
use Rattle.play_model.specs.Actor.{take_named_action, take_action, while_wanting, settle, logs_done, task_done, held_turn, turn_with, turn_taken}
use Rattle.play_model.specs.Actor.{after_judgment, heard_in_work, heard_by, moved_on, settle_again, goes_on, IsLed, actor_after}
use Rattle.ns_tree.specs.declared.end.End.{End}
use Rattle.play_model.specs.Follows.{actor_with}
use Rattle.play_model.specs.Safe.{AllOn}
use Rattle.play_laws.specs.Linear.{IsLinear, OnLine, IsActor, IsNamed, NoneBreaks}
use Rattle.play_laws.proofs.Held.{AllOn-append, Held, Standing}
use Rattle.play_laws.proofs.Stages.{GoodActor, EditsOn, up_to_on}
use Rattle.play_names.proofs.HoldingLaws.{reloaded_free}
use Rattle.play_laws.proofs.Keeps.{LearnsIn, Learns, LineLearns}
use Rattle.play_laws.proofs.Replays.{Walked, walk, line_learns, walked}
use Rattle.play_laws.proofs.LineLaws.{line_replays}

abbrev Sane : Option Holding → Type 0
Sane o = is_broken_holding o ≡ false

sane_work : (h : Holding) (x : Work) → h.work ≡ x → is_broken_work x ≡ false → Sane (Some h)
sane_work h x e s = ap is_broken_work e ∙ s

-- ## Steps of a tail that don't break
abbrev StepSane : TailStep → Type 0
StepSane (GoesOn h) = is_broken_work h.work ≡ false
StepSane (Ends end h) = is_broken_work h.work ≡ false
StepSane (Breaks h) = ⊥

pass_sane : (until : Option ℕ) (h : Holding) → StepSane (pass_begun until h)
unfolding pass_begun
pass_sane None h = refl
pass_sane (Some last) h = by (last == h.position)
  where
    by : (b : Bool) → StepSane (cond b (Ends Reached (with_work Free h)) (GoesOn (with_work (Tails (Some last) 1 []) h)))
    by true = refl
    by false = refl

none_sane : (nodes : ℕ) (until : Option ℕ) (node : ℕ) (told : List Heard) (h : Holding) → StepSane (no_edits nodes until node told h)
none_sane nodes until node told h = by (nat_lt node nodes)
  where
    by : (b : Bool) → StepSane (cond b (GoesOn (with_work (Tails until (node + 1) told) h)) (Ends (pass_end until told) (with_work Free h)))
    by true = refl
    by false = refl

stepped_sane : (until : Option ℕ) (x : TailStep) (a : Actor) → StepSane x → Sane (tail_stepped until x a).holds
unfolding tail_stepped tail_ended
stepped_sane until (GoesOn h) a s = s
stepped_sane until (Breaks h) a s = absurd s
stepped_sane None (Ends end h) a s = s
stepped_sane (Some last) (Ends Reached h) a s = refl
stepped_sane (Some last) (Ends Caught h) a s = s
stepped_sane (Some last) (Ends (PurgedFrom first) h) a s = s
stepped_sane (Some last) (Ends (BehindBy causes) h) a s = s

-- ## Actions
begun_sane : (t : Task) (b : Begun) (w : WriterView) (a : Actor) → Sane a.holds → Sane (task_begun t w a b).holds
unfolding task_begun
begun_sane t begun.Going w a s = s
begun_sane t begun.NotActive w a s = s
begun_sane t (begun.TooLong number) w a s = s

sync_sane : (b : Begun) (w : WriterView) (x : Submission) (h : Holding) (a : Actor) → Sane a.holds → Sane (begin_sync b w x h a).holds
sync_sane begun.Going w x h a s = refl
sync_sane begun.NotActive w x h a s = s
sync_sane (begun.TooLong number) w x h a s = s

synced_sane : (bodies : List (List ℕ)) (x : Submission) (h : Holding) (a : Actor) → Sane a.holds → Sane (after_sync bodies x h a).holds
synced_sane [] x h a s = s
synced_sane (b ∷ bs) x h a s = sync_sane (writer_begun a.writer (task.Log x.bodies)).begun (writer_begun a.writer (task.Log x.bodies)).writer x h a s

logged_sane : (b : Bool) (es : List EditView) (h : Holding) (a : Actor) → Sane a.holds → Sane (logged_when b es h a).holds
unfolding logged_when
logged_sane true es h a s = synced_sane (submit_edits a.writer es (nothing_submitted h.space)).bodies (submit_edits a.writer es (nothing_submitted h.space)) h a s
logged_sane false es h a s = s

trim_sane : (b : Bool) (min : Option ℕ) (a : Actor) → Sane a.holds → Sane (trim_at b min a).holds
unfolding trim_at
trim_sane false min a s = s
trim_sane true None a s = s
trim_sane true (Some min) a s = s

unless_sane : (b : Bool) (x a : Actor) → Sane x.holds → Sane a.holds → Sane (unless_active b x a).holds
unless_sane true x a q s = s
unless_sane false x a q s = q

saved_sane : (h : Holding) (a : Actor) → is_broken_work h.work ≡ false → Sane (begin_save h a).holds
unfolding save_image
saved_sane h a s = s

held_sane : (d : Action) (o : Option Holding) (a : Actor) → Sane o → Sane a.holds → Sane (take_named_action d o a).holds
unfolding take_named_action
held_sane (Submits es) (Some h) a q s = logged_sane (is_writing a.writer.phase) es h a s
held_sane (Trims extra) (Some h) a q s = trim_sane (is_writing a.writer.phase) (min_to_keep extra h.images) a s
held_sane DoTail (Some h) a q s = unless_sane (is_writing a.writer.phase) (tail_stepped None (pass_begun None h) a) a (stepped_sane None (pass_begun None h) a (pass_sane None h)) s
held_sane Saves (Some h) a q s = unless_sane (is_writing a.writer.phase) (begin_save h a) a (saved_sane h a q) s
held_sane Reloads (Some h) a q s = unless_sane (is_writing a.writer.phase) (begin_reload h a) a (sane_work (reload_image h) Free (reloaded_free h) refl) s
held_sane d o a q s = s

copied_sane : (node call : ℕ) (o : Option Request) (a : Actor) → Sane a.holds → Sane (make_copy node call o a).holds
unfolding make_copy
copied_sane node call None a s = s
copied_sane node call (Some r) a s = s

action_sane : (d : Action) (a : Actor) → Sane a.holds → Sane (take_action d a).holds
unfolding take_action
action_sane (Does t) a s = begun_sane t (writer_begun a.writer t).begun (writer_begun a.writer t).writer a s
action_sane (DoDrop node call) a s = s
action_sane (DoMute node call) a s = s
action_sane (DoLate node call) a s = copied_sane node call _ a s
action_sane (Submits es) a s = held_sane (Submits es) a.holds a s s
action_sane (Trims extra) a s = held_sane (Trims extra) a.holds a s s
action_sane DoTail a s = held_sane DoTail a.holds a s s
action_sane Saves a s = held_sane Saves a.holds a s s
action_sane Reloads a s = held_sane Reloads a.holds a s s

settled_sane : (ds : List Action) (a : Actor) → Sane a.holds → Sane (settle ds a).holds
unfolding settle
settled_sane [] a s = s
settled_sane (d ∷ ds) a s = by (is_wanting (wants a) || is_broken a) (settled_sane ds (take_action d a) (action_sane d a s))
  where
    by : (b : Bool) → Sane (settle ds (take_action d a)).holds → Sane (cond b (record a { todo = while_wanting (is_wanting (wants a)) (d ∷ ds) }) (settle ds (take_action d a))).holds
    by true q = s
    by false q = q

-- ## Ends of tasks
logs_sane : (x : Work) (first last : ℕ) (h : Holding) (a : Actor) → Sane a.holds → Sane (logs_done x first last h a).holds
unfolding logs_done
logs_sane (Logs ahead dues) first last h a s = refl
logs_sane _ first last h a s = s

done_sane : (o : TaskOutcome) (t : Task) (h : Holding) (a : Actor) → Sane a.holds → Sane (task_done o t h a).holds
unfolding task_done
done_sane (outcome.Takeover epoch first) t h a s = stepped_sane (Some (first - 1)) (pass_begun (Some (first - 1)) (enters (first - 1) h)) a (pass_sane (Some (first - 1)) (enters (first - 1) h))
done_sane (outcome.Log first last) t h a s = logs_sane h.work first last h a s
done_sane (outcome.Roll start) t h a s = refl
done_sane (outcome.Close last) t h a s = refl
done_sane outcome.Purge (task.Purge min) h a s = s
done_sane outcome.Purge t h a s = s

turned_sane : (tn : Turn) (t : Task) (h : Holding) (a : Actor) → Sane a.holds → Sane (held_turn tn t h a).holds
unfolding held_turn
turned_sane turn.Going t h a s = s
turned_sane (turn.Done o) t h a s = done_sane o t h a s
turned_sane turn.Aborted t h a s = sane_work (reload_image h) Free (reloaded_free h) refl
turned_sane (turn.EpochLimit told) t h a s = s

with_sane : (o : Option Holding) (tn : Turn) (t : Task) (a : Actor) → Sane a.holds → Sane (turn_with o tn t a).holds
unfolding turn_with
with_sane None tn t a s = s
with_sane (Some h) tn t a s = turned_sane tn t h a s

taken_sane : (tn : Turn) (d : Option Task) (a : Actor) → Sane a.holds → Sane (turn_taken tn d a).holds
unfolding turn_taken
taken_sane turn.Going d a s = s
taken_sane (turn.Done o) None a s = s
taken_sane turn.Aborted None a s = s
taken_sane (turn.EpochLimit told) None a s = s
taken_sane (turn.Done o) (Some t) a s = with_sane a.holds (turn.Done o) t (record a { doing = None }) s
taken_sane turn.Aborted (Some t) a s = with_sane a.holds turn.Aborted t (record a { doing = None }) s
taken_sane (turn.EpochLimit told) (Some t) a s = with_sane a.holds (turn.EpochLimit told) t (record a { doing = None }) s

judged_sane : (j : Judgment) (a : Actor) → Sane a.holds → Sane (after_judgment j a).holds
judged_sane j a s = taken_sane j.turn a.doing (record a { writer = j.writer }) s

-- ## What a read gives
module _ (m : Mesh) (entries : List Entry) (lines : List Line) (last : List End) (lists : ListsAgree m) (lin : IsLinear m entries) (named : IsNamed lines m last) where
  abbrev L : ℕ → List ℕ → Type 0
  L = OnLine m entries

  -- what stands on the line after a replay of it goes on
  goes_with : (p : ℕ) (s : Space) (bodies : List (List ℕ)) → Held L p s → AllOn L p bodies → replay_from p bodies s ≡ None → ⊥
  goes_with p s bodies h on none =
      none≢some r.0
      (sym none ∙ ap (λ (z : Space). replay_from p bodies z) (some_is s cut.between (sym h.replayed ∙ cut.front)) ∙ ap (λ (k : ℕ). replay_from k bodies cut.between) (sym h.so_many) ∙ cut.rest)
    where
      whole : AllOn L 0 (h.log ++ bodies)
      whole = AllOn-append L 0 h.log bodies h.on (let at : p ≡ 0 + length h.log = (let many : length h.log ≡ p = h.so_many in omega (arith, many)) in subst (λ (k : ℕ). AllOn L k bodies) at on)

      r : (z : Space) × (replay (h.log ++ bodies) ≡ Some z)
      r = line_replays m entries lines last (h.log ++ bodies) lists lin named whole

      cut : LogSplit h.log bodies r.0
      cut = log_split h.log bodies r.0 r.1

  applied_sane : (until : Option ℕ) (bodies : List (List ℕ)) (h : Holding) → Standing L h → AllOn L h.position bodies
      → StepSane (after_applied until (applied h.position (up_to until h.position bodies) h.space) h)
  applied_sane until bodies h s on = by (applied h.position (up_to until h.position bodies) h.space) (has_gone h.position (up_to until h.position bodies) h.space)
    where
      by : (x : Applied) → HasGone h.position (up_to until h.position bodies) h.space x → StepSane (after_applied until x h)
      by (All z u) g = pass_sane until (record h { space = z; position = u })
      by (BadEntry z u) g = goes_with h.position h.space (up_to until h.position bodies) s.held (up_to_on L until h.position bodies on) g.1

  hears_sane : (nodes : ℕ) (until : Option ℕ) (node : ℕ) (told : List Heard) (heard : Heard) (h : Holding) → Standing L h → EditsOn L h.position heard
      → StepSane (tail_hears nodes until node told heard h)
  unfolding tail_hears
  hears_sane nodes until node told (Answer (reply.Edits batch)) h s on = applied_sane until batch.bodies h s on
  hears_sane nodes until node told heard h s on = none_sane nodes until node (told ++ heard ∷ []) h

  -- ## Along a record
  call_sane : (a : Actor) (node : ℕ) (heard : Heard) (o : Option Holding) → Sane a.holds → ((h : Holding) → o ≡ Some h → Standing L h)
      → Learns L o a.writer node heard → Sane (heard_by o node heard a).holds
  unfolding heard_by
  call_sane a node heard None s st l = judged_sane (writer_heard a.writer node heard) a s
  call_sane a node heard (Some h) s st l = by h.work l
    where
      by : (x : Work) → LearnsIn L x h a.writer node heard → Sane (heard_in_work x h node heard a).holds
      by Free l = judged_sane (writer_heard a.writer node heard) a s
      by (Logs ahead dues) l = judged_sane (writer_heard a.writer node heard) a s
      by Broken l = judged_sane (writer_heard a.writer node heard) a s
      by (Tails until next told) l = stepped_sane until (tail_hears (length a.writer.left) until next told heard h) a (hears_sane (length a.writer.left) until next told heard h (st h refl) l)

  standing_of : (a : Actor) → GoodActor L a → (h : Holding) → a.holds ≡ Some h → Standing L h
  standing_of a g h e = subst (λ (z : Holding). Standing L z) (some_is g.holding h (sym g.is ∙ e)) g.stands

  moved_sane : (r : Record) (a : Actor) → GoodActor L a → Sane a.holds → LineLearns L a r → Sane (moved_on r a).holds
  unfolding moved_on
  moved_sane (Call node r t) a g s l = call_sane a node (heard_of t) a.holds s (standing_of a g) l
  moved_sane (Late node r) a g s l = s
  moved_sane (Operator node ask done) a g s l = s
  moved_sane (Outcome text) a g s l = s

  goes_sane : (a : Actor) (r : Record) → GoodActor L a → Sane a.holds → LineLearns L a r → Sane (goes_on a r).holds
  unfolding goes_on settle_again
  goes_sane a r g s l =
      let b : Actor = record a { past = a.past ++ r ∷ [] } in
      settled_sane (moved_on r b).todo (moved_on r b) (moved_sane r b g s (learns r l))
    where
      learns : (r : Record) → LineLearns L a r → LineLearns L (record a { past = a.past ++ r ∷ [] }) r
      learns (Call node q t) l = l
      learns (Late node q) l = tt
      learns (Operator node ask done) l = tt
      learns (Outcome text) l = tt

  module _ (c : ℕ) (below : c < operator_of m) where
    sane_along : (before xs ys : List Record) (a : Actor) → record_of m c ≡ before ++ (xs ++ ys) → Walked m entries lists lin c below before a
        → Sane a.holds → IsLed a (xs ++ ys) → Sane (actor_after a xs).holds
    unfolding actor_after IsLed
    sane_along before [] ys a is w s led = s
    sane_along before (r ∷ xs) ys a is w s led =
        sane_along (before ++ r ∷ []) xs ys (goes_on a r) (is ∙ sym (append_assoc before (r ∷ []) (xs ++ ys)))
        (unfold actor_after IsLed in walk m entries lists lin c below before (r ∷ []) (xs ++ ys) a is w led)
        (goes_sane a r w.going.good s (line_learns m entries lists lin c below before (xs ++ ys) a r is w.both led.0)) led.1

    fresh_sane : (n : ℕ) → Sane (fresh_actor true n).holds
    unfolding fresh_actor
    fresh_sane n = refl

    none_breaks_here : (a : Actor) → IsActor m c a → is_broken a ≡ false
    unfolding is_broken
    none_breaks_here a x =
        subst (λ (z : Actor). Sane z.holds) (sym x.is)
        (sane_along [] x.before x.after (actor_with true m.nodes x.actions) x.record_is begun (settled_sane x.actions (fresh_actor true m.nodes) (fresh_sane m.nodes)) x.led)
      where
        begun : Walked m entries lists lin c below [] (actor_with true m.nodes x.actions)
        begun = walked m entries lists lin c below (actor_with true m.nodes x.actions)
            (record {
              some = x.some;
              actions = x.actions;
              are_actions = x.are_actions;
              before = [];
              after = record_of m c;
              record_is = refl;
              led = subst (λ (l : List Record). IsLed (actor_with true m.nodes x.actions) l) (sym x.record_is) x.led;
              is = after_none (actor_with true m.nodes x.actions);
            })
          where
            after_none : (z : Actor) → z ≡ actor_after z []
            after_none z = unfold actor_after in refl

pub none_breaks : NoneBreaks
none_breaks m entries lines last c a lists lin named below x = none_breaks_here m entries lines last lists lin named c below a x

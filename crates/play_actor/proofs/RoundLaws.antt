-- The rounds of an active name node: its rolls, closes and trims.
use Rattle.std.proofs.Common.{◌≡◌, ℕ, List, [], ◌∷◌, codes, Bool, true, false, Option, Some, None, refl, sym, ap, ◌∙◌}
use Rattle.std.specs.Prelude.{◌≢◌}
use Rattle.journal_core.specs.declared.peer_call.PeerCall.{PeerCall}
use Rattle.ns_edits.specs.Replay.{Image}
use Rattle.ns_tree.specs.Space.{Space}
use Rattle.writer_core.specs.declared.cause.Cause.{Cause}
use Rattle.writer_core.specs.declared.phase.Phase.TheVariants as phase
use Rattle.writer_core.specs.declared.task.Task.TheVariants as task
use Rattle.writer_core.specs.declared.turn.Turn.TheVariants as turn
use Rattle.writer_core.specs.declared.turn.Outcome.TheVariants as outcome
use Rattle.writer_core.specs.Views.{WriterView}
use Rattle.writer_core.specs.Writer.{is_writing, writer_begun}
use Rattle.writer_calls.specs.declared.rolled.Rolled.{Rolled}
use Rattle.writer_calls.specs.declared.rolled.Rolled.TheVariants as rolled
use Rattle.writer_calls.specs.declared.closed.Closed.{Closed}
use Rattle.writer_calls.specs.declared.closed.Closed.TheVariants as closed
use Rattle.writer_calls.specs.declared.purging.Purging.{Purging}
use Rattle.writer_calls.specs.declared.purging.Purging.TheVariants as purging
use Rattle.play_names.specs.Holding.{Holding, Free, at_position, reload_image, min_to_keep}
use Rattle.play_names.specs.Results.{word, name_of, for_each, abort_text}
use Rattle.play_names.specs.ResultLists.{aborted_text}
use Rattle.play_names.proofs.HoldingLaws.{reloaded_free}
use Rattle.play_standby.specs.Standbys.{StandbyView, empty_standby, held}
use Rattle.play_standby.specs.Actives.{ActiveView, is_open}
use Rattle.play_standby.specs.Acting.{IsLost, IsKept, IsRolled, IsPurging, IsClosed, left_when, left_by, IsLeft}
use Rattle.play_standby.proofs.ExactLaws.{no_both}
use Rattle.play_calls.specs.Logs.{LogView, calls_in}
use Rattle.play_calls.specs.Made.{MakesCalls}
use Rattle.play_model.specs.Lines.{Does, Trims}
use Rattle.play_model.specs.Actor.{Actor, hand_action, trim_at, task_done, held_turn, turn_with, turn_taken}
use Rattle.play_model.specs.KeptActor.{as_actor, resting}
use Rattle.play_model.specs.Actions.{kept_of, IsIdleActor, TakesAction}
use Rattle.play_actor.specs.Nodes.{NameView, kept_node, kept_active, kept_resting, held_after, standing, IsServing}
use Rattle.play_actor.specs.Rounds.{texts_rolled, texts_closed, texts_purging, held_closed, IsSaidOf}
use Rattle.play_actor.proofs.NodeLaws.{done_rests, stopped_rests, free_idle, free_rest, reloaded_any, does_begins, still_takes, task_takes, node_takes}
use Rattle.play_actor.proofs.RefusedLaws.{trims_taken}

-- ## What is held then
-- an active one went on at this position
pub kept_held : (images : List Image) (a b : ActiveView) (last : ℕ) → IsKept a b last → is_open b ≡ true → held_after (is_open b) images b ≡ at_position last (held images (standing a))
kept_held images a b last k o =
    ap (λ (x : Bool). held_after x images b) o
    ∙ ap (λ (p : ℕ). held images (record { space = b.ahead; position = p })) k.position
    ∙ ap (λ (s : Space). held images (record { space = s; position = last })) k.ahead

-- it begins again from its newest image
pub lost_held : (images : List Image) (s : StandbyView) (b : ActiveView) → IsLost b → held_after (is_open b) images b ≡ reload_image (held images s)
lost_held images s b l = ap (λ (x : Bool). held_after x images b) l.closed ∙ reloaded_any images empty_standby s

-- ## A roll
roll_shown : (v : WriterView) (h : Holding) (log : LogView) (start : ℕ)
    → turn_taken (turn.Done (outcome.Roll start)) (Some task.Roll) (as_actor (Some task.Roll) [] (kept_of v (Some h) log))
    ≡ as_actor None (word (codes "roll") start ∷ []) (kept_of v (Some (at_position start h)) log)
unfolding turn_taken turn_with held_turn task_done
roll_shown v h log start = refl

roll_aborted : (v : WriterView) (images : List Image) (s : StandbyView) (log : LogView)
    → turn_taken turn.Aborted (Some task.Roll) (as_actor (Some task.Roll) [] (kept_of v (Some (held images s)) log))
    ≡ as_actor None (aborted_text (codes "roll ") v.causes ∷ []) (kept_of v (Some (reload_image (held images s))) log)
unfolding turn_taken turn_with held_turn task_done for_each name_of
roll_aborted v images s log = refl

pub roll_takes : (n : ℕ) (images : List Image) (a b : ActiveView) (old mid new : LogView) (before after : List PeerCall) (r : Rolled) (node : NameView) (texts : List (List ℕ))
    → IsIdleActor n (kept_active images a old) → IsServing a → before ≡ calls_in old.past → after ≡ calls_in mid.past → IsRolled a before b after r → r ≢ rolled.OutOfMemory → MakesCalls old mid
    → node.writer ≡ b.writer → node.holding ≡ held_after (is_open b) images b → texts ≡ texts_rolled r → IsSaidOf mid new texts
    → TakesAction n (Does task.Roll) (kept_active images a old) (kept_node node new)
roll_takes n images a b old mid new before after (rolled.Rolled start) node texts idle serves first last is some made writer holding are said =
    let h : Holding = held images (standing a) in
    node_takes n (Does task.Roll) (kept_active images a old) node b.writer (at_position start h) new writer (holding ∙ kept_held images a b start is.1 (ap is_writing is.0.phase))
    (task_takes n (Does task.Roll) a.writer b.writer (Some h) (Some h) (Some (at_position start h)) old mid new before after task.Roll
    (turn.Done (outcome.Roll start)) phase.Writing texts idle first last made is.0
    (done_rests (outcome.Roll start) b.writer is.0.phase) refl (does_begins n a.writer h old task.Roll idle refl is.0.begun)
    (roll_shown b.writer h mid start ∙ ap (λ (l : List (List ℕ)). as_actor None l (kept_of b.writer (Some (at_position start h)) mid)) (sym are)) refl said)
roll_takes n images a b old mid new before after (rolled.Aborted causes) node texts idle serves first last is some made writer holding are said =
    let h : Holding = held images (standing a) in
    let told : texts ≡ aborted_text (codes "roll ") b.writer.causes ∷ [] = are ∙ ap (λ (x : List Cause). aborted_text (codes "roll ") x ∷ []) is.0.1 in
    node_takes n (Does task.Roll) (kept_active images a old) node b.writer (reload_image h) new writer (holding ∙ lost_held images (standing a) b is.1)
    (task_takes n (Does task.Roll) a.writer b.writer (Some h) (Some h) (Some (reload_image h)) old mid new before after task.Roll turn.Aborted phase.Stopped texts idle first last made is.0.0
    (stopped_rests b.writer is.0.0.phase) refl (does_begins n a.writer h old task.Roll idle refl is.0.0.begun)
    (roll_aborted b.writer images (standing a) mid ∙ ap (λ (l : List (List ℕ)). as_actor None l (kept_of b.writer (Some (reload_image h)) mid)) (sym told))
    (free_idle (reload_image h) (reloaded_free h)) said)
roll_takes n images a b old mid new before after rolled.NotActive node texts idle serves first last is some made writer holding are said = no_both (is_open a) serves.opened is.0
roll_takes n images a b old mid new before after rolled.OutOfMemory node texts idle serves first last is some made writer holding are said = absurd (some refl)

-- ## A close
close_shown : (v : WriterView) (h : Holding) (log : LogView) (last : ℕ)
    → turn_taken (turn.Done (outcome.Close last)) (Some task.Close) (as_actor (Some task.Close) [] (kept_of v (Some h) log))
    ≡ as_actor None (word (codes "close") last ∷ []) (kept_of v (Some (at_position last h)) log)
unfolding turn_taken turn_with held_turn task_done
close_shown v h log last = refl

close_aborted : (v : WriterView) (images : List Image) (s : StandbyView) (log : LogView)
    → turn_taken turn.Aborted (Some task.Close) (as_actor (Some task.Close) [] (kept_of v (Some (held images s)) log))
    ≡ as_actor None (aborted_text (codes "close ") v.causes ∷ []) (kept_of v (Some (reload_image (held images s))) log)
unfolding turn_taken turn_with held_turn task_done for_each name_of
close_aborted v images s log = refl

left_whole : (a b : ActiveView) (last : ℕ) → IsKept a b last → a.whole ≡ true → left_by b ≡ record { space = a.ahead; position = last }
left_whole a b last k whole =
    ap (λ (x : Bool). left_when x b.bodies b) (k.whole ∙ whole) ∙ ap (λ (l : List (List ℕ)). left_when true l b) k.none
    ∙ ap (λ (p : ℕ). record { space = b.ahead; position = p }) k.position ∙ ap (λ (s : Space). record { space = s; position = last }) k.ahead

-- what one that gives up without a call leaves
pub serving_left : (a : ActiveView) → IsServing a → left_by a ≡ standing a
serving_left a serves = ap (λ (x : Bool). left_when x a.bodies a) serves.whole ∙ ap (λ (l : List (List ℕ)). left_when true l a) serves.none

pub serving_kept : (images : List Image) (a : ActiveView) (s : StandbyView) (w : WriterView) (log : LogView) → IsServing a → s ≡ left_by a → w ≡ a.writer
    → kept_resting w images s log ≡ kept_active images a log
serving_kept images a s w log serves left writes =
    ap (λ (x : WriterView). kept_resting x images s log) writes ∙ ap (λ (x : StandbyView). kept_resting a.writer images x log) (left ∙ serving_left a serves)

pub close_takes : (n : ℕ) (images : List Image) (a : ActiveView) (old mid new : LogView) (before after : List PeerCall) (s : StandbyView) (w : WriterView) (c : Closed) (node : NameView)
    (texts : List (List ℕ)) → IsIdleActor n (kept_active images a old) → IsServing a → before ≡ calls_in old.past → after ≡ calls_in mid.past → IsLeft a before after s w c → c ≢ closed.OutOfMemory
    → MakesCalls old mid → node.writer ≡ w → node.holding ≡ held_closed c images s → texts ≡ texts_closed c → IsSaidOf mid new texts
    → TakesAction n (Does task.Close) (kept_active images a old) (kept_node node new)
close_takes n images a old mid new before after s w (closed.Closed last) node texts idle serves first end left some made writer holding are said =
    let h : Holding = held images (standing a) in
    let b : ActiveView = left.new in
    let is : IsClosed a before b after (closed.Closed last) = left.closed in
    node_takes n (Does task.Close) (kept_active images a old) node b.writer (at_position last h) new (writer ∙ left.writes)
    (holding ∙ ap (λ (x : StandbyView). held images x) (left.stands ∙ left_whole a b last is.1 serves.whole))
    (task_takes n (Does task.Close) a.writer b.writer (Some h) (Some h) (Some (at_position last h)) old mid new before after task.Close
    (turn.Done (outcome.Close last)) phase.Idle texts idle first end made is.0
    (done_rests (outcome.Close last) b.writer is.0.phase) refl (does_begins n a.writer h old task.Close idle refl is.0.begun)
    (close_shown b.writer h mid last ∙ ap (λ (l : List (List ℕ)). as_actor None l (kept_of b.writer (Some (at_position last h)) mid)) (sym are)) refl said)
close_takes n images a old mid new before after s w (closed.Aborted causes) node texts idle serves first end left some made writer holding are said =
    let h : Holding = held images (standing a) in
    let b : ActiveView = left.new in
    let is : IsClosed a before b after (closed.Aborted causes) = left.closed in
    let told : texts ≡ aborted_text (codes "close ") b.writer.causes ∷ [] = are ∙ ap (λ (x : List Cause). aborted_text (codes "close ") x ∷ []) is.0.1 in
    node_takes n (Does task.Close) (kept_active images a old) node b.writer (reload_image h) new (writer ∙ left.writes) (holding ∙ reloaded_any images s (standing a))
    (task_takes n (Does task.Close) a.writer b.writer (Some h) (Some h) (Some (reload_image h)) old mid new before after task.Close turn.Aborted phase.Stopped texts idle first end made is.0.0
    (stopped_rests b.writer is.0.0.phase) refl (does_begins n a.writer h old task.Close idle refl is.0.0.begun)
    (close_aborted b.writer images (standing a) mid ∙ ap (λ (l : List (List ℕ)). as_actor None l (kept_of b.writer (Some (reload_image h)) mid)) (sym told))
    (free_idle (reload_image h) (reloaded_free h)) said)
close_takes n images a old mid new before after s w closed.NotActive node texts idle serves first end left some made writer holding are said = no_both (is_open a) serves.opened left.closed.0
close_takes n images a old mid new before after s w closed.OutOfMemory node texts idle serves first end left some made writer holding are said = absurd (some refl)

-- its writer holds no segment then
pub close_rests : (a : ActiveView) (before after : List PeerCall) (s : StandbyView) (w : WriterView) (c : Closed) → IsServing a → IsLeft a before after s w c → is_writing w.phase ≡ false
close_rests a before after s w (closed.Closed last) serves left =
    let is : IsClosed a before left.new after (closed.Closed last) = left.closed in ap (λ (x : WriterView). is_writing x.phase) left.writes ∙ ap is_writing is.0.phase
close_rests a before after s w (closed.Aborted causes) serves left =
    let is : IsClosed a before left.new after (closed.Aborted causes) = left.closed in ap (λ (x : WriterView). is_writing x.phase) left.writes ∙ is.1.closed
close_rests a before after s w closed.NotActive serves left = no_both (is_open a) serves.opened left.closed.0
close_rests a before after s w closed.OutOfMemory serves left =
    let is : IsClosed a before left.new after closed.OutOfMemory = left.closed in ap (λ (x : WriterView). is_writing x.phase) left.writes ∙ is.1.closed

-- ## A trim
trim_begins : (n extra min : ℕ) (w : WriterView) (h : Holding) (log : LogView) → IsIdleActor n (kept_of w (Some h) log) → h.work ≡ Free → is_writing w.phase ≡ true
    → Some min ≡ min_to_keep extra h.images
    → hand_action (Trims extra) (resting (kept_of w (Some h) log)) ≡ as_actor (Some (task.Purge min)) [] (kept_of (writer_begun w (task.Purge min)).writer (Some h) log)
unfolding trim_at
trim_begins n extra min w h log idle free writing least =
    free_rest n w h log (Trims extra) idle free
    ∙ ap (λ (x : Actor). record x { todo = [] }) (trims_taken extra w h log)
    ∙ ap (λ (b : Bool). record (trim_at b (min_to_keep extra h.images) (resting (kept_of w (Some h) log))) { todo = [] }) writing
    ∙ ap (λ (m : Option ℕ). record (trim_at true m (resting (kept_of w (Some h) log))) { todo = [] }) (sym least)

trim_shown : (v : WriterView) (h : Holding) (log : LogView) (min : ℕ)
    → turn_taken (turn.Done outcome.Purge) (Some (task.Purge min)) (as_actor (Some (task.Purge min)) [] (kept_of v (Some h) log))
    ≡ as_actor None (word (codes "trim") min ∷ []) (kept_of v (Some h) log)
unfolding turn_taken turn_with held_turn task_done
trim_shown v h log min = refl

trim_aborted : (v : WriterView) (images : List Image) (s : StandbyView) (log : LogView) (min : ℕ)
    → turn_taken turn.Aborted (Some (task.Purge min)) (as_actor (Some (task.Purge min)) [] (kept_of v (Some (held images s)) log))
    ≡ as_actor None (aborted_text (codes "trim ") v.causes ∷ []) (kept_of v (Some (reload_image (held images s))) log)
unfolding turn_taken turn_with held_turn task_done abort_text
trim_aborted v images s log min = refl

pub trim_takes : (n extra min : ℕ) (images : List Image) (a b : ActiveView) (old mid new : LogView) (before after : List PeerCall) (r : Purging) (node : NameView) (texts : List (List ℕ))
    → IsIdleActor n (kept_active images a old) → IsServing a → Some min ≡ min_to_keep extra images → before ≡ calls_in old.past → after ≡ calls_in mid.past → IsPurging min a before b after r
    → r ≢ purging.OutOfMemory → MakesCalls old mid → node.writer ≡ b.writer → node.holding ≡ held_after (is_open b) images b → texts ≡ texts_purging min r → IsSaidOf mid new texts
    → TakesAction n (Trims extra) (kept_active images a old) (kept_node node new)
trim_takes n extra min images a b old mid new before after purging.Done node texts idle serves least first last is some made writer holding are said =
    let h : Holding = held images (standing a) in
    node_takes n (Trims extra) (kept_active images a old) node b.writer h new writer (holding ∙ kept_held images a b a.position is.1 (ap is_writing is.0.phase))
    (task_takes n (Trims extra) a.writer b.writer (Some h) (Some h) (Some h) old mid new before after (task.Purge min) (turn.Done outcome.Purge) phase.Writing texts idle first last made is.0
    (done_rests outcome.Purge b.writer is.0.phase) refl (trim_begins n extra min a.writer h old idle refl serves.opened least)
    (trim_shown b.writer h mid min ∙ ap (λ (l : List (List ℕ)). as_actor None l (kept_of b.writer (Some h) mid)) (sym are)) refl said)
trim_takes n extra min images a b old mid new before after (purging.Aborted causes) node texts idle serves least first last is some made writer holding are said =
    let h : Holding = held images (standing a) in
    let told : texts ≡ aborted_text (codes "trim ") b.writer.causes ∷ [] = are ∙ ap (λ (x : List Cause). aborted_text (codes "trim ") x ∷ []) is.0.1 in
    node_takes n (Trims extra) (kept_active images a old) node b.writer (reload_image h) new writer (holding ∙ lost_held images (standing a) b is.1)
    (task_takes n (Trims extra) a.writer b.writer (Some h) (Some h) (Some (reload_image h)) old mid new before after (task.Purge min) turn.Aborted phase.Stopped texts idle first last made is.0.0
    (stopped_rests b.writer is.0.0.phase) refl (trim_begins n extra min a.writer h old idle refl serves.opened least)
    (trim_aborted b.writer images (standing a) mid min ∙ ap (λ (l : List (List ℕ)). as_actor None l (kept_of b.writer (Some (reload_image h)) mid)) (sym told))
    (free_idle (reload_image h) (reloaded_free h)) said)
trim_takes n extra min images a b old mid new before after purging.NotActive node texts idle serves least first last is some made writer holding are said = no_both (is_open a) serves.opened is.0
trim_takes n extra min images a b old mid new before after purging.OutOfMemory node texts idle serves least first last is some made writer holding are said = absurd (some refl)

pub trim_noimage : (n extra : ℕ) (images : List Image) (a : ActiveView) (old new : LogView) (node : NameView) (texts : List (List ℕ)) → IsIdleActor n (kept_active images a old) → IsServing a
    → None ≡ min_to_keep extra images → node ≡ record { writer = a.writer; holding = held images (standing a) } → texts ≡ codes "trim noimage" ∷ [] → IsSaidOf old new texts
    → TakesAction n (Trims extra) (kept_active images a old) (kept_node node new)
unfolding trim_at
trim_noimage n extra images a old new node texts idle serves least is are said =
    let h : Holding = held images (standing a) in
    node_takes n (Trims extra) (kept_active images a old) node a.writer h new (ap (λ (x : NameView). x.writer) is) (ap (λ (x : NameView). x.holding) is)
    (still_takes n (Trims extra) a.writer (Some h) (Some h) old new texts idle
    (free_rest n a.writer h old (Trims extra) idle refl
    ∙ ap (λ (x : Actor). record x { todo = [] }) (trims_taken extra a.writer h old)
    ∙ ap (λ (b : Bool). record (trim_at b (min_to_keep extra h.images) (resting (kept_of a.writer (Some h) old))) { todo = [] }) serves.opened
    ∙ ap (λ (m : Option ℕ). record (trim_at true m (resting (kept_of a.writer (Some h) old))) { todo = [] }) (sym least)
    ∙ ap (λ (l : List (List ℕ)). as_actor None l (kept_of a.writer (Some h) old)) (sym are))
    refl said)

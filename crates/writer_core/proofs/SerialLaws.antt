-- The serial of the round under way is the number of the round.
use Rattle.std.proofs.Common.{ℕ, ◌≡◌, ◌+◌, ◌-◌, ◌&&◌, ◌++◌, List, [], ◌∷◌, length, Option, Some, None, Bool, true, false, refl, arith, suc, zero, take, nat_lt, subst}
use Rattle.std.proofs.lemmas.Bool.{or_parts}
use Rattle.std.specs.List.{list_any}
use Rattle.journal_core.specs.Views.{BatchView}
use Rattle.journal_core.specs.declared.reply.Reply.{Reply}
use Rattle.journal_core.specs.declared.reply.Reply.TheVariants as reply
use Rattle.journal_core.specs.declared.heard.Heard.{Heard}
use Rattle.journal_core.specs.declared.heard.Heard.TheVariants.{Answer, Silent}
use Rattle.writer_core.specs.declared.round.Round.{Round}
use Rattle.writer_core.specs.declared.round.Round.TheVariants as round
use Rattle.writer_core.specs.declared.phase.Phase.{Phase}
use Rattle.writer_core.specs.declared.phase.Phase.TheVariants as phase
use Rattle.writer_core.specs.declared.phase.Aim.{Aim}
use Rattle.writer_core.specs.declared.phase.Aim.TheVariants as aim
use Rattle.writer_core.specs.declared.task.Task.{Task}
use Rattle.writer_core.specs.declared.task.Task.TheVariants as task
use Rattle.writer_core.specs.Views.{WriterView}
use Rattle.writer_core.specs.Answers.{fits_edits, has_majority}
use Rattle.writer_core.specs.Best.{Best, best_of, greatest_newest}
use Rattle.writer_core.specs.Rounds.{numbers_fit, judgment, judgment_by, after_round, with_causes, next_serial, after_propose, begin_recovery}
use Rattle.writer_core.specs.Rounds.{after_finalize, after_open, after_write, left_out_after, without_answer_of, after_no_edits, keep_piece}
use Rattle.writer_core.specs.Rounds.{after_edits, after_fetch}
use Rattle.writer_core.specs.Writer.{Began, writer_begun, is_writing, if_writing, log_begins, log_limit}
use Rattle.writer_core.specs.Whole.{Takeover, TaskProgress, heard_of, fill_slots, round_heard, progress_from, has_begun, next_begun, next_task, round_after, next_round, proposer, writer_at}
use Rattle.writer_core.specs.Serials.{is_takeover}

is_state : Round → Bool
is_state round.State = true
is_state _ = false

-- what holds of a writer that a round left, by where it stands: this serial, and no round that asks
-- for a promise
Follows : Phase → ℕ → ℕ → Type 0
Follows (phase.InRound r) serial number = (serial ≡ number) × (is_state r ≡ false)
Follows phase.Writing serial number = serial ≡ number
Follows phase.Idle serial number = Unit {0}
Follows phase.Stopped serial number = Unit {0}

record IsAt (u : TaskProgress) (number : ℕ) : Type 0 where
  serial : u.writer.serial ≡ number
  later : is_state u.round ≡ false
  tasks : list_any is_takeover u.tasks ≡ false

done_follows : (r : Round) (w : WriterView) → is_state r ≡ false → Follows (after_round r w).writer.phase (after_round r w).writer.serial (w.serial + 1)
unfolding Follows is_state
done_follows round.State w h = cc
done_follows round.Propose w h = proposed (greatest_newest w.slots)
  where
    proposed : (o : Option ℕ) → Follows (after_propose o (next_serial w)).phase (after_propose o (next_serial w)).serial (w.serial + 1)
    proposed None = (refl, refl)
    proposed (Some start) = (refl, refl)
done_follows (round.Prepare start) w h = recovered (best_of start w.slots)
  where
    recovered : (o : Option Best) → Follows (begin_recovery start o (next_serial w)).phase (begin_recovery start o (next_serial w)).serial (w.serial + 1)
    recovered None = (refl, refl)
    recovered (Some best) = (refl, refl)
done_follows (round.Fetch node start end bodies) w h = recovered (best_of start w.slots)
  where
    recovered : (o : Option Best) → Follows (begin_recovery start o (next_serial w)).phase (begin_recovery start o (next_serial w)).serial (w.serial + 1)
    recovered None = (refl, refl)
    recovered (Some best) = (refl, refl)
done_follows (round.Accept batch) w h = (refl, refl)
done_follows (round.Finalize start end) w h = finalized w.aim
  where
    finalized : (a : Aim) → Follows (after_finalize a end (next_serial w)).writer.phase (after_finalize a end (next_serial w)).writer.serial (w.serial + 1)
    finalized aim.Close = tt
    finalized aim.Takeover = (refl, refl)
    finalized aim.Log = (refl, refl)
    finalized aim.Roll = (refl, refl)
    finalized aim.Purge = (refl, refl)
done_follows round.Start w h = (refl, refl)
done_follows round.Open w h = opened w.aim
  where
    opened : (a : Aim) → Follows (after_open a (record (next_serial w) { committed = w.start; next = w.start + 1; left = left_out_after round.Open w.slots })).writer.phase
        (after_open a (record (next_serial w) { committed = w.start; next = w.start + 1; left = left_out_after round.Open w.slots })).writer.serial (w.serial + 1)
    opened aim.Roll = refl
    opened aim.Takeover = refl
    opened aim.Log = refl
    opened aim.Close = refl
    opened aim.Purge = refl
done_follows (round.Write bodies) w h = written (w.next + length bodies - 1) w.aim
  where
    written : (last : ℕ) (a : Aim) → Follows (after_write a w.next last (record (next_serial w) { committed = last; next = last + 1; left = left_out_after (round.Write bodies) w.slots })).writer.phase
        (after_write a w.next last (record (next_serial w) { committed = last; next = last + 1; left = left_out_after (round.Write bodies) w.slots })).writer.serial (w.serial + 1)
    written last aim.Roll = (refl, refl)
    written last aim.Close = (refl, refl)
    written last aim.Takeover = refl
    written last aim.Log = refl
    written last aim.Purge = refl
done_follows (round.Purge min) w h = refl

by_follows : (b : Bool) (r : Round) (w : WriterView) → is_state r ≡ false → Follows (judgment_by b r w).writer.phase (judgment_by b r w).writer.serial (w.serial + 1)
unfolding Follows
by_follows true r w h = done_follows r (with_causes r w) h
by_follows false r w h = tt

judged_follows : (r : Round) (w : WriterView) → is_state r ≡ false → Follows (judgment r w).writer.phase (judgment r w).writer.serial (w.serial + 1)
unfolding judgment
judged_follows r w h = by_follows (numbers_fit w r && has_majority r w.slots) r w h

lost_follows : (node start : ℕ) (h : Heard) (w : WriterView) → Follows (after_no_edits node start h w).writer.phase (after_no_edits node start h w).writer.serial (w.serial + 1)
unfolding is_state
lost_follows node start h w = by_follows (has_majority (round.Prepare start) (without_answer_of node h w).slots) (round.Prepare start) (without_answer_of node h w) refl

pieced_follows : (b : Bool) (node start end : ℕ) (bodies : List (List ℕ)) (w : WriterView) → nat_lt end (start + length bodies) ≡ b
    → Follows (keep_piece node start end bodies w).phase (keep_piece node start end bodies w).serial w.serial
unfolding Follows is_state
pieced_follows true node start end bodies w e = rw e (refl, refl)
pieced_follows false node start end bodies w e = rw e (refl, refl)

edits_follow : (b : Bool) (node start end : ℕ) (bodies : List (List ℕ)) (batch : BatchView) (w : WriterView)
    → Follows (after_edits b node start end bodies batch w).writer.phase (after_edits b node start end bodies batch w).writer.serial (w.serial + 1)
edits_follow true node start end bodies batch w =
    let more : List (List ℕ) = bodies ++ take (end + 1 - (start + length bodies)) batch.bodies in
    pieced_follows (nat_lt end (start + length more)) node start end more (next_serial w) refl
edits_follow false node start end bodies batch w = lost_follows node start Silent w

fetched_follows : (node start end : ℕ) (bodies : List (List ℕ)) (h : Heard) (w : WriterView)
    → Follows (after_fetch node start end bodies h w).writer.phase (after_fetch node start end bodies h w).writer.serial (w.serial + 1)
unfolding after_fetch
fetched_follows node start end bodies (Answer (reply.Edits batch)) w =
    edits_follow (numbers_fit w (round.Fetch node start end bodies) && fits_edits (start + length bodies) batch) node start end bodies batch w
fetched_follows node start end bodies Silent w = lost_follows node start Silent w
fetched_follows node start end bodies (Answer a) w = lost_follows node start (Answer a) w

round_follows : (r : Round) (heard : ℕ → Option Reply) (w : WriterView) → is_state r ≡ false
    → Follows (round_heard r heard w).writer.phase (round_heard r heard w).writer.serial (w.serial + 1)
round_follows (round.Fetch node start end bodies) heard w h = fetched_follows node start end bodies (heard_of (heard node)) w
round_follows round.State heard w h = judged_follows round.State (record w { slots = fill_slots 1 heard w.slots }) h
round_follows round.Propose heard w h = judged_follows round.Propose (record w { slots = fill_slots 1 heard w.slots }) h
round_follows (round.Prepare start) heard w h = judged_follows (round.Prepare start) (record w { slots = fill_slots 1 heard w.slots }) h
round_follows (round.Accept batch) heard w h = judged_follows (round.Accept batch) (record w { slots = fill_slots 1 heard w.slots }) h
round_follows (round.Finalize start end) heard w h = judged_follows (round.Finalize start end) (record w { slots = fill_slots 1 heard w.slots }) h
round_follows round.Start heard w h = judged_follows round.Start (record w { slots = fill_slots 1 heard w.slots }) h
round_follows round.Open heard w h = judged_follows round.Open (record w { slots = fill_slots 1 heard w.slots }) h
round_follows (round.Write bodies) heard w h = judged_follows (round.Write bodies) (record w { slots = fill_slots 1 heard w.slots }) h
round_follows (round.Purge min) heard w h = judged_follows (round.Purge min) (record w { slots = fill_slots 1 heard w.slots }) h

-- a task that was begun
if_follows : (b : Bool) (began : Began) (w : WriterView) → (has_begun began.begun ≡ true → Follows began.writer.phase began.writer.serial w.serial)
    → has_begun (if_writing b began w).begun ≡ true → Follows (if_writing b began w).writer.phase (if_writing b began w).writer.serial w.serial
if_follows true began w f g = f g
if_follows false began w f g = cc

log_follows : (o : Option ℕ) (bodies : List (List ℕ)) (w : WriterView) → has_begun (log_begins o bodies w).begun ≡ true
    → Follows (log_begins o bodies w).writer.phase (log_begins o bodies w).writer.serial w.serial
unfolding Follows is_state
log_follows None bodies w g = (refl, refl)
log_follows (Some number) bodies w g = cc

begun_follows : (w : WriterView) (t : Task) → is_takeover t ≡ false → has_begun (writer_begun w t).begun ≡ true
    → Follows (writer_begun w t).writer.phase (writer_begun w t).writer.serial w.serial
unfolding writer_begun Follows is_state
begun_follows w task.Takeover n g = cc
begun_follows w (task.Log bodies) n g = if_follows (is_writing w.phase) (log_begins (log_limit w bodies) bodies w) w (log_follows (log_limit w bodies) bodies w) g
begun_follows w task.Roll n g = if_follows (is_writing w.phase) _ w (λ _. (refl, refl)) g
begun_follows w task.Close n g = if_follows (is_writing w.phase) _ w (λ _. (refl, refl)) g
begun_follows w (task.Purge min) n g = if_follows (is_writing w.phase) _ w (λ _. (refl, refl)) g

-- the round under way, of a writer that follows
underway_at : (p : Phase) (w : WriterView) (tasks : List Task) (number : ℕ) (u : TaskProgress) → Follows p w.serial number → list_any is_takeover tasks ≡ false
    → progress_from p w tasks ≡ Some u → IsAt u number
unfolding Follows
underway_at (phase.InRound r) w tasks number u f n e =
    let s : record { writer = w; round = r; tasks = tasks } ≡ u = cc in
    let a : IsAt (record { writer = w; round = r; tasks = tasks }) number = record { serial = f.0; later = f.1; tasks = n } in
    subst (λ (v : TaskProgress). IsAt v number) s a
underway_at phase.Idle w tasks number u f n e = cc
underway_at phase.Writing w tasks number u f n e = cc
underway_at phase.Stopped w tasks number u f n e = cc

begun_at : (b : Bool) (first rest : Option TaskProgress) (number : ℕ) (u : TaskProgress) → (b ≡ true → first ≡ Some u → IsAt u number) → (rest ≡ Some u → IsAt u number)
    → next_begun b first rest ≡ Some u → IsAt u number
begun_at true first rest number u f r e = f refl e
begun_at false first rest number u f r e = r e

next_at : (w : WriterView) (tasks : List Task) (u : TaskProgress) → list_any is_takeover tasks ≡ false → next_task w tasks ≡ Some u → IsAt u w.serial
unfolding next_task
next_at w [] u n e = cc
next_at w (t ∷ ts) u n e =
    let s = or_parts (is_takeover t) (list_any is_takeover ts) n in
    begun_at (has_begun (writer_begun w t).begun) _ (next_task w ts) w.serial u
    (λ g h. underway_at (writer_begun w t).writer.phase (writer_begun w t).writer ts w.serial u (begun_follows w t s.0 g) s.1 h)
    (next_at w ts u s.1) e

after_at : (p : Phase) (w : WriterView) (tasks : List Task) (number : ℕ) (u : TaskProgress) → Follows p w.serial number → list_any is_takeover tasks ≡ false
    → round_after p w tasks ≡ Some u → IsAt u number
unfolding Follows
after_at (phase.InRound r) w tasks number u f n e = underway_at (phase.InRound r) w tasks number u f n e
after_at phase.Writing w tasks number u f n e = subst (IsAt u) f (next_at w tasks u n e)
after_at phase.Idle w tasks number u f n e = cc
after_at phase.Stopped w tasks number u f n e = cc

next_round_at : (heard : ℕ → Option Reply) (o : Option TaskProgress) (number : ℕ) (u : TaskProgress) → ((v : TaskProgress) → o ≡ Some v → IsAt v number)
    → next_round heard o ≡ Some u → IsAt u (number + 1)
next_round_at heard None number u h e = cc
next_round_at heard (Some v) number u h e =
    let a = h v refl in
    let w = (round_heard v.round heard v.writer).writer in
    let f : Follows w.phase w.serial (number + 1) = subst (λ (n : ℕ). Follows w.phase w.serial (n + 1)) a.serial (round_follows v.round heard v.writer a.later) in
    after_at w.phase w v.tasks (number + 1) u f a.tasks e

at_number : (nodes : ℕ) (t : Takeover) (number : ℕ) (u : TaskProgress) → list_any is_takeover t.tasks ≡ false → writer_at nodes t number ≡ Some u → IsAt u number
unfolding writer_at is_state
at_number nodes t zero u n e =
    let s : record { writer = proposer nodes t.epoch; round = round.Propose; tasks = t.tasks } ≡ u = cc in
    let a : IsAt (record { writer = proposer nodes t.epoch; round = round.Propose; tasks = t.tasks }) 0 = record { serial = refl; later = refl; tasks = n } in
    subst (λ (v : TaskProgress). IsAt v 0) s a
at_number nodes t (suc number) u n e =
    let i : number + 1 ≡ suc number = omega arith in
    subst (IsAt u) i (next_round_at (t.heard number) (writer_at nodes t number) number u (λ v h. at_number nodes t number v n h) e)

pub serial_is : (nodes : ℕ) (t : Takeover) (number : ℕ) (u : TaskProgress) → list_any is_takeover t.tasks ≡ false → writer_at nodes t number ≡ Some u
    → u.writer.serial ≡ number
serial_is nodes t number u n e = (at_number nodes t number u n e).serial

-- An active name node after a round.
use Rattle.std.proofs.Common.{◌≡◌, ◌⊎◌, inl, inr, ℕ, ◌+◌, ◌-◌, ◌≤◌, List, length, [], true, false, None, sym, ap, ◌∙◌, subst, arith}
use Rattle.journal_core.specs.Limits.{max_number}
use Rattle.journal_core.specs.declared.peer_call.PeerCall.{PeerCall}
use Rattle.ns_tree.proofs.Noting.{rising_later}
use Rattle.writer_core.specs.declared.task.Task.TheVariants as task
use Rattle.writer_core.specs.declared.task.Begun.TheVariants as begun
use Rattle.writer_core.specs.declared.turn.Outcome.TheVariants as outcome
use Rattle.writer_core.specs.Views.{WriterView}
use Rattle.writer_core.specs.declared.round.Round.TheVariants as round
use Rattle.writer_core.specs.declared.phase.Aim.TheVariants as aim
use Rattle.writer_core.specs.Rounds.{asks_all, asks_others, end_record}
use Rattle.writer_core.specs.Writer.{begins, is_writing, log_limit, writer_begun}
use Rattle.writer_calls.specs.declared.logged.Logged.{Logged}
use Rattle.writer_calls.specs.declared.logged.Logged.TheVariants as logged
use Rattle.writer_calls.specs.declared.rolled.Rolled.TheVariants as rolled
use Rattle.writer_calls.specs.declared.purging.Purging.TheVariants as purging
use Rattle.writer_calls.specs.declared.closed.Closed.TheVariants as closed
use Rattle.writer_calls.specs.Answers.{came_of_logged, came_of_rolled, came_of_closed, came_of_purging}
use Rattle.writer_calls.specs.Tasks.{Comes, Refuses}
use Rattle.play_standby.specs.Actives.{ActiveView, IsActive, is_open}
use Rattle.writer_calls.proofs.WriterEnds.{outcome_of, log_last, purge_next, roll_start, close_last}
use Rattle.writer_calls.proofs.TaskBegins.{log_going}
use Rattle.writer_calls.proofs.TaskBegins.{begun_open}

kept_active : (a : ActiveView) (w : WriterView) (last : ℕ) (now : List (List ℕ)) → is_open a ≡ true → IsActive a → w.next ≡ last + 1
    → last ≤ max_number → a.position + length a.bodies ≤ last → now ≡ []
    → IsActive (record { writer = w; position = last; ahead = a.ahead; bodies = now; whole = a.whole })
kept_active a w last now opens h next most le none = record {
  within = most;
  calls = λ e. rising_later 0 (a.position + length a.bodies) (last + length now) a.ahead.calls (omega (arith, le)) (h.calls e);
  opened = λ o. record { next = next; fits = λ ne. absurd (ne none) };
  whole = λ o. h.whole opens;
  ended = λ o. none;
}

pub log_kept : (a : ActiveView) (w : WriterView) (bodies now : List (List ℕ)) (before after : List PeerCall) (first last : ℕ) → is_open a ≡ true → IsActive a → bodies ≡ a.bodies
    → Comes (task.Log bodies) a.writer before w after (came_of_logged (logged.Acked first last)) → now ≡ []
    → IsActive (record { writer = w; position = last; ahead = a.ahead; bodies = now; whole = a.whole }) × (is_writing w.phase ≡ true)
log_kept a w bodies now before after first last opens h b c none =
    let o = outcome_of _ w before after (outcome.Log first last) c.calls in
    let end : last ≡ a.writer.next + length bodies - 1 = log_last a.writer w bodies before after first last c.begun c.calls in
    let next : a.writer.next ≡ a.position + 1 = (h.opened opens).next in
    let size : length bodies ≡ length a.bodies = ap (λ (l : List (List ℕ)). length l) b in
    (kept_active a w last now opens h o.0 o.1 (omega (arith, end, next, size)) none, ap is_writing c.phase)

pub roll_kept : (a : ActiveView) (w : WriterView) (before after : List PeerCall) (start : ℕ) → IsActive a → a.bodies ≡ []
    → Comes task.Roll a.writer before w after (came_of_rolled (rolled.Rolled start))
    → IsActive (record { writer = w; position = start; ahead = a.ahead; bodies = a.bodies; whole = a.whole }) × (is_writing w.phase ≡ is_open a)
unfolding writer_begun
roll_kept a w before after start h none c =
    let opens : is_open a ≡ true = begun_open (is_writing a.writer.phase) (begins (asks_others (round.Write end_record) (record a.writer { aim = aim.Roll }))) a.writer c.begun in
    let o = outcome_of _ w before after (outcome.Roll start) c.calls in
    let le : a.writer.next ≤ start = roll_start a.writer w before after start c.begun c.calls in
    let next : a.writer.next ≡ a.position + 1 = (h.opened opens).next in
    let size : length a.bodies ≡ 0 = ap (λ (l : List (List ℕ)). length l) none in
    (kept_active a w start a.bodies opens h o.0 o.1 (omega (arith, le, next, size)) none, ap is_writing c.phase ∙ sym opens)

pub purge_kept : (a : ActiveView) (w : WriterView) (before after : List PeerCall) (min : ℕ) → IsActive a → a.bodies ≡ [] → Comes (task.Purge min) a.writer before w after (came_of_purging purging.Done)
    → IsActive (record { writer = w; position = a.position; ahead = a.ahead; bodies = a.bodies; whole = a.whole }) × (is_writing w.phase ≡ is_open a)
unfolding writer_begun
purge_kept a w before after min h none c =
    let opens : is_open a ≡ true = begun_open (is_writing a.writer.phase) (begins (asks_all (round.Purge min) (record a.writer { aim = aim.Purge }))) a.writer c.begun in
    let same : w.next ≡ a.writer.next = purge_next a.writer w min before after c.begun c.calls in
    let size : length a.bodies ≡ 0 = ap (λ (l : List (List ℕ)). length l) none in
    (kept_active a w a.position a.bodies opens h (same ∙ (h.opened opens).next) h.within (omega (arith, size)) none, ap is_writing c.phase ∙ sym opens)

pub close_kept : (a : ActiveView) (w : WriterView) (before after : List PeerCall) (last : ℕ) → IsActive a → a.bodies ≡ []
    → Comes task.Close a.writer before w after (came_of_closed (closed.Closed last))
    → IsActive (record { writer = w; position = last; ahead = a.ahead; bodies = a.bodies; whole = a.whole }) × (is_writing w.phase ≡ false)
unfolding writer_begun
close_kept a w before after last h none c =
    let opens : is_open a ≡ true = begun_open (is_writing a.writer.phase) (begins (asks_others (round.Write end_record) (record a.writer { aim = aim.Close }))) a.writer c.begun in
    let most : last ≤ max_number = outcome_of _ w before after (outcome.Close last) c.calls in
    let le : a.writer.next ≤ last = close_last a.writer w before after last c.begun c.calls in
    let next : a.writer.next ≡ a.position + 1 = (h.opened opens).next in
    let size : length a.bodies ≡ 0 = ap (λ (l : List (List ℕ)). length l) none in
    let idle : is_writing w.phase ≡ false = ap is_writing c.phase in (
      record {
        within = most;
        calls = λ e. rising_later 0 (a.position + length a.bodies) (last + length a.bodies) a.ahead.calls (omega (arith, le, next)) (h.calls e);
        opened = λ o. absurd (cc (o, idle));
        whole = λ o. absurd (cc (o, idle));
        ended = λ o. none;
      },
      idle,
    )

pub log_began : (w new : WriterView) (bodies : List (List ℕ)) (before after : List PeerCall) (l : Logged) → is_writing w.phase ≡ true → log_limit w bodies ≡ None
    → Comes (task.Log bodies) w before new after (came_of_logged l) → (l ≡ logged.NotActive) ⊎ ((x : ℕ) × (l ≡ logged.TooLong x)) → ⊥
log_began w new bodies before after l opens fits c (inl e) =
    let r : Refuses (task.Log bodies) w before new after begun.NotActive = subst (λ (x : Logged). Comes (task.Log bodies) w before new after (came_of_logged x)) e c in
    let goes = log_going w bodies opens fits in
    let is = r.refused in
    absurd (cc (goes, is))
log_began w new bodies before after l opens fits c (inr (x, e)) =
    let r : Refuses (task.Log bodies) w before new after (begun.TooLong x) = subst (λ (y : Logged). Comes (task.Log bodies) w before new after (came_of_logged y)) e c in
    let goes = log_going w bodies opens fits in
    let is = r.refused in
    absurd (cc (goes, is))

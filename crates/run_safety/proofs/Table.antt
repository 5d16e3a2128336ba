-- What follows each round: the table of rounds, inverted once.
use Rattle.std.proofs.Common.{◌≡◌, ℕ, zero, suc, ◌+◌, ◌-◌, ◌<◌, ◌≤◌, ◌&&◌, Bool, true, false, List, length, Option, Some, None, refl, inl, inr, arith, subst, sym, ap, ◌∙◌, nat_lt}
use Rattle.std.specs.Prelude.{slice_set, replicate}
use Rattle.std.specs.List.{list_all}
use Rattle.std.proofs.lemmas.Bool.{cond_both, ltb-true}
use Rattle.std.proofs.lemmas.List.{length-map, length-set, length-replicate}
use Rattle.journal_core.specs.Views.{BatchView}
use Rattle.journal_core.specs.declared.reply.Reply.{Reply}
use Rattle.journal_core.specs.declared.reply.Reply.TheVariants.{Ok, State as StateTold, NewEpoch as EpochTaken, Prepared, Edits, Segments, Refused}
use Rattle.journal_core.specs.declared.heard.Heard.{Heard}
use Rattle.journal_core.specs.declared.heard.Heard.TheVariants.{Answer, Silent}
use Rattle.writer_core.specs.declared.round.Round.{Round as TableRound}
use Rattle.writer_core.specs.declared.round.Round.TheVariants as table
use Rattle.writer_core.specs.declared.phase.Phase.TheVariants as phase
use Rattle.writer_core.specs.declared.phase.Aim.{Aim}
use Rattle.writer_core.specs.declared.phase.Aim.TheVariants as aim
use Rattle.writer_core.specs.declared.slot.Slot.{Slot}
use Rattle.writer_core.specs.declared.slot.Slot.TheVariants.{Told}
use Rattle.writer_core.specs.declared.task.Task.{Task}
use Rattle.writer_core.specs.Views.{WriterView}
use Rattle.writer_core.specs.Answers.{fits_prepare, fits_edits, has_majority}
use Rattle.writer_core.specs.Best.{best_of, greatest_newest}
use Rattle.writer_core.specs.Rounds.{batch_from, to_all, left_out_after, asks_all, asks_others, begin_start, numbers_fit, next_serial, with_causes}
use Rattle.writer_core.specs.Rounds.{judgment_by, keep_going, after_propose, after_finalize, after_open, after_write, failure_of, keep_piece}
use Rattle.writer_core.specs.Rounds.{after_edits, after_fetch}
use Rattle.writer_core.specs.Whole.{Takeover, TaskProgress, heard_of, fill_slots, round_heard, next_round, writer_at}
use Rattle.run_safety.specs.Run.{may_follow}
use Rattle.run_safety.proofs.Slots.{none≢some, some_same, true≢false, At, At-replaced, all_fresh, to_all_wait, to_others_fresh, filled_length, filled_heard}
use Rattle.run_safety.proofs.SeenLaws.{Finalizing, seen}
use Rattle.run_safety.proofs.Frames.{Done, Newest, more_pieces, asks_for, opens_at_one, gets_more, recovers, seals_recovered, opens_next, writes_first, seals_written, Sound, Next}
use Rattle.run_safety.proofs.Answers.{After, judged_by_passed, judged_passed, heard_done, newest_heard, newest_one, under, recovering_next, Wrote, wrote_next}

-- ## Each round
propose_next : (n : ℕ) (t : Takeover) (s : ℕ) (w : WriterView) (tasks : List Task) (next : TaskProgress) (slots : List Slot)
    → Sound n t s (under w table.Propose tasks) → length slots ≡ n → Newest n (t.heard s) (greatest_newest slots)
    → Done n (seen (under w table.Propose tasks)) (t.heard s) →
    (o : Option ℕ) → greatest_newest slots ≡ o
    → After (keep_going (after_propose o (next_serial (with_causes table.Propose (record w { slots = slots }))))) tasks next
    → Next n t s (under w table.Propose tasks) next
propose_next n t s w tasks next slots so len newest done None is e = subst (λ z. Next n t s (under w table.Propose tasks) z) (some_same e) (record {
  sound = record {
    epoch = so.epoch;
    serial = omega (arith, so.serial);
    left = so.left;
    slots = length-map w.left _ ∙ so.left;
    tasks = so.tasks;
    frame = (omega (arith, so.frame), refl, refl);
    stands = all_fresh (to_all w.left) (to_all_wait w.left);
  };
  step = opens_at_one refl (subst (λ z. Newest n (t.heard s) z) is newest) refl;
  done = λ no. done;
  low = omega arith;
})
propose_next n t s w tasks next slots so len newest done (Some m) is e =
    let told = newest.by m is in
    subst (λ z. Next n t s (under w table.Propose tasks) z) (some_same e) (record {
      sound = record {
        epoch = so.epoch;
        serial = omega (arith, so.serial);
        left = so.left;
        slots = length-map w.left _ ∙ so.left;
        tasks = so.tasks;
        frame = (so.frame, newest_one told.1 m told.5 told.6);
        stands = (to_all_wait w.left, omega (arith, so.stands.1));
      };
      step = asks_for m refl (subst (λ z. Newest n (t.heard s) z) is newest) refl;
      done = λ no. done;
      low = omega arith;
    })

-- a node that is taken out no longer counts
failed_out : (m : ℕ) (heard : Heard) (reply : Reply) → ◌≡◌ {A = Slot} (Told (Answer reply)) (Told (failure_of heard)) → fits_prepare m reply ≡ true → ⊥
failed_out m Silent reply e f = let no : Answer reply ≡ Silent = cc in cc
failed_out m (Answer (Refused x)) reply e f = let same : Answer reply ≡ Answer (Refused x) = cc in let one : reply ≡ Refused x = cc in true≢false (sym (subst (λ z. fits_prepare m z ≡ true) one f))
failed_out m (Answer Ok) reply e f = let no : Answer reply ≡ Silent = cc in cc
failed_out m (Answer (StateTold p)) reply e f = let no : Answer reply ≡ Silent = cc in cc
failed_out m (Answer (EpochTaken p)) reply e f = let no : Answer reply ≡ Silent = cc in cc
failed_out m (Answer (Prepared a b c)) reply e f = let no : Answer reply ≡ Silent = cc in cc
failed_out m (Answer (Edits b)) reply e f = let no : Answer reply ≡ Silent = cc in cc
failed_out m (Answer (Segments l)) reply e f = let no : Answer reply ≡ Silent = cc in cc

taken_out_next : (n : ℕ) (t : Takeover) (s node m end : ℕ) (bodies : List (List ℕ)) (w : WriterView) (tasks : List Task) (next : TaskProgress)
    → Sound n t s (under w (table.Fetch node m end bodies) tasks) → (heard : Heard) → (slots : List Slot)
    → slots ≡ slice_set w.slots (node - 1) (Told (failure_of heard)) →
    After (judgment_by (has_majority (table.Prepare m) slots) (table.Prepare m) (record w { slots = slots })) tasks next → Next n t s (under w (table.Fetch node m end bodies) tasks) next
taken_out_next n t s node m end bodies w tasks next so heard slots is e =
    let p = judged_by_passed (has_majority (table.Prepare m) slots) (table.Prepare m) (record w { slots = slots }) tasks next e in
    recovering_next n t s m (under w (table.Fetch node m end bodies) tasks) (with_causes (table.Prepare m) (record w { slots = slots })) next
    (record {
      asking = refl;
      from_one = so.frame.1;
      committed = so.frame.0;
      epoch = so.epoch;
      serial = so.serial;
      left = so.left;
      tasks = so.tasks;
      counted = record {
        heard = λ i reply a f. elim (At-replaced node i w.slots (Told (failure_of heard)) (Told (Answer reply)) (subst (λ z. At 1 z i (Told (Answer reply))) is a)) [
          | inl out ↦ absurd (failed_out m heard reply out f)
          | inr still ↦ so.stands.counted.heard i reply still f
        ];
        all = ap length is ∙ (length-set w.slots (node - 1) (Told (failure_of heard)) ∙ so.slots);
        enough = p.0;
      };
      done = λ no. absurd (no tt);
      low = refl;
    }) (best_of m slots) refl p.1

pieced_next : (n : ℕ) (t : Takeover) (s node m end : ℕ) (bodies : List (List ℕ)) (batch : BatchView) (w : WriterView) (tasks : List Task)
    (next : TaskProgress) → Sound n t s (under w (table.Fetch node m end bodies) tasks) → t.heard s node ≡ Some (Edits batch) →
    After (keep_going (keep_piece node m end (more_pieces m end bodies batch) (next_serial w))) tasks next → Next n t s (under w (table.Fetch node m end bodies) tasks) next
pieced_next n t s node m end bodies batch w tasks next so heard e =
    cond_both (nat_lt end (m + length (more_pieces m end bodies batch))) (asks_all (table.Accept (batch_from m (more_pieces m end bodies batch))) (next_serial w))
    (record (next_serial w) { phase = phase.InRound (table.Fetch node m end (more_pieces m end bodies batch)) })
    (λ z. After (keep_going z) tasks next → Next n t s (under w (table.Fetch node m end bodies) tasks) next)
    (λ past f. (let lt : end < m + length (more_pieces m end bodies batch) = ltb-true end (m + length (more_pieces m end bodies batch)) past in
    subst (λ z. Next n t s (under w (table.Fetch node m end bodies) tasks) z) (some_same f) (record {
      sound = record {
        epoch = so.epoch;
        serial = omega (arith, so.serial);
        left = so.left;
        slots = length-map w.left _ ∙ so.left;
        tasks = so.tasks;
        frame = (so.frame.0, so.frame.1, omega (arith, so.frame.2, lt));
        stands = all_fresh (to_all w.left) (to_all_wait w.left);
      };
      step = recovers m node end bodies batch w.slots refl heard so.stands lt refl;
      done = λ no. absurd (no tt);
      low = omega arith;
    })))
    (λ more f. subst (λ z. Next n t s (under w (table.Fetch node m end bodies) tasks) z) (some_same f) (record {
      sound = record {
        epoch = so.epoch;
        serial = omega (arith, so.serial);
        left = so.left;
        slots = so.slots;
        tasks = so.tasks;
        frame = so.frame;
        stands = so.stands;
      };
      step = gets_more m node end bodies batch w.slots refl heard so.stands refl;
      done = λ no. absurd (no tt);
      low = omega arith;
    })) e

edits_next : (n : ℕ) (t : Takeover) (s node m end : ℕ) (bodies : List (List ℕ)) (batch : BatchView) (w : WriterView) (tasks : List Task)
    (next : TaskProgress) → Sound n t s (under w (table.Fetch node m end bodies) tasks) → t.heard s node ≡ Some (Edits batch) →
    (b : Bool) → After (after_edits b node m end bodies batch w) tasks next → Next n t s (under w (table.Fetch node m end bodies) tasks) next
edits_next n t s node m end bodies batch w tasks next so heard true e = pieced_next n t s node m end bodies batch w tasks next so heard e
edits_next n t s node m end bodies batch w tasks next so heard false e = taken_out_next n t s node m end bodies w tasks next so Silent _ refl e

fetch_next : (n : ℕ) (t : Takeover) (s node m end : ℕ) (bodies : List (List ℕ)) (w : WriterView) (tasks : List Task) (next : TaskProgress)
    → Sound n t s (under w (table.Fetch node m end bodies) tasks) →
    (o : Option Reply) → t.heard s node ≡ o → After (after_fetch node m end bodies (heard_of o) w) tasks next → Next n t s (under w (table.Fetch node m end bodies) tasks) next
unfolding after_fetch
fetch_next n t s node m end bodies w tasks next so None is e = taken_out_next n t s node m end bodies w tasks next so Silent _ refl e
fetch_next n t s node m end bodies w tasks next so (Some (Edits batch)) is e =
    edits_next n t s node m end bodies batch w tasks next so is (numbers_fit w (table.Fetch node m end bodies) && fits_edits (m + length bodies)
    batch) e
fetch_next n t s node m end bodies w tasks next so (Some Ok) is e = taken_out_next n t s node m end bodies w tasks next so (Answer Ok) _ refl e
fetch_next n t s node m end bodies w tasks next so (Some (StateTold p)) is e = taken_out_next n t s node m end bodies w tasks next so (Answer (StateTold p)) _ refl e
fetch_next n t s node m end bodies w tasks next so (Some (EpochTaken p)) is e = taken_out_next n t s node m end bodies w tasks next so (Answer (EpochTaken p)) _ refl e
fetch_next n t s node m end bodies w tasks next so (Some (Prepared a b c)) is e = taken_out_next n t s node m end bodies w tasks next so (Answer (Prepared a b c)) _ refl e
fetch_next n t s node m end bodies w tasks next so (Some (Segments l)) is e = taken_out_next n t s node m end bodies w tasks next so (Answer (Segments l)) _ refl e
fetch_next n t s node m end bodies w tasks next so (Some (Refused x)) is e = taken_out_next n t s node m end bodies w tasks next so (Answer (Refused x)) _ refl e

finalize_next : (n : ℕ) (t : Takeover) (s m l : ℕ) (w : WriterView) (tasks : List Task) (next : TaskProgress) (x : WriterView)
    → Sound n t s (under w (table.Finalize m l) tasks) → Done n (seen (under w (table.Finalize m l) tasks)) (t.heard s) →
    x.epoch ≡ w.epoch → x.serial ≡ w.serial → x.left ≡ w.left → x.committed ≡ w.committed → (a : Aim)
    → After (after_finalize a l (next_serial x)) tasks next → Next n t s (under w (table.Finalize m l) tasks) next
finalize_next n t s m l w tasks next x so done ep se le co a e = by a e
  where
    goes : ◌≡◌ {A = Option TaskProgress} (Some (under (begin_start (l + 1) (next_serial x)) table.Start tasks)) (Some next) → Next n t s (under w (table.Finalize m l) tasks) next
    goes f = subst (λ z. Next n t s (under w (table.Finalize m l) tasks) z) (some_same f) (record {
      sound = record {
        epoch = ep ∙ so.epoch;
        serial = omega (arith, se, so.serial);
        left = ap length le ∙ so.left;
        slots = length-map x.left _ ∙ (ap length le ∙ so.left);
        tasks = so.tasks;
        frame = (omega (arith, co, so.frame.0), refl, refl);
        stands = all_fresh (to_all x.left) (to_all_wait x.left);
      };
      step = opens_next m l refl refl;
      done = λ no. done;
      low = omega arith;
    })

    by : (a : Aim) → After (after_finalize a l (next_serial x)) tasks next → Next n t s (under w (table.Finalize m l) tasks) next
    by aim.Close f = none≢some next f
    by aim.Takeover f = goes f
    by aim.Log f = goes f
    by aim.Roll f = goes f
    by aim.Purge f = goes f

open_next : (n : ℕ) (t : Takeover) (s : ℕ) (w : WriterView) (tasks : List Task) (next : TaskProgress) (x : WriterView)
    → Wrote n t s (under w table.Open tasks) x → (a : Aim) → After (after_open a x) tasks next → Next n t s (under w table.Open tasks) next
open_next n t s w tasks next x a aim.Roll e = wrote_next n t s (under w table.Open tasks) x next a e
open_next n t s w tasks next x a aim.Takeover e = wrote_next n t s (under w table.Open tasks) x next a e
open_next n t s w tasks next x a aim.Log e = wrote_next n t s (under w table.Open tasks) x next a e
open_next n t s w tasks next x a aim.Close e = wrote_next n t s (under w table.Open tasks) x next a e
open_next n t s w tasks next x a aim.Purge e = wrote_next n t s (under w table.Open tasks) x next a e

write_next : (n : ℕ) (t : Takeover) (s : ℕ) (bodies : List (List ℕ)) (w : WriterView) (tasks : List Task) (next : TaskProgress) (x : WriterView)
    → Wrote n t s (under w (table.Write bodies) tasks) x → x.committed ≡ w.next + length bodies - 1 → 1 ≤ length bodies →
    (a : Aim) → After (after_write a w.next (w.next + length bodies - 1) x) tasks next → Next n t s (under w (table.Write bodies) tasks) next
write_next n t s bodies w tasks next x a last long a2 e = by a2 e
  where
    ends : ◌≡◌ {A = Option TaskProgress} (Some (under (asks_others (table.Finalize x.start (w.next + length bodies - 1)) x)
        (table.Finalize x.start (w.next + length bodies - 1)) tasks)) (Some next) → Next n t s (under w (table.Write bodies) tasks) next
    ends f = subst (λ z. Next n t s (under w (table.Write bodies) tasks) z) (some_same f) (record {
      sound = record {
        epoch = a.epoch;
        serial = a.serial;
        left = a.left;
        slots = length-map x.left _ ∙ a.left;
        tasks = a.tasks;
        frame = (last, a.start_one, omega (arith, a.start_below, a.next_is, last));
        stands = to_others_fresh x.left;
      };
      step = seals_written w.start (batch_from w.next bodies) refl (ap (λ z. Finalizing z (w.next + length bodies - 1)) a.start);
      done = λ no. a.done;
      low = omega (arith, long);
    })

    by : (a2 : Aim) → After (after_write a2 w.next (w.next + length bodies - 1) x) tasks next → Next n t s (under w (table.Write bodies) tasks) next
    by aim.Roll f = ends f
    by aim.Close f = ends f
    by aim.Takeover f = wrote_next n t s (under w (table.Write bodies) tasks) x next a f
    by aim.Log f = wrote_next n t s (under w (table.Write bodies) tasks) x next a f
    by aim.Purge f = wrote_next n t s (under w (table.Write bodies) tasks) x next a f

table_next : (n : ℕ) (t : Takeover) (s : ℕ) (w : WriterView) (r : TableRound) (tasks : List Task) (next : TaskProgress)
    → Sound n t s (under w r tasks) → After (round_heard r (t.heard s) w) tasks next → Next n t s (under w r tasks) next
table_next n t s w table.State tasks next so e = absurd so.stands
table_next n t s w table.Propose tasks next so e =
    let p = judged_passed table.Propose (record w { slots = fill_slots 1 (t.heard s) w.slots }) tasks next e in
    propose_next n t s w tasks next (fill_slots 1 (t.heard s) w.slots) so (filled_length 1 (t.heard s) w.slots ∙ so.slots) (newest_heard n (t.heard s) w.slots so.stands.0 so.slots)
    (heard_done n table.Propose w (t.heard s) (seen (under w table.Propose tasks)) (all_fresh w.slots so.stands.0) so.slots p.0 (λ reply k. k))
    (greatest_newest (fill_slots 1 (t.heard s) w.slots)) refl p.1
table_next n t s w (table.Prepare m) tasks next so e =
    let p = judged_passed (table.Prepare m) (record w { slots = fill_slots 1 (t.heard s) w.slots }) tasks next e in
    recovering_next n t s m (under w (table.Prepare m) tasks) (with_causes (table.Prepare m) (record w { slots = fill_slots 1 (t.heard s) w.slots })) next
    (record {
      asking = refl;
      from_one = so.frame.1;
      committed = so.frame.0;
      epoch = so.epoch;
      serial = so.serial;
      left = so.left;
      tasks = so.tasks;
      counted = record {
        heard = λ i reply a f. subst (λ k. t.heard k i ≡ Some reply) so.stands.1 (filled_heard 1 (t.heard s) w.slots (all_fresh w.slots so.stands.0) i reply a);
        all = filled_length 1 (t.heard s) w.slots ∙ so.slots;
        enough = p.0;
      };
      done = λ no. heard_done n (table.Prepare m) w (t.heard s) (seen (under w (table.Prepare m) tasks)) (all_fresh w.slots so.stands.0) so.slots p.0 (λ reply k. k);
      low = refl;
    }) (best_of m (fill_slots 1 (t.heard s) w.slots)) refl p.1
table_next n t s w (table.Fetch node m end bodies) tasks next so e = fetch_next n t s node m end bodies w tasks next so (t.heard s node) refl e
table_next n t s w (table.Accept b) tasks next so e =
    let p = judged_passed (table.Accept b) (record w { slots = fill_slots 1 (t.heard s) w.slots }) tasks next e in
    subst (λ z. Next n t s (under w (table.Accept b) tasks) z) (some_same p.1) (record {
      sound = record {
        epoch = so.epoch;
        serial = omega (arith, so.serial);
        left = so.left;
        slots = length-map w.left _ ∙ so.left;
        tasks = so.tasks;
        frame = (refl, so.frame.1, omega (arith, so.frame.2));
        stands = to_others_fresh w.left;
      };
      step = seals_recovered b refl refl;
      done = λ no. heard_done n (table.Accept b) w (t.heard s) (seen (under w (table.Accept b) tasks)) so.stands so.slots p.0 (λ reply k. k);
      low = omega (arith, so.frame.1, so.frame.2);
    })
table_next n t s w (table.Finalize m l) tasks next so e =
    let p = judged_passed (table.Finalize m l) (record w { slots = fill_slots 1 (t.heard s) w.slots }) tasks next e in
    finalize_next n t s m l w tasks next (with_causes (table.Finalize m l) (record w { slots = fill_slots 1 (t.heard s) w.slots })) so
    (heard_done n (table.Finalize m l) w (t.heard s) (seen (under w (table.Finalize m l) tasks)) so.stands so.slots p.0 (λ reply k. k)) refl refl refl refl w.aim p.1
table_next n t s w table.Start tasks next so e =
    let p = judged_passed table.Start (record w { slots = fill_slots 1 (t.heard s) w.slots }) tasks next e in
    let whole : length (fill_slots 1 (t.heard s) w.slots) ≡ n = filled_length 1 (t.heard s) w.slots ∙ so.slots in
    subst (λ z. Next n t s (under w table.Start tasks) z) (some_same p.1) (record {
      sound = record {
        epoch = so.epoch;
        serial = omega (arith, so.serial);
        left = length-map (fill_slots 1 (t.heard s) w.slots) _ ∙ whole;
        slots = length-map (left_out_after table.Start (fill_slots 1 (t.heard s) w.slots)) _ ∙ (length-map (fill_slots 1 (t.heard s) w.slots) _ ∙ whole);
        tasks = so.tasks;
        frame = (so.frame.0, refl, omega (arith, so.frame.0), omega arith, refl, omega arith);
        stands = to_others_fresh (left_out_after table.Start (fill_slots 1 (t.heard s) w.slots));
      };
      step = writes_first w.start refl refl refl refl;
      done = λ no. heard_done n table.Start w (t.heard s) (seen (under w table.Start tasks)) so.stands so.slots p.0 (λ reply k. k);
      low = omega arith;
    })
table_next n t s w table.Open tasks next so e =
    let p = judged_passed table.Open (record w { slots = fill_slots 1 (t.heard s) w.slots }) tasks next e in
    let whole : length (fill_slots 1 (t.heard s) w.slots) ≡ n = filled_length 1 (t.heard s) w.slots ∙ so.slots in
    open_next n t s w tasks next
    (record (next_serial (with_causes table.Open (record w { slots = fill_slots 1 (t.heard s) w.slots }))) {
      committed = w.start;
      next = w.start + 1;
      left = left_out_after table.Open (fill_slots 1 (t.heard s) w.slots);
    })
    (record {
      epoch = so.epoch;
      serial = omega (arith, so.serial);
      left = length-map (fill_slots 1 (t.heard s) w.slots) _ ∙ whole;
      tasks = so.tasks;
      writing = tt;
      committed = omega arith;
      start = refl;
      start_one = so.frame.2;
      start_below = omega arith;
      next_is = refl;
      low = omega arith;
      done = heard_done n table.Open w (t.heard s) (seen (under w table.Open tasks)) so.stands so.slots p.0 (λ reply k. k);
    }) w.aim p.1
table_next n t s w (table.Write bodies) tasks next so e =
    let p = judged_passed (table.Write bodies) (record w { slots = fill_slots 1 (t.heard s) w.slots }) tasks next e in
    let whole : length (fill_slots 1 (t.heard s) w.slots) ≡ n = filled_length 1 (t.heard s) w.slots ∙ so.slots in
    write_next n t s bodies w tasks next
    (record (next_serial (with_causes (table.Write bodies) (record w { slots = fill_slots 1 (t.heard s) w.slots }))) {
      committed =
          w.next + length bodies - 1;
      next = w.next + length bodies - 1 + 1;
      left = left_out_after (table.Write bodies) (fill_slots 1 (t.heard s) w.slots);
    })
    (record {
      epoch = so.epoch;
      serial = omega (arith, so.serial);
      left = length-map (fill_slots 1 (t.heard s) w.slots) _ ∙ whole;
      tasks = so.tasks;
      writing = tt;
      committed = refl;
      start = refl;
      start_one = so.frame.2;
      start_below = omega (arith, so.frame.3, so.frame.5);
      next_is = refl;
      low = omega (arith, so.frame.5);
      done = heard_done n (table.Write bodies) w (t.heard s) (seen (under w (table.Write bodies) tasks)) so.stands so.slots p.0 (λ reply k. k);
    }) refl so.frame.5 w.aim p.1
table_next n t s w (table.Purge min) tasks next so e =
    let p = judged_passed (table.Purge min) (record w { slots = fill_slots 1 (t.heard s) w.slots }) tasks next e in
    wrote_next n t s (under w (table.Purge min) tasks) (next_serial (with_causes (table.Purge min) (record w { slots = fill_slots 1 (t.heard s) w.slots }))) next
    (record {
      epoch = so.epoch;
      serial = omega (arith, so.serial);
      left = so.left;
      tasks = so.tasks;
      writing = tt;
      committed = refl;
      start = refl;
      start_one = so.frame.1;
      start_below = so.frame.2;
      next_is = so.frame.0;
      low = omega arith;
      done = heard_done n (table.Purge min) w (t.heard s) (seen (under w (table.Purge min) tasks)) so.stands so.slots p.0 (λ reply k. k);
    }) p.1

-- ## The round before
pub record Comes (n : ℕ) (t : Takeover) (s : ℕ) (next : TaskProgress) : Type 0 where
  pub writer : TaskProgress
  pub at : writer_at n t s ≡ Some writer
  pub next_is : Next n t s writer next

first_sound : (n : ℕ) (t : Takeover) (u : TaskProgress) → list_all may_follow t.tasks ≡ true → writer_at n t 0 ≡ Some u → Sound n t 0 u
unfolding writer_at
first_sound n t u ok e = subst (λ z. Sound n t 0 z) (some_same e) (record {
  epoch = refl;
  serial = refl;
  left = length-replicate n false;
  slots = length-map (replicate n false) _ ∙ length-replicate n false;
  tasks = ok;
  frame = refl;
  stands = (to_all_wait (replicate n false), refl);
})

comes_from : (n : ℕ) (t : Takeover) (s : ℕ) (next : TaskProgress) → ((u : TaskProgress) → writer_at n t s ≡ Some u → Sound n t s u)
    → (o : Option TaskProgress) → writer_at n t s ≡ o → next_round (t.heard s) o ≡ Some next → Comes n t s next
comes_from n t s next sound None is e = none≢some next e
comes_from n t s next sound (Some u) is e = record { writer = u; at = is; next_is = table_next n t s u.writer u.round u.tasks next (sound u is) e }

pub sound_at : (n : ℕ) (t : Takeover) (s : ℕ) (u : TaskProgress) → list_all may_follow t.tasks ≡ true → writer_at n t s ≡ Some u → Sound n t s u
unfolding writer_at
sound_at n t zero u ok e = first_sound n t u ok e
sound_at n t (suc s) u ok e = (comes_from n t s u (λ v at. sound_at n t s v ok at) (writer_at n t s) refl e).next_is.sound

pub comes_at : (n : ℕ) (t : Takeover) (s : ℕ) (next : TaskProgress) → list_all may_follow t.tasks ≡ true → writer_at n t (suc s) ≡ Some next → Comes n t s next
unfolding writer_at
comes_at n t s next ok e = comes_from n t s next (λ v at. sound_at n t s v ok at) (writer_at n t s) refl e

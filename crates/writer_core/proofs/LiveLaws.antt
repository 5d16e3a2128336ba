-- While a round is under way some node is to be called.
use Rattle.std.proofs.Common.{ℕ, ◌≡◌, ◌<◌, ◌≤◌, ◌+◌, ◌-◌, ◌*◌, ◌&&◌, ◌||◌, ◌++◌, List, [], ◌∷◌, length, Option, Some, None, IfSome, Bool, true, false}
use Rattle.std.proofs.Common.{cond, not, refl, sym, arith, suc, zero, ◌∙◌, set, map, take, position, count_by, nat_lt, is_some, replicate, option_map}
use Rattle.std.proofs.Common.{ap}
use Rattle.std.specs.List.{list_any}
use Rattle.std.proofs.lemmas.Bool.Decides.{nat_tests}
use Rattle.std.proofs.lemmas.List.{length-map, length-set}
use Rattle.std.proofs.lemmas.Bool.{and_parts}
use Rattle.journal_core.specs.Views.{BatchView}
use Rattle.journal_core.specs.Limits.{max_number}
use Rattle.journal_core.specs.declared.request.Request.{Request}
use Rattle.journal_core.specs.declared.reply.Reply.TheVariants as reply
use Rattle.journal_core.specs.declared.heard.Heard.{Heard}
use Rattle.journal_core.specs.declared.heard.Heard.TheVariants.{Answer, Silent}
use Rattle.writer_core.specs.declared.round.Round.{Round}
use Rattle.writer_core.specs.declared.round.Round.TheVariants as round
use Rattle.writer_core.specs.declared.phase.Phase.{Phase}
use Rattle.writer_core.specs.declared.phase.Phase.TheVariants as phase
use Rattle.writer_core.specs.declared.phase.Aim.{Aim}
use Rattle.writer_core.specs.declared.phase.Aim.TheVariants as aim
use Rattle.writer_core.specs.declared.slot.Slot.{Slot}
use Rattle.writer_core.specs.declared.slot.Slot.TheVariants.{Waiting, Told}
use Rattle.writer_core.specs.declared.task.Task.{Task}
use Rattle.writer_core.specs.declared.task.Task.TheVariants as task
use Rattle.writer_core.specs.declared.turn.Turn.TheVariants as turn
use Rattle.writer_core.specs.Views.{WriterView}
use Rattle.writer_core.specs.Answers.{fits_edits, is_ok, is_waiting, has_majority}
use Rattle.writer_core.specs.Best.{Best, best_of, greatest_promise, greatest_newest}
use Rattle.writer_core.specs.Rounds.{asks_all, asks_others, end_record, to_all, to_others, none_left_out, left_out_after, numbers_fit, judgment}
use Rattle.writer_core.specs.Rounds.{judgment_by, after_round, keep_going, stops_with, with_causes, next_serial, begin_propose, after_propose}
use Rattle.writer_core.specs.Rounds.{begin_recovery, after_finalize, after_open, after_write, failure_of, without_answer_of, after_no_edits}
use Rattle.writer_core.specs.Rounds.{keep_piece, after_edits, after_fetch}
use Rattle.writer_core.specs.Writer.{new_writer, Began, writer_begun, log_begins, log_limit, is_writing, if_writing, writer_stopped, is_under_way}
use Rattle.writer_core.specs.Writer.{next_call, call_in, writer_heard, heard_at, heard_in, judgment_when, with_answer}
use Rattle.writer_core.specs.Current.{is_fetch}
use Rattle.writer_core.specs.Sound.{IsOkAt, IsCounted}
use Rattle.writer_core.specs.Left.{FetchGoesOn, HasCall, HasCallIn, IsLive, IsReached}
use Rattle.writer_core.specs.Left.IsReached.{new, begun, heard, stopped as at_stop}
use Rattle.writer_core.proofs.Waiting.{any_place}
use Rattle.writer_core.proofs.RoundLaws.{count_cons, call_round}
use Rattle.writer_core.proofs.BestLaws.{best_counted}
use Rattle.writer_core.proofs.LeftLaws.{left_missed}

any_all : (left : List Bool) → list_any not left ≡ true → list_any is_waiting (to_all left) ≡ true
any_all [] h = cc
any_all (b ∷ bs) h = refl

any_others : (left : List Bool) → list_any not left ≡ true → list_any is_waiting (to_others left) ≡ true
any_others [] h = cc
any_others (true ∷ bs) h = any_others bs h
any_others (false ∷ bs) h = refl

any_none : (left : List Bool) → list_any not left ≡ true → list_any not (none_left_out left) ≡ true
any_none [] h = cc
any_none (b ∷ bs) h = refl

any_passes : (p : Slot → Bool) (slots : List Slot) → 0 < count_by p slots → list_any not (map (λ s. not (p s)) slots) ≡ true
any_passes p [] h = absurd (omega arith)
any_passes p (s ∷ slots) h = passes (p s) (any_passes p slots) (omega (arith, h, count_cons p s slots))
  where
    passes : (b : Bool) → (0 < count_by p slots → list_any not (map (λ s. not (p s)) slots) ≡ true) → 0 < cond b 1 0 + count_by p slots
        → (not (not b) || list_any not (map (λ s. not (p s)) slots)) ≡ true
    passes true rest k = refl
    passes false rest k = rest (omega (arith, k))

any_missed : (r : Round) (slots : List Slot) → has_majority r slots ≡ true → list_any not (left_out_after r slots) ≡ true
any_missed r slots h =
    let m : length slots < 2 * count_by (is_ok r) slots = grind (arith, nat_tests) in any_passes (is_ok r) slots (omega (arith, m))

len_all : (left : List Bool) → length left ≡ length (to_all left)
len_all left = sym (simp length-map)

len_others : (left : List Bool) → length left ≡ length (to_others left)
len_others left = sym (simp length-map)

-- the node of a call
first_of : Option (ℕ × Request) → Option ℕ
first_of None = None
first_of (Some c) = Some c.0

pub of_call : (r : Request) (o : Option ℕ) (k : ℕ) (q : Request) → option_map {U = ℕ × Request} (λ (node : ℕ). (node, r)) o ≡ Some (k, q) → o ≡ Some k
unfolding first_of
of_call r None k q h = absurd (cc h)
of_call r (Some i) k q h = ap first_of h

call_in_round : (r : Round) (slots : List Slot) → is_fetch r ≡ false → list_any is_waiting slots ≡ true → HasCallIn r slots
call_in_round round.State slots f h = h
call_in_round round.Propose slots f h = h
call_in_round (round.Prepare start) slots f h = h
call_in_round (round.Accept batch) slots f h = h
call_in_round (round.Finalize start end) slots f h = h
call_in_round round.Start slots f h = h
call_in_round round.Open slots f h = h
call_in_round (round.Write bodies) slots f h = h
call_in_round (round.Purge min) slots f h = h
call_in_round (round.Fetch node start end bodies) slots f h = cc

-- a round that all nodes, or those that aren't left out, are asked
live_all : (r : Round) (w : WriterView) → is_fetch r ≡ false → list_any not w.left ≡ true → IsLive (asks_all r w)
live_all r w f s = record { same = len_all w.left; some = s; call = call_in_round r (to_all w.left) f (any_all w.left s) }

live_others : (r : Round) (w : WriterView) → is_fetch r ≡ false → list_any not w.left ≡ true → IsLive (asks_others r w)
live_others r w f s = record { same = len_others w.left; some = s; call = call_in_round r (to_others w.left) f (any_others w.left s) }

-- ## After a round
live_done : (r : Round) (w : WriterView) → is_fetch r ≡ false → length w.left ≡ length w.slots → list_any not w.left ≡ true → has_majority r w.slots ≡ true
    → IsLive (after_round r w).writer
live_done round.State w f e s m =
    elim (nat_lt (greatest_promise w.slots) max_number) as (λ b. IsLive
    (cond b (keep_going (begin_propose (greatest_promise w.slots) w)) (stops_with (turn.EpochLimit (greatest_promise w.slots)) w)).writer)
    [ true ↦ record { same = len_all w.left; some = s; call = any_all w.left s } | false ↦ record { same = e; some = s; call = tt } ]
live_done round.Propose w f e s m = proposed (greatest_newest w.slots)
  where
    proposed : (o : Option ℕ) → IsLive (after_propose o (next_serial w))
    proposed None = record { same = len_all w.left; some = s; call = any_all w.left s }
    proposed (Some start) = record { same = len_all w.left; some = s; call = any_all w.left s }
live_done (round.Prepare start) w f e s m = recovered (best_of start w.slots) (best_counted start w.slots)
  where
    recovered : (o : Option Best) → IfSome o (λ b. IsCounted start b w.slots) → IsLive (begin_recovery start o (next_serial w))
    recovered None h = record { same = len_all w.left; some = s; call = any_all w.left s }
    recovered (Some best) h =
        record { same = e; some = s; call = record { missing = omega (arith, h.told); end_fits = h.end_fits; counted = h.counted } }
live_done (round.Fetch node start end bodies) w f e s m = cc
live_done (round.Accept batch) w f e s m = record { same = len_others w.left; some = s; call = any_others w.left s }
live_done (round.Finalize start end) w f e s m = finalized w.aim
  where
    finalized : (a : Aim) → IsLive (after_finalize a end (next_serial w)).writer
    finalized aim.Close = record { same = e; some = s; call = tt }
    finalized aim.Takeover = record { same = len_all w.left; some = s; call = any_all w.left s }
    finalized aim.Log = record { same = len_all w.left; some = s; call = any_all w.left s }
    finalized aim.Roll = record { same = len_all w.left; some = s; call = any_all w.left s }
    finalized aim.Purge = record { same = len_all w.left; some = s; call = any_all w.left s }
live_done round.Start w f e s m =
    let o = any_missed round.Start w.slots m in
    record { same = len_others (left_out_after round.Start w.slots); some = o; call = any_others (left_out_after round.Start w.slots) o }
live_done round.Open w f e s m = opened w.aim
  where
    opened : (a : Aim) → IsLive (after_open a (record (next_serial w) { committed = w.start; next = w.start + 1; left = left_out_after round.Open w.slots })).writer
    opened aim.Roll = record { same = left_missed round.Open w.slots; some = any_missed round.Open w.slots m; call = tt }
    opened aim.Takeover = record { same = left_missed round.Open w.slots; some = any_missed round.Open w.slots m; call = tt }
    opened aim.Log = record { same = left_missed round.Open w.slots; some = any_missed round.Open w.slots m; call = tt }
    opened aim.Close = record { same = left_missed round.Open w.slots; some = any_missed round.Open w.slots m; call = tt }
    opened aim.Purge = record { same = left_missed round.Open w.slots; some = any_missed round.Open w.slots m; call = tt }
live_done (round.Write bodies) w f e s m = written w.aim
  where
    o : list_any not (left_out_after (round.Write bodies) w.slots) ≡ true
    o = any_missed (round.Write bodies) w.slots m

    written : (a : Aim) → IsLive (after_write a w.next (w.next + length bodies - 1)
        (record (next_serial w) {
          committed = w.next + length bodies - 1;
          next = w.next + length bodies - 1 + 1;
          left = left_out_after (round.Write bodies) w.slots;
        })).writer
    written aim.Roll = record { same = len_others (left_out_after (round.Write bodies) w.slots); some = o; call = any_others (left_out_after (round.Write bodies) w.slots) o }
    written aim.Close = record { same = len_others (left_out_after (round.Write bodies) w.slots); some = o; call = any_others (left_out_after (round.Write bodies) w.slots) o }
    written aim.Takeover = record { same = left_missed (round.Write bodies) w.slots; some = o; call = tt }
    written aim.Log = record { same = left_missed (round.Write bodies) w.slots; some = o; call = tt }
    written aim.Purge = record { same = left_missed (round.Write bodies) w.slots; some = o; call = tt }
live_done (round.Purge min) w f e s m = record { same = e; some = s; call = tt }

judged_live : (r : Round) (w : WriterView) (b : Bool) → is_fetch r ≡ false → length w.left ≡ length w.slots → list_any not w.left ≡ true
    → (b ≡ true → has_majority r w.slots ≡ true) → IsLive (judgment_by b r w).writer
judged_live r w true f e s m = live_done r (with_causes r w) f e s (m refl)
judged_live r w false f e s m = record { same = e; some = s; call = tt }

whole_live : (r : Round) (w : WriterView) → is_fetch r ≡ false → length w.left ≡ length w.slots → list_any not w.left ≡ true → IsLive (judgment r w).writer
unfolding judgment
whole_live r w f e s = judged_live r w (numbers_fit w r && has_majority r w.slots) f e s (λ m. (and_parts (numbers_fit w r) (has_majority r w.slots) m).1)

-- ## After an answer
several_live : (r : Round) (w : WriterView) (node : ℕ) (h : Heard) (b : Bool) → is_fetch r ≡ false → w.phase ≡ phase.InRound r
    → list_any is_waiting (with_answer w node h).slots ≡ b → length w.left ≡ length w.slots → list_any not w.left ≡ true
    → IsLive (judgment_when b r (with_answer w node h)).writer
several_live r w node h true f p a e s =
    let n : length w.left ≡ length (set w.slots (node - 1) (Told h)) = e ∙ sym (length-set w.slots (node - 1) (Told h)) in
    record { same = n; some = s; call = rw p (call_in_round r (set w.slots (node - 1) (Told h)) f a) }
several_live r w node h false f p a e s =
    let n : length w.left ≡ length (set w.slots (node - 1) (Told h)) = e ∙ sym (length-set w.slots (node - 1) (Told h)) in
    whole_live r (with_answer w node h) f n s

not_fetched_live : (node start : ℕ) (h : Heard) (w : WriterView) → length w.left ≡ length w.slots → list_any not w.left ≡ true
    → IsLive (after_no_edits node start h w).writer
not_fetched_live node start h w e s =
    let n : length w.left ≡ length (set w.slots (node - 1) (Told (failure_of h))) = e ∙ sym (length-set w.slots (node - 1) (Told (failure_of h))) in
    judged_live (round.Prepare start) (without_answer_of node h w) (has_majority (round.Prepare start) (without_answer_of node h w).slots) refl n s (λ m. m)

pieced_live : (node start end : ℕ) (bodies : List (List ℕ)) (w : WriterView) (b : Bool) → nat_lt end (start + length bodies) ≡ b
    → length w.left ≡ length w.slots → list_any not w.left ≡ true → end ≤ max_number → IsOkAt (round.Prepare start) node w.slots
    → IsLive (keep_piece node start end bodies w)
pieced_live node start end bodies w true t e s m c = rw t (live_all (round.Accept (record { first = start; bodies = bodies })) w refl s)
pieced_live node start end bodies w false t e s m c =
    let n : start + length bodies ≤ end = grind (arith, nat_tests) in
    let l : IsLive (record w { phase = phase.InRound (round.Fetch node start end bodies) }) =
    record { same = e; some = s; call = record { missing = n; end_fits = m; counted = c } } in
    rw t l

edits_live : (b : Bool) (node start end : ℕ) (bodies : List (List ℕ)) (batch : BatchView) (w : WriterView) → length w.left ≡ length w.slots
    → list_any not w.left ≡ true → FetchGoesOn node start end bodies w.slots → IsLive (after_edits b node start end bodies batch w).writer
edits_live true node start end bodies batch w e s g =
    let more : List (List ℕ) = bodies ++ take (end + 1 - (start + length bodies)) batch.bodies in
    pieced_live node start end more (next_serial w) (nat_lt end (start + length more)) refl e s g.end_fits g.counted
edits_live false node start end bodies batch w e s g = not_fetched_live node start Silent w e s

fetched_live : (node start end : ℕ) (bodies : List (List ℕ)) (h : Heard) (w : WriterView) → length w.left ≡ length w.slots → list_any not w.left ≡ true
    → FetchGoesOn node start end bodies w.slots → IsLive (after_fetch node start end bodies h w).writer
unfolding after_fetch
fetched_live node start end bodies (Answer (reply.Edits batch)) w e s g =
    edits_live (numbers_fit w (round.Fetch node start end bodies) && fits_edits (start + length bodies) batch) node start end bodies batch w e s g
fetched_live node start end bodies Silent w e s g = not_fetched_live node start Silent w e s
fetched_live node start end bodies (Answer a) w e s g = not_fetched_live node start (Answer a) w e s

heard_live_in : (r : Round) (w : WriterView) (node : ℕ) (h : Heard) → w.phase ≡ phase.InRound r → length w.left ≡ length w.slots → list_any not w.left ≡ true
    → HasCallIn r w.slots → IsLive (heard_in r w node h).writer
heard_live_in (round.Fetch n start end bodies) w node h p e s g = fetched_live n start end bodies h w e s g
heard_live_in round.State w node h p e s g = several_live round.State w node h (list_any is_waiting (with_answer w node h).slots) refl p refl e s
heard_live_in round.Propose w node h p e s g = several_live round.Propose w node h (list_any is_waiting (with_answer w node h).slots) refl p refl e s
heard_live_in (round.Prepare start) w node h p e s g = several_live (round.Prepare start) w node h (list_any is_waiting (with_answer w node h).slots) refl p refl e s
heard_live_in (round.Accept batch) w node h p e s g = several_live (round.Accept batch) w node h (list_any is_waiting (with_answer w node h).slots) refl p refl e s
heard_live_in (round.Finalize start end) w node h p e s g = several_live (round.Finalize start end) w node h (list_any is_waiting (with_answer w node h).slots) refl p refl e s
heard_live_in round.Start w node h p e s g = several_live round.Start w node h (list_any is_waiting (with_answer w node h).slots) refl p refl e s
heard_live_in round.Open w node h p e s g = several_live round.Open w node h (list_any is_waiting (with_answer w node h).slots) refl p refl e s
heard_live_in (round.Write bodies) w node h p e s g = several_live (round.Write bodies) w node h (list_any is_waiting (with_answer w node h).slots) refl p refl e s
heard_live_in (round.Purge min) w node h p e s g = several_live (round.Purge min) w node h (list_any is_waiting (with_answer w node h).slots) refl p refl e s

heard_live_at : (p : Phase) (w : WriterView) (node : ℕ) (h : Heard) → w.phase ≡ p → IsLive w → HasCall p w.slots → IsLive (heard_at p w node h).writer
heard_live_at (phase.InRound r) w node h p l c = heard_live_in r w node h p l.same l.some c
heard_live_at phase.Idle w node h p l c = l
heard_live_at phase.Writing w node h p l c = l
heard_live_at phase.Stopped w node h p l c = l

pub heard_live : (w : WriterView) (node : ℕ) (h : Heard) → IsLive w → IsLive (writer_heard w node h).writer
unfolding writer_heard
heard_live w node h l = heard_live_at w.phase w node h refl l l.call

-- ## After a task's beginning, and a stop
if_live : (b : Bool) (began : Began) (w : WriterView) → IsLive began.writer → IsLive w → IsLive (if_writing b began w).writer
if_live true began w b l = b
if_live false began w b l = l

log_live : (o : Option ℕ) (bodies : List (List ℕ)) (w : WriterView) → IsLive w → IsLive (log_begins o bodies w).writer
log_live (Some number) bodies w l = l
log_live None bodies w l = live_others (round.Write bodies) (record w { aim = aim.Log }) refl l.some

pub begun_live : (w : WriterView) (t : Task) → IsLive w → IsLive (writer_begun w t).writer
unfolding writer_begun
begun_live w task.Takeover l =
    live_all round.State (record w { aim = aim.Takeover; left = none_left_out w.left }) refl (any_none w.left l.some)
begun_live w (task.Log bodies) l = if_live (is_writing w.phase) (log_begins (log_limit w bodies) bodies w) w (log_live (log_limit w bodies) bodies w l) l
begun_live w task.Roll l =
    if_live (is_writing w.phase) _ w (live_others (round.Write end_record) (record w { aim = aim.Roll }) refl l.some) l
begun_live w task.Close l =
    if_live (is_writing w.phase) _ w (live_others (round.Write end_record) (record w { aim = aim.Close }) refl l.some) l
begun_live w (task.Purge min) l =
    if_live (is_writing w.phase) _ w (live_all (round.Purge min) (record w { aim = aim.Purge }) refl l.some) l

pub stopped_live : (w : WriterView) → IsLive w → IsLive (writer_stopped w)
stopped_live w l = record { same = l.same; some = l.some; call = tt }

any_new : (nodes : ℕ) → 0 < nodes → list_any not (replicate nodes false) ≡ true
any_new zero h = absurd (omega arith)
any_new (suc nodes) h = refl

len_new : (nodes : ℕ) → length (replicate nodes false) ≡ length (replicate nodes Waiting)
len_new zero = refl
len_new (suc nodes) = omega (arith, len_new nodes)

pub new_live : (nodes : ℕ) → 0 < nodes → IsLive (new_writer nodes)
new_live nodes h = record { same = len_new nodes; some = any_new nodes h; call = tt }

pub reached_live : (nodes : ℕ) (w : WriterView) → 0 < nodes → IsReached nodes w → IsLive w
reached_live nodes w h (new n) = new_live n h
reached_live nodes w h (begun n v t r) = begun_live v t (reached_live n v h r)
reached_live nodes w h (heard n v node request t e r) = heard_live v node t (reached_live n v h r)
reached_live nodes w h (at_stop n v r) = stopped_live v (reached_live n v h r)

-- ## Someone is called
there : (o : Option ℕ) → is_some o ≡ true → (i : ℕ) × (o ≡ Some i)
there None h = cc
there (Some i) h = (i, refl)

call_there : (r : Round) (w : WriterView) → HasCallIn r w.slots → (node : ℕ) × (request : Request) × (call_in (phase.InRound r) w ≡ Some (node, request))
call_there (round.Fetch node start end bodies) w h = (node, _, refl)
call_there round.State w h =
    let t = there (position is_waiting w.slots) (sym (any_place is_waiting w.slots) ∙ h) in (t.0 + 1, _, call_round round.State w t.0 refl t.1)
call_there round.Propose w h =
    let t = there (position is_waiting w.slots) (sym (any_place is_waiting w.slots) ∙ h) in (t.0 + 1, _, call_round round.Propose w t.0 refl t.1)
call_there (round.Prepare start) w h =
    let t = there (position is_waiting w.slots) (sym (any_place is_waiting w.slots) ∙ h) in (t.0 + 1, _, call_round (round.Prepare start) w t.0 refl t.1)
call_there (round.Accept batch) w h =
    let t = there (position is_waiting w.slots) (sym (any_place is_waiting w.slots) ∙ h) in (t.0 + 1, _, call_round (round.Accept batch) w t.0 refl t.1)
call_there (round.Finalize start end) w h =
    let t = there (position is_waiting w.slots) (sym (any_place is_waiting w.slots) ∙ h) in (t.0 + 1, _, call_round (round.Finalize start end) w t.0 refl t.1)
call_there round.Start w h =
    let t = there (position is_waiting w.slots) (sym (any_place is_waiting w.slots) ∙ h) in (t.0 + 1, _, call_round round.Start w t.0 refl t.1)
call_there round.Open w h =
    let t = there (position is_waiting w.slots) (sym (any_place is_waiting w.slots) ∙ h) in (t.0 + 1, _, call_round round.Open w t.0 refl t.1)
call_there (round.Write bodies) w h =
    let t = there (position is_waiting w.slots) (sym (any_place is_waiting w.slots) ∙ h) in (t.0 + 1, _, call_round (round.Write bodies) w t.0 refl t.1)
call_there (round.Purge min) w h =
    let t = there (position is_waiting w.slots) (sym (any_place is_waiting w.slots) ∙ h) in (t.0 + 1, _, call_round (round.Purge min) w t.0 refl t.1)

call_at : (p : Phase) (w : WriterView) → HasCall p w.slots → is_under_way p ≡ true → (node : ℕ) × (request : Request) × (call_in p w ≡ Some (node, request))
call_at (phase.InRound r) w h u = call_there r w h
call_at phase.Idle w h u = cc
call_at phase.Writing w h u = cc
call_at phase.Stopped w h u = cc

pub someone_called : (w : WriterView) → IsLive w → is_under_way w.phase ≡ true → (node : ℕ) × (request : Request) × (next_call w ≡ Some (node, request))
someone_called w l u = call_at w.phase w l.call u

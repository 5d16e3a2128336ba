-- Answers that aren't of the Ok kind enter nowhere.
use Rattle.std.proofs.Common.{ℕ, ◌≡◌, ◌+◌, ◌-◌, ◌*◌, ◌&&◌, ◌++◌, List, [], ◌∷◌, length, Option, Some, None, Bool, true, false, cond, max, refl, sym, ap, ◌∙◌, set, map, take, count_by, nat_lt}
use Rattle.std.proofs.lemmas.List.{length-map, map-set}
use Rattle.journal_core.specs.Views.{BatchView}
use Rattle.journal_core.specs.Limits.{max_number}
use Rattle.journal_core.specs.declared.reply.Reply.{Reply}
use Rattle.journal_core.specs.declared.reply.Reply.TheVariants as reply
use Rattle.journal_core.specs.declared.heard.Heard.{Heard}
use Rattle.journal_core.specs.declared.heard.Heard.TheVariants.{Answer, Silent}
use Rattle.writer_core.specs.declared.cause.Cause.{Cause}
use Rattle.writer_core.specs.declared.round.Round.{Round}
use Rattle.writer_core.specs.declared.round.Round.TheVariants as round
use Rattle.writer_core.specs.declared.phase.Phase.{Phase}
use Rattle.writer_core.specs.declared.phase.Phase.TheVariants as phase
use Rattle.writer_core.specs.declared.phase.Aim.{Aim}
use Rattle.writer_core.specs.declared.phase.Aim.TheVariants as aim
use Rattle.writer_core.specs.declared.slot.Slot.{Slot}
use Rattle.writer_core.specs.declared.slot.Slot.TheVariants.{Waiting, LeftOut, Told}
use Rattle.writer_core.specs.declared.turn.Turn.TheVariants as turn
use Rattle.writer_core.specs.Views.{WriterView}
use Rattle.writer_core.specs.Answers.{fits_edits, fits_round, fits_state, fits_propose, fits_prepare, is_ok, has_majority}
use Rattle.writer_core.specs.Best.{Best, better, told_by, promise_in, promise_told, greatest_promise, greater, newest_in, newest_told, greatest_newest, segment_in, segment_told, best_from, best_of}
use Rattle.writer_core.specs.Rounds.{numbers_fit, left_out_after, judgment, judgment_by, after_round, with_causes, keep_going, stops_with}
use Rattle.writer_core.specs.Rounds.{next_serial, begin_propose, after_propose, begin_recovery, after_finalize, after_open, after_write, failure_of}
use Rattle.writer_core.specs.Rounds.{after_no_edits, keep_piece, after_edits, after_fetch}
use Rattle.writer_core.specs.Whole.{heard_of, fill_slots, round_heard}
use Rattle.writer_core.specs.Current.{is_fetch}
use Rattle.writer_core.specs.Heed.{is_counted_reply, answer_if, counted_reply, slot_if, counted_slot, counted_slots, bare, bare_judgment}
use Rattle.writer_core.proofs.RoundLaws.{count_cons}

-- ## One part
ok_if : (r : Round) (answer : Reply) (b : Bool) → fits_round r answer ≡ b → is_ok r (slot_if b answer) ≡ fits_round r answer
ok_if r answer true e = refl
ok_if r answer false e = sym e

ok_part : (r : Round) (s : Slot) → is_ok r (counted_slot r s) ≡ is_ok r s
ok_part r (Told (Answer answer)) = ok_if r answer (fits_round r answer) refl
ok_part r (Told Silent) = refl
ok_part r Waiting = refl
ok_part r LeftOut = refl

promise_if : (answer : Reply) (b : Bool) → fits_state answer ≡ b → promise_in (slot_if b answer) ≡ promise_told b answer
promise_if answer true e = rw e refl
promise_if answer false e = refl

promise_part : (s : Slot) → promise_in (counted_slot round.State s) ≡ promise_in s
promise_part (Told (Answer answer)) = promise_if answer (fits_state answer) refl
promise_part (Told Silent) = refl
promise_part Waiting = refl
promise_part LeftOut = refl

newest_if : (answer : Reply) (b : Bool) → fits_propose answer ≡ b → newest_in (slot_if b answer) ≡ newest_told b answer
newest_if answer true e = rw e refl
newest_if answer false e = refl

newest_part : (s : Slot) → newest_in (counted_slot round.Propose s) ≡ newest_in s
newest_part (Told (Answer answer)) = newest_if answer (fits_propose answer) refl
newest_part (Told Silent) = refl
newest_part Waiting = refl
newest_part LeftOut = refl

segment_if : (start : ℕ) (answer : Reply) (b : Bool) → fits_prepare start answer ≡ b → segment_in start (slot_if b answer) ≡ segment_told b answer
segment_if start answer true e = rw e refl
segment_if start answer false e = refl

segment_part : (start : ℕ) (s : Slot) → segment_in start (counted_slot (round.Prepare start) s) ≡ segment_in start s
segment_part start (Told (Answer answer)) = segment_if start answer (fits_prepare start answer) refl
segment_part start (Told Silent) = refl
segment_part start Waiting = refl
segment_part start LeftOut = refl

twice_if : (r : Round) (answer : Reply) (b : Bool) → fits_round r answer ≡ b → counted_slot r (slot_if b answer) ≡ slot_if b answer
twice_if r answer true e = rw e refl
twice_if r answer false e = refl

twice_part : (r : Round) (s : Slot) → counted_slot r (counted_slot r s) ≡ counted_slot r s
twice_part r (Told (Answer answer)) = twice_if r answer (fits_round r answer) refl
twice_part r (Told Silent) = refl
twice_part r Waiting = refl
twice_part r LeftOut = refl

-- ## All parts
ok_count : (r : Round) (slots : List Slot) → count_by (is_ok r) (map (counted_slot r) slots) ≡ count_by (is_ok r) slots
ok_count r [] = refl
ok_count r (s ∷ slots) =
    count_cons (is_ok r) (counted_slot r s) (map (counted_slot r) slots) ∙ rw (ok_part r s, ok_count r slots) (sym (count_cons (is_ok r) s slots))

majority_heeded : (r : Round) (slots : List Slot) → has_majority r (map (counted_slot r) slots) ≡ has_majority r slots
majority_heeded r slots =
    let n : length (map (counted_slot r) slots) ≡ length slots = simp length-map in
    let c = ok_count r slots in
    ap (λ (k : ℕ). nat_lt k (2 * count_by (is_ok r) (map (counted_slot r) slots))) n ∙ ap (λ (k : ℕ). nat_lt (length slots) (2 * k)) c

missed_heeded : (r : Round) (slots : List Slot) → left_out_after r (map (counted_slot r) slots) ≡ left_out_after r slots
missed_heeded r [] = refl
missed_heeded r (s ∷ slots) = rw (ok_part r s, missed_heeded r slots) refl

promise_heeded : (slots : List Slot) → greatest_promise (map (counted_slot round.State) slots) ≡ greatest_promise slots
unfolding greatest_promise
promise_heeded [] = refl
promise_heeded (s ∷ slots) = ap (λ (n : ℕ). max n (greatest_promise (map (counted_slot round.State) slots))) (promise_part s) ∙ ap (max (promise_in s)) (promise_heeded slots)

newest_heeded : (slots : List Slot) → greatest_newest (map (counted_slot round.Propose) slots) ≡ greatest_newest slots
unfolding greatest_newest
newest_heeded [] = refl
newest_heeded (s ∷ slots) = ap (λ (o : Option ℕ). greater o (greatest_newest (map (counted_slot round.Propose) slots))) (newest_part s) ∙ ap (greater (newest_in s)) (newest_heeded slots)

best_heeded : (start node : ℕ) (slots : List Slot) → best_from start node (map (counted_slot (round.Prepare start)) slots) ≡ best_from start node slots
unfolding best_from
best_heeded start node [] = refl
best_heeded start node (s ∷ slots) =
    ap (λ o. better (told_by node o) (best_from start (node + 1) (map (counted_slot (round.Prepare start)) slots))) (segment_part start s)
    ∙ ap (better (told_by node (segment_in start s))) (best_heeded start (node + 1) slots)

parts_twice : (r : Round) (slots : List Slot) → map (counted_slot r) (map (counted_slot r) slots) ≡ map (counted_slot r) slots
parts_twice r [] = refl
parts_twice r (s ∷ slots) = rw (twice_part r s, parts_twice r slots) refl

-- ## A round that was done
done_bare : (r : Round) (w : WriterView) (slots : List Slot) → is_fetch r ≡ false
    → bare_judgment (after_round r (with_causes r (record w { slots = slots })))
    ≡ bare_judgment (after_round r (with_causes r (record w { slots = map (counted_slot r) slots; causes = [] })))
done_bare round.State w slots f = rw (promise_heeded slots) (state (greatest_promise slots) (nat_lt (greatest_promise slots) max_number))
  where
    state : (told : ℕ) (b : Bool) → bare_judgment (cond b (keep_going (begin_propose told (with_causes round.State (record w { slots = slots }))))
        (stops_with (turn.EpochLimit told) (with_causes round.State (record w { slots = slots }))))
        ≡ bare_judgment (cond b (keep_going (begin_propose told (with_causes round.State
        (record w { slots = map (counted_slot round.State) slots; causes = [] }))))
        (stops_with (turn.EpochLimit told) (with_causes round.State (record w { slots = map (counted_slot round.State) slots; causes = [] }))))
    state told true = refl
    state told false = refl
done_bare round.Propose w slots f = rw (newest_heeded slots) (proposed (greatest_newest slots))
  where
    proposed : (o : Option ℕ) → bare_judgment (keep_going (after_propose o (next_serial (with_causes round.Propose (record w { slots = slots })))))
        ≡ bare_judgment (keep_going (after_propose o (next_serial (with_causes round.Propose (record w { slots = map (counted_slot round.Propose) slots; causes = [] })))))
    proposed None = refl
    proposed (Some start) = refl
done_bare (round.Prepare start) w slots f = rw (best_heeded start 1 slots) (recovered (best_of start slots))
  where
    recovered : (o : Option Best) → bare_judgment (keep_going (begin_recovery start o (next_serial (with_causes (round.Prepare start) (record w { slots = slots })))))
        ≡ bare_judgment (keep_going (begin_recovery start o (next_serial (with_causes (round.Prepare start) (record w { slots = map (counted_slot (round.Prepare start)) slots; causes = [] })))))
    recovered None = refl
    recovered (Some best) = rw (parts_twice (round.Prepare start) slots) refl
done_bare (round.Fetch node start end bodies) w slots f = cc
done_bare (round.Accept batch) w slots f = refl
done_bare (round.Finalize start end) w slots f = finalized w.aim
  where
    finalized : (a : Aim) → bare_judgment (after_finalize a end (next_serial (with_causes (round.Finalize start end) (record w { slots = slots }))))
        ≡ bare_judgment (after_finalize a end (next_serial (with_causes (round.Finalize start end) (record w { slots = map (counted_slot (round.Finalize start end)) slots; causes = [] }))))
    finalized aim.Close = refl
    finalized aim.Takeover = refl
    finalized aim.Log = refl
    finalized aim.Roll = refl
    finalized aim.Purge = refl
done_bare round.Start w slots f = rw (missed_heeded round.Start slots) refl
done_bare round.Open w slots f = opened w.aim (left_out_after round.Open slots) (left_out_after round.Open (map (counted_slot round.Open) slots)) (missed_heeded round.Open slots)
  where
    opened : (a : Aim) (x y : List Bool) → y ≡ x
        → bare_judgment (after_open a (record (next_serial (with_causes round.Open (record w { slots = slots }))) { committed = w.start; next = w.start + 1; left = x }))
        ≡ bare_judgment (after_open a (record (next_serial (with_causes round.Open
        (record w { slots = map (counted_slot round.Open) slots; causes = [] }))) { committed = w.start; next = w.start + 1; left = y }))
    opened aim.Roll x y e = rw e refl
    opened aim.Takeover x y e = rw e refl
    opened aim.Log x y e = rw e refl
    opened aim.Close x y e = rw e refl
    opened aim.Purge x y e = rw e refl
done_bare (round.Write bodies) w slots f =
    written (w.next + length bodies - 1) w.aim (left_out_after (round.Write bodies) slots)
    (left_out_after (round.Write bodies) (map (counted_slot (round.Write bodies)) slots)) (missed_heeded (round.Write bodies) slots)
  where
    written : (last : ℕ) (a : Aim) (x y : List Bool) → y ≡ x
        → bare_judgment (after_write a w.next last (record (next_serial (with_causes (round.Write bodies) (record w { slots = slots }))) { committed = last; next = last + 1; left = x }))
        ≡ bare_judgment (after_write a w.next last (record (next_serial
        (with_causes (round.Write bodies) (record w { slots = map (counted_slot (round.Write bodies)) slots; causes = [] }))) {
          committed = last;
          next = last + 1;
          left = y;
        }))
    written last aim.Roll x y e = rw e refl
    written last aim.Close x y e = rw e refl
    written last aim.Takeover x y e = rw e refl
    written last aim.Log x y e = rw e refl
    written last aim.Purge x y e = rw e refl
done_bare (round.Purge min) w slots f = refl

by_bare : (b : Bool) (r : Round) (w : WriterView) (slots : List Slot) → is_fetch r ≡ false
    → bare_judgment (judgment_by b r (record w { slots = slots })) ≡ bare_judgment (judgment_by b r (record w { slots = map (counted_slot r) slots; causes = [] }))
by_bare true r w slots f = done_bare r w slots f
by_bare false r w slots f = refl

numbers_bare : (r : Round) (w : WriterView) (slots : List Slot) (causes : List Cause) → numbers_fit (record w { slots = slots; causes = causes }) r ≡ numbers_fit w r
numbers_bare round.State w slots causes = refl
numbers_bare round.Propose w slots causes = refl
numbers_bare (round.Prepare start) w slots causes = refl
numbers_bare (round.Accept batch) w slots causes = refl
numbers_bare (round.Finalize start end) w slots causes = refl
numbers_bare round.Start w slots causes = refl
numbers_bare round.Open w slots causes = refl
numbers_bare (round.Write bodies) w slots causes = refl
numbers_bare (round.Purge min) w slots causes = refl
numbers_bare (round.Fetch node start end bodies) w slots causes = refl

judged_bare : (r : Round) (w : WriterView) (slots : List Slot) → is_fetch r ≡ false
    → bare_judgment (judgment r (record w { slots = slots })) ≡ bare_judgment (judgment r (record w { slots = map (counted_slot r) slots; causes = [] }))
unfolding judgment
judged_bare r w slots f =
    let v : WriterView = record w { slots = slots } in
    let u : WriterView = record w { slots = map (counted_slot r) slots; causes = [] } in
    let one : (numbers_fit v r && has_majority r slots) ≡ (numbers_fit w r && has_majority r slots) = ap (λ (b : Bool). b && has_majority r slots) (numbers_bare r w slots w.causes) in
    let other : (numbers_fit u r && has_majority r (map (counted_slot r) slots)) ≡ (numbers_fit w r && has_majority r slots) =
    ap (λ (b : Bool). b && has_majority r (map (counted_slot r) slots)) (numbers_bare r w (map (counted_slot r) slots) [])
    ∙ ap (λ (b : Bool). numbers_fit w r && b) (majority_heeded r slots) in
    ap (λ (b : Bool). bare_judgment (judgment_by b r v)) one
    ∙ (by_bare (numbers_fit w r && has_majority r slots) r w slots f ∙ sym (ap (λ (b : Bool). bare_judgment (judgment_by b r u)) other))

-- ## What is heard
heeds_round : (r : Round) (w : WriterView) (answer : Reply) → is_fetch r ≡ false → is_counted_reply w r answer ≡ fits_round r answer
heeds_round round.State w answer f = refl
heeds_round round.Propose w answer f = refl
heeds_round (round.Prepare start) w answer f = refl
heeds_round (round.Accept batch) w answer f = refl
heeds_round (round.Finalize start end) w answer f = refl
heeds_round round.Start w answer f = refl
heeds_round round.Open w answer f = refl
heeds_round (round.Write bodies) w answer f = refl
heeds_round (round.Purge min) w answer f = refl
heeds_round (round.Fetch node start end bodies) w answer f = cc

told_or : (r : Round) (answer : Reply) (b : Bool) → Told (heard_of (answer_if b answer)) ≡ slot_if b answer
told_or r answer true = refl
told_or r answer false = refl

heard_heeded : (r : Round) (w : WriterView) (o : Option Reply) → is_fetch r ≡ false → Told (heard_of (counted_reply w r o)) ≡ counted_slot r (Told (heard_of o))
heard_heeded r w None f = refl
heard_heeded r w (Some answer) f = rw (heeds_round r w answer f) (told_or r answer (fits_round r answer))

told_stays : (r : Round) (node : ℕ) (table : ℕ → Option Reply) (answer : Reply) (b : Bool) (slots : List Slot)
    → fill_slots node table (slot_if b answer ∷ slots) ≡ slot_if b answer ∷ fill_slots (node + 1) table slots
unfolding fill_slots
told_stays r node table answer true slots = refl
told_stays r node table answer false slots = refl

filled_heeded : (r : Round) (w : WriterView) (node : ℕ) (heard : ℕ → Option Reply) (slots : List Slot) → is_fetch r ≡ false
    → fill_slots node (λ n. counted_reply w r (heard n)) (map (counted_slot r) slots) ≡ map (counted_slot r) (fill_slots node heard slots)
unfolding fill_slots
filled_heeded r w node heard [] f = refl
filled_heeded r w node heard (Waiting ∷ slots) f =
    ap (λ s. s ∷ fill_slots (node + 1) (λ n. counted_reply w r (heard n)) (map (counted_slot r) slots)) (heard_heeded r w (heard node) f)
    ∙ ap (λ ss. counted_slot r (Told (heard_of (heard node))) ∷ ss) (filled_heeded r w (node + 1) heard slots f)
filled_heeded r w node heard (LeftOut ∷ slots) f = ap (λ ss. LeftOut ∷ ss) (filled_heeded r w (node + 1) heard slots f)
filled_heeded r w node heard (Told Silent ∷ slots) f = ap (λ ss. Told Silent ∷ ss) (filled_heeded r w (node + 1) heard slots f)
filled_heeded r w node heard (Told (Answer answer) ∷ slots) f =
    told_stays r node (λ n. counted_reply w r (heard n)) answer (fits_round r answer) (map (counted_slot r) slots)
    ∙ ap (λ ss. slot_if (fits_round r answer) answer ∷ ss) (filled_heeded r w (node + 1) heard slots f)

bare_is : (r : Round) (w : WriterView) → w.phase ≡ phase.InRound r → bare w ≡ record w { slots = map (counted_slot r) w.slots; causes = [] }
bare_is r w p = ap (λ (q : Phase). record w { slots = counted_slots q w.slots; causes = [] }) p

several_bare : (r : Round) (heard : ℕ → Option Reply) (w : WriterView) → is_fetch r ≡ false → w.phase ≡ phase.InRound r
    → bare_judgment (judgment r (record w { slots = fill_slots 1 heard w.slots }))
    ≡ bare_judgment (judgment r (record (bare w) { slots = fill_slots 1 (λ n. counted_reply w r (heard n)) (bare w).slots }))
several_bare r heard w f p =
    judged_bare r w (fill_slots 1 heard w.slots) f
    ∙ ap (λ ss. bare_judgment (judgment r (record w { slots = ss; causes = [] }))) (sym (filled_heeded r w 1 heard w.slots f))
    ∙ ap (λ (v : WriterView). bare_judgment (judgment r (record v { slots = fill_slots 1 (λ n. counted_reply w r (heard n)) v.slots }))) (sym (bare_is r w p))

-- ## A fetch
failed_part : (start : ℕ) (h : Heard) → counted_slot (round.Prepare start) (Told (failure_of h)) ≡ Told Silent
failed_part start Silent = refl
failed_part start (Answer (reply.Refused r)) = refl
failed_part start (Answer _) = refl

-- a fetch counts as the prepare does
parts_alike : (node start end : ℕ) (bodies : List (List ℕ)) (w : WriterView) → w.phase ≡ phase.InRound (round.Fetch node start end bodies)
    → bare w ≡ record w { slots = map (counted_slot (round.Prepare start)) w.slots; causes = [] }
parts_alike node start end bodies w p = rw p refl

lost_bare : (node start : ℕ) (h : Heard) (w : WriterView)
    → bare_judgment (after_no_edits node start h w) ≡ bare_judgment (after_no_edits node start Silent (record w { slots = map (counted_slot (round.Prepare start)) w.slots; causes = [] }))
lost_bare node start h w =
    let after : List Slot = set w.slots (node - 1) (Told (failure_of h)) in
    let m : map (counted_slot (round.Prepare start)) after ≡ set (map (counted_slot (round.Prepare start)) w.slots) (node - 1) (Told Silent) =
    map-set (counted_slot (round.Prepare start)) w.slots (node - 1) (Told (failure_of h)) ∙ rw (failed_part start h) refl in
    rw (← m) (rw (majority_heeded (round.Prepare start) after) (by_bare (has_majority (round.Prepare start) after) (round.Prepare start) w after refl))

pieced_bare : (b : Bool) (node start end : ℕ) (bodies : List (List ℕ)) (w : WriterView) → nat_lt end (start + length bodies) ≡ b
    → bare (keep_piece node start end bodies w) ≡ bare (keep_piece node start end bodies (record w { slots = map (counted_slot (round.Prepare start)) w.slots; causes = [] }))
pieced_bare true node start end bodies w e = rw e refl
pieced_bare false node start end bodies w e = rw (e, parts_twice (round.Prepare start) w.slots) refl

edits_bare : (b : Bool) (node start end : ℕ) (bodies : List (List ℕ)) (batch : BatchView) (w : WriterView)
    → (numbers_fit w (round.Fetch node start end bodies) && fits_edits (start + length bodies) batch) ≡ b
    → bare_judgment (after_edits b node start end bodies batch w)
    ≡ bare_judgment (after_fetch node start end bodies (heard_of (answer_if b (reply.Edits batch))) (record w { slots = map (counted_slot (round.Prepare start)) w.slots; causes = [] }))
unfolding after_fetch
edits_bare true node start end bodies batch w e =
    let more : List (List ℕ) = bodies ++ take (end + 1 - (start + length bodies)) batch.bodies in
    let n : (numbers_fit (record w { slots = map (counted_slot (round.Prepare start)) w.slots; causes = [] }) (round.Fetch node start end bodies) &&
    fits_edits (start + length bodies) batch) ≡ true = e in
    rw n (ap (λ (v : WriterView). record { writer = v; turn = turn.Going }) (pieced_bare (nat_lt end (start + length more)) node start end more (next_serial w) refl))
edits_bare false node start end bodies batch w e = lost_bare node start Silent w

fetched_bare : (node start end : ℕ) (bodies : List (List ℕ)) (o : Option Reply) (w : WriterView)
    → bare_judgment (after_fetch node start end bodies (heard_of o) w)
    ≡ bare_judgment (after_fetch node start end bodies (heard_of (counted_reply w (round.Fetch node start end bodies) o))
    (record w { slots = map (counted_slot (round.Prepare start)) w.slots; causes = [] }))
unfolding after_fetch
fetched_bare node start end bodies None w = lost_bare node start Silent w
fetched_bare node start end bodies (Some (reply.Edits batch)) w =
    edits_bare (numbers_fit w (round.Fetch node start end bodies) && fits_edits (start + length bodies) batch) node start end bodies batch w refl
fetched_bare node start end bodies (Some answer) w = lost_bare node start (Answer answer) w

-- ## Each round
round_bare : (r : Round) (heard : ℕ → Option Reply) (w : WriterView) → w.phase ≡ phase.InRound r
    → bare_judgment (round_heard r heard w) ≡ bare_judgment (round_heard r (λ n. counted_reply w r (heard n)) (bare w))
round_bare (round.Fetch node start end bodies) heard w p =
    fetched_bare node start end bodies (heard node) w
    ∙ ap (λ (v : WriterView). bare_judgment (after_fetch node start end bodies
    (heard_of (counted_reply w (round.Fetch node start end bodies) (heard node))) v)) (sym (parts_alike node start end bodies w p))
round_bare round.State heard w p = several_bare round.State heard w refl p
round_bare round.Propose heard w p = several_bare round.Propose heard w refl p
round_bare (round.Prepare start) heard w p = several_bare (round.Prepare start) heard w refl p
round_bare (round.Accept batch) heard w p = several_bare (round.Accept batch) heard w refl p
round_bare (round.Finalize start end) heard w p = several_bare (round.Finalize start end) heard w refl p
round_bare round.Start heard w p = several_bare round.Start heard w refl p
round_bare round.Open heard w p = several_bare round.Open heard w refl p
round_bare (round.Write bodies) heard w p = several_bare (round.Write bodies) heard w refl p
round_bare (round.Purge min) heard w p = several_bare (round.Purge min) heard w refl p

-- tables that agree
filled_same : (node : ℕ) (f g : ℕ → Option Reply) (slots : List Slot) → ((n : ℕ) → f n ≡ g n) → fill_slots node f slots ≡ fill_slots node g slots
unfolding fill_slots
filled_same node f g [] e = refl
filled_same node f g (Waiting ∷ slots) e = rw (e node, filled_same (node + 1) f g slots e) refl
filled_same node f g (LeftOut ∷ slots) e = rw (filled_same (node + 1) f g slots e) refl
filled_same node f g (Told h ∷ slots) e = rw (filled_same (node + 1) f g slots e) refl

round_same : (r : Round) (f g : ℕ → Option Reply) (w : WriterView) → ((n : ℕ) → f n ≡ g n) → round_heard r f w ≡ round_heard r g w
round_same (round.Fetch node start end bodies) f g w e = rw (e node) refl
round_same round.State f g w e = rw (filled_same 1 f g w.slots e) refl
round_same round.Propose f g w e = rw (filled_same 1 f g w.slots e) refl
round_same (round.Prepare start) f g w e = rw (filled_same 1 f g w.slots e) refl
round_same (round.Accept batch) f g w e = rw (filled_same 1 f g w.slots e) refl
round_same (round.Finalize start end) f g w e = rw (filled_same 1 f g w.slots e) refl
round_same round.Start f g w e = rw (filled_same 1 f g w.slots e) refl
round_same round.Open f g w e = rw (filled_same 1 f g w.slots e) refl
round_same (round.Write bodies) f g w e = rw (filled_same 1 f g w.slots e) refl
round_same (round.Purge min) f g w e = rw (filled_same 1 f g w.slots e) refl

pub ok_decides : (w v : WriterView) (r : Round) (heard other : ℕ → Option Reply) → w.phase ≡ phase.InRound r → bare w ≡ bare v
    → ((node : ℕ) → counted_reply w r (heard node) ≡ counted_reply v r (other node)) → bare_judgment (round_heard r heard w) ≡ bare_judgment (round_heard r other v)
ok_decides w v r heard other p e h =
    let q : v.phase ≡ phase.InRound r = sym (ap (λ (x : WriterView). x.phase) e) ∙ p in
    round_bare r heard w p
    ∙ ap (λ (x : WriterView). bare_judgment (round_heard r (λ n. counted_reply w r (heard n)) x)) e
    ∙ ap bare_judgment (round_same r (λ n. counted_reply w r (heard n)) (λ n. counted_reply v r (other n)) (bare v) h)
    ∙ sym (round_bare r other v q)

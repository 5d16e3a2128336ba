-- Each answer leaves fewer calls to make, and while a round is under way one is to be made.
use Rattle.std.proofs.Common.{ℕ, ◌≡◌, ◌<◌, ◌≤◌, ◌+◌, ◌-◌, ◌*◌, ◌&&◌, ◌++◌, List, [], ◌∷◌, length, Option, Some, None, Bool, true, false, cond, refl}
use Rattle.std.proofs.Common.{sym, ap, arith, suc, zero, ◌∙◌, set, take, slice_get, ◌==◌, position, option_map, count_by, nat_lt, length-append}
use Rattle.std.specs.List.{list_any, position_or_len}
use Rattle.std.proofs.lemmas.Bool.Decides.{nat_tests}
use Rattle.std.proofs.lemmas.List.{length-map, length-set}
use Rattle.std.proofs.lemmas.List.Sums.{count_by-le-length}
use Rattle.journal_core.specs.Views.{BatchView, last_txid}
use Rattle.journal_core.specs.Segments.{any_body}
use Rattle.journal_core.specs.Limits.{max_number}
use Rattle.journal_core.specs.declared.request.Request.{Request}
use Rattle.journal_core.specs.declared.reply.Reply.TheVariants as reply
use Rattle.journal_core.specs.declared.heard.Heard.{Heard}
use Rattle.journal_core.specs.declared.heard.Heard.TheVariants.{Answer, Silent}
use Rattle.journal_core.proofs.Stored.{some_body}
use Rattle.writer_core.specs.declared.round.Round.{Round}
use Rattle.writer_core.specs.declared.round.Round.TheVariants as round
use Rattle.writer_core.specs.declared.phase.Phase.{Phase}
use Rattle.writer_core.specs.declared.phase.Phase.TheVariants as phase
use Rattle.writer_core.specs.declared.phase.Aim.{Aim}
use Rattle.writer_core.specs.declared.phase.Aim.TheVariants as aim
use Rattle.writer_core.specs.declared.slot.Slot.{Slot}
use Rattle.writer_core.specs.declared.slot.Slot.TheVariants.{Waiting, LeftOut, Told}
use Rattle.writer_core.specs.declared.turn.Turn.{Turn}
use Rattle.writer_core.specs.declared.turn.Turn.TheVariants as turn
use Rattle.writer_core.specs.Views.{WriterView}
use Rattle.writer_core.specs.Answers.{fits, fits_edits, is_ok, is_waiting, has_majority}
use Rattle.writer_core.specs.Best.{Best, best_of, greatest_promise, greatest_newest}
use Rattle.writer_core.specs.Rounds.{to_all, to_others, left_out_after, numbers_fit, judgment, judgment_by, after_round, keep_going, stops_with}
use Rattle.writer_core.specs.Rounds.{with_causes, next_serial, begin_propose, after_propose, begin_recovery, after_finalize, after_open, after_write}
use Rattle.writer_core.specs.Rounds.{failure_of, without_answer_of, after_no_edits, keep_piece, after_edits, after_fetch}
use Rattle.writer_core.specs.Writer.{is_under_way, next_call, call_in, writer_heard, heard_at, heard_in, judgment_when, with_answer}
use Rattle.writer_core.specs.Current.{is_fetch}
use Rattle.writer_core.specs.Sound.{IsOkAt, IsSound, PhaseIsSound}
use Rattle.writer_core.specs.Left.{most_pieces, calls_now, calls_after, calls_left_in, calls_left, FetchGoesOn, HasCall, IsLive}
use Rattle.writer_core.proofs.Judging.{one_fewer, place_is, fewer_left}
use Rattle.writer_core.proofs.Steps.{heard_round}
use Rattle.writer_core.proofs.RoundLaws.{count_cons}

-- ## Nodes that wait
all_wait : (left : List Bool) → count_by is_waiting (to_all left) ≡ length left
all_wait [] = refl
all_wait (b ∷ bs) = omega (arith, all_wait bs, count_cons is_waiting Waiting (to_all bs))

others_wait : (left : List Bool) → count_by is_waiting (to_others left) ≤ length left
others_wait [] = omega arith
others_wait (true ∷ bs) = omega (arith, others_wait bs, count_cons is_waiting LeftOut (to_others bs))
others_wait (false ∷ bs) = omega (arith, others_wait bs, count_cons is_waiting Waiting (to_others bs))

-- ## What is left after a round
pub left_missed : (r : Round) (slots : List Slot) → length (left_out_after r slots) ≡ length slots
left_missed r slots = simp length-map

done_left : (r : Round) (w : WriterView) → is_fetch r ≡ false → length w.left ≡ length w.slots
    → calls_left (after_round r w).writer ≤ calls_after r (length w.left)
done_left round.State w f e =
    elim (nat_lt (greatest_promise w.slots) max_number) as (λ b. calls_left
    (cond b (keep_going (begin_propose (greatest_promise w.slots) w)) (stops_with (turn.EpochLimit (greatest_promise w.slots)) w)).writer ≤
    (most_pieces + 6) * length w.left)
    [ true ↦ omega (arith, all_wait w.left) | false ↦ omega arith ]
done_left round.Propose w f e = proposed (greatest_newest w.slots)
  where
    proposed : (o : Option ℕ) → calls_left (after_propose o (next_serial w)) ≤ (most_pieces + 5) * length w.left
    proposed None = omega (arith, all_wait w.left)
    proposed (Some start) = omega (arith, all_wait w.left)
done_left (round.Prepare start) w f e = recovered (best_of start w.slots)
  where
    recovered : (o : Option Best) → calls_left (begin_recovery start o (next_serial w)) ≤ (most_pieces + 4) * length w.left
    recovered None = omega (arith, all_wait w.left)
    recovered (Some best) = omega (arith, count_by-le-length (is_ok (round.Prepare start)) w.slots, e)
done_left (round.Fetch node start end bodies) w f e = cc
done_left (round.Accept batch) w f e = omega (arith, others_wait w.left)
done_left (round.Finalize start end) w f e = finalized w.aim
  where
    finalized : (a : Aim) → calls_left (after_finalize a end (next_serial w)).writer ≤ 2 * length w.left
    finalized aim.Close = omega arith
    finalized aim.Takeover = omega (arith, all_wait w.left)
    finalized aim.Log = omega (arith, all_wait w.left)
    finalized aim.Roll = omega (arith, all_wait w.left)
    finalized aim.Purge = omega (arith, all_wait w.left)
done_left round.Start w f e = omega (arith, others_wait (left_out_after round.Start w.slots), left_missed round.Start w.slots, e)
done_left round.Open w f e = opened w.aim
  where
    opened : (a : Aim) → calls_left (after_open a (record (next_serial w) { committed = w.start; next = w.start + 1; left = left_out_after round.Open w.slots })).writer ≤ 0
    opened aim.Roll = omega arith
    opened aim.Takeover = omega arith
    opened aim.Log = omega arith
    opened aim.Close = omega arith
    opened aim.Purge = omega arith
done_left (round.Write bodies) w f e = written w.aim
  where
    last : ℕ
    last = w.next + length bodies - 1

    written : (a : Aim) → calls_left (after_write a w.next (w.next + length bodies - 1)
        (record (next_serial w) {
          committed = w.next + length bodies - 1;
          next = w.next + length bodies - 1 + 1;
          left = left_out_after (round.Write bodies) w.slots;
        })).writer ≤ 3 * length w.left
    written aim.Roll = omega (arith, others_wait (left_out_after (round.Write bodies) w.slots), left_missed (round.Write bodies) w.slots, e)
    written aim.Close = omega (arith, others_wait (left_out_after (round.Write bodies) w.slots), left_missed (round.Write bodies) w.slots, e)
    written aim.Takeover = omega arith
    written aim.Log = omega arith
    written aim.Purge = omega arith
done_left (round.Purge min) w f e = omega arith

judged_left : (r : Round) (w : WriterView) → is_fetch r ≡ false → length w.left ≡ length w.slots
    → calls_left (judgment r w).writer ≤ calls_after r (length w.left)
unfolding judgment
judged_left r w f e =
    elim (numbers_fit w r && has_majority r w.slots) as (λ b. calls_left (judgment_by b r w).writer ≤ calls_after r (length w.left))
    [ true ↦ done_left r (with_causes r w) f e | false ↦ omega arith ]

-- ## A round that asks several nodes
now_waits : (r : Round) (slots : List Slot) → is_fetch r ≡ false → calls_now r slots ≡ count_by is_waiting slots
now_waits round.State slots f = refl
now_waits round.Propose slots f = refl
now_waits (round.Prepare start) slots f = refl
now_waits (round.Accept batch) slots f = refl
now_waits (round.Finalize start end) slots f = refl
now_waits round.Start slots f = refl
now_waits round.Open slots f = refl
now_waits (round.Write bodies) slots f = refl
now_waits (round.Purge min) slots f = refl
now_waits (round.Fetch node start end bodies) slots f = cc

-- the node that such a round names
abbrev with_request : Request → ℕ → ℕ × Request
with_request r n = (n, r)

abbrev node_of : Option (ℕ × Request) → ℕ
node_of None = 0
node_of (Some p) = p.0

named_place : (o : Option ℕ) (node : ℕ) (r : Request) (request : Request) → option_map (with_request r) (option_map (λ i. i + 1) o) ≡ Some (node, request)
    → (o ≡ Some (node - 1)) × (0 < node)
named_place (Some i) node r request h =
    let e : i + 1 ≡ node = ap node_of h in let n : i ≡ node - 1 = omega (arith, e) in (rw n refl, omega (arith, e))
named_place None node r request h = cc

pub named_in : (r : Round) (w : WriterView) (node : ℕ) (request : Request) → is_fetch r ≡ false → call_in (phase.InRound r) w ≡ Some (node, request)
    → (position is_waiting w.slots ≡ Some (node - 1)) × (0 < node)
named_in round.State w node request f h = named_place (position is_waiting w.slots) node _ request h
named_in round.Propose w node request f h = named_place (position is_waiting w.slots) node _ request h
named_in (round.Prepare start) w node request f h = named_place (position is_waiting w.slots) node _ request h
named_in (round.Accept batch) w node request f h = named_place (position is_waiting w.slots) node _ request h
named_in (round.Finalize start end) w node request f h = named_place (position is_waiting w.slots) node _ request h
named_in round.Start w node request f h = named_place (position is_waiting w.slots) node _ request h
named_in round.Open w node request f h = named_place (position is_waiting w.slots) node _ request h
named_in (round.Write bodies) w node request f h = named_place (position is_waiting w.slots) node _ request h
named_in (round.Purge min) w node request f h = named_place (position is_waiting w.slots) node _ request h
named_in (round.Fetch n start end bodies) w node request f h = cc

-- the slot at the first place waits
waits_at : (slots : List Slot) (i : ℕ) → position_or_len is_waiting slots ≡ i → i < length slots → slice_get slots i ≡ Some Waiting
waits_at [] i e l = absurd (omega arith)
waits_at (Waiting ∷ slots) zero e l = refl
waits_at (Waiting ∷ slots) (suc i) e l = absurd (omega (arith, e))
waits_at (LeftOut ∷ slots) zero e l = absurd (omega (arith, e))
waits_at (LeftOut ∷ slots) (suc i) e l = waits_at slots i (omega (arith, e)) (omega arith)
waits_at (Told t ∷ slots) zero e l = absurd (omega (arith, e))
waits_at (Told t ∷ slots) (suc i) e l = waits_at slots i (omega (arith, e)) (omega arith)

pub one_less : (slots : List Slot) (node : ℕ) (h : Heard) → position is_waiting slots ≡ Some (node - 1)
    → count_by is_waiting (set slots (node - 1) (Told h)) + 1 ≡ count_by is_waiting slots
one_less slots node h e =
    let p = place_is is_waiting slots (node - 1) e in
    one_fewer is_waiting slots (node - 1) Waiting (Told h) (waits_at slots (node - 1) p.0 p.1) refl refl

several_left : (r : Round) (w : WriterView) (node : ℕ) (h : Heard) (b : Bool) → is_fetch r ≡ false → length w.left ≡ length w.slots → w.phase ≡ phase.InRound r
    → position is_waiting w.slots ≡ Some (node - 1) → calls_left (judgment_when b r (with_answer w node h)).writer < count_by is_waiting w.slots + calls_after r (length w.left)
several_left r w node h true f e p n =
    let o = one_less w.slots node h n in
    let c : calls_left (with_answer w node h) ≡ count_by is_waiting (set w.slots (node - 1) (Told h)) + calls_after r (length w.left) =
    rw p (rw (now_waits r (set w.slots (node - 1) (Told h)) f) refl) in
    omega (arith, o, c)
several_left r w node h false f e p n =
    let o = one_less w.slots node h n in
    let s : length (set w.slots (node - 1) (Told h)) ≡ length w.slots = length-set w.slots (node - 1) (Told h) in
    omega (arith, o, judged_left r (with_answer w node h) f (e ∙ sym s))

-- ## A fetch
some_counted : (r : Round) (slots : List Slot) (node : ℕ) → IsOkAt r node slots → 0 < count_by (is_ok r) slots
some_counted r slots node c = omega (arith, one_fewer (is_ok r) slots (node - 1) c.0 LeftOut c.2 c.3 (left_out_fails r))
  where
    left_out_fails : (r : Round) → is_ok r LeftOut ≡ false
    left_out_fails r = refl

lost_left : (start : ℕ) (t : WriterView) (b : Bool) (c len : ℕ) → length t.left ≡ length t.slots
    → count_by (is_ok (round.Prepare start)) t.slots + 1 ≡ c → len < most_pieces
    → calls_left (judgment_by b (round.Prepare start) t).writer < most_pieces * c - len + 4 * length t.left
lost_left start t true c len e k l = recovered (best_of start t.slots)
  where
    recovered : (o : Option Best) → calls_left (begin_recovery start o (next_serial (with_causes (round.Prepare start) t))) < most_pieces * c - len + 4 * length t.left
    recovered None = omega (arith, all_wait t.left, k)
    recovered (Some best) = omega (arith, k)
lost_left start t false c len e k l = omega (arith, k)

failed_twice : (h : Heard) → failure_of (failure_of h) ≡ failure_of h
failed_twice Silent = refl
failed_twice (Answer (reply.Refused r)) = refl
failed_twice (Answer _) = refl

not_fetched_left : (node start end : ℕ) (bodies : List (List ℕ)) (h : Heard) (w : WriterView) → length w.left ≡ length w.slots
    → FetchGoesOn node start end bodies w.slots
    → calls_left (after_no_edits node start h w).writer < calls_now (round.Fetch node start end bodies) w.slots + 4 * length w.left
not_fetched_left node start end bodies h w e g =
    let s : length (set w.slots (node - 1) (Told (failure_of h))) ≡ length w.slots = length-set w.slots (node - 1) (Told (failure_of h)) in
    let k : count_by (is_ok (round.Prepare start)) (set w.slots (node - 1) (Told (failure_of h))) + 1 ≡ count_by (is_ok (round.Prepare start)) w.slots =
    fewer_left start node (failure_of h) w.slots (failed_twice h) g.counted in
    lost_left start (without_answer_of node h w) (has_majority (round.Prepare start) (without_answer_of node h w).slots) (count_by (is_ok (round.Prepare start)) w.slots) (length bodies)
    (e ∙ sym s) k (omega (arith, g.missing, g.end_fits))

pieced_left : (node start end len c : ℕ) (bodies : List (List ℕ)) (w : WriterView) (b : Bool) → nat_lt end (start + length bodies) ≡ b
    → len < length bodies → len + start ≤ end → end ≤ max_number → c ≡ count_by (is_ok (round.Prepare start)) w.slots → 0 < c
    → calls_left (keep_piece node start end bodies w) < most_pieces * c - len + 4 * length w.left
pieced_left node start end len c bodies w true t l m e k p =
    rw t (omega (arith, all_wait w.left))
pieced_left node start end len c bodies w false t l m e k p =
    let n : start + length bodies ≤ end = grind (arith, nat_tests) in
    rw t (omega (arith, n, k))

edits_left : (b : Bool) (node start end : ℕ) (bodies : List (List ℕ)) (batch : BatchView) (w : WriterView) → length w.left ≡ length w.slots
    → FetchGoesOn node start end bodies w.slots → (b ≡ true → any_body batch.bodies ≡ true)
    → calls_left (after_edits b node start end bodies batch w).writer < calls_now (round.Fetch node start end bodies) w.slots + 4 * length w.left
edits_left true node start end bodies batch w e g some =
    let room : ℕ = end + 1 - (start + length bodies) in
    let more : List (List ℕ) = bodies ++ take room batch.bodies in
    let t : 0 < length (take room batch.bodies) = longer batch.bodies room (some_body batch.bodies (some refl)) (omega (arith, g.missing)) in
    let n : length more ≡ length bodies + length (take room batch.bodies) = length-append bodies (take room batch.bodies) in
    pieced_left node start end (length bodies) (count_by (is_ok (round.Prepare start)) w.slots) more (next_serial w) (nat_lt end (start + length more)) refl
    (omega (arith, n, t)) (omega (arith, g.missing)) g.end_fits refl (some_counted (round.Prepare start) w.slots node g.counted)
  where
    longer : (xs : List (List ℕ)) (n : ℕ) → 0 < length xs → 0 < n → 0 < length (take n xs)
    longer [] n h k = absurd (omega arith)
    longer (x ∷ xs) zero h k = absurd (omega arith)
    longer (x ∷ xs) (suc n) h k = omega arith
edits_left false node start end bodies batch w e g some = not_fetched_left node start end bodies Silent w e g

edits_some : (w : WriterView) (r : Round) (from : ℕ) (batch : BatchView) → (numbers_fit w r && fits_edits from batch) ≡ true → any_body batch.bodies ≡ true
edits_some w r from batch h = last_of (numbers_fit w r) (batch.first == from) (any_body batch.bodies) (fits (last_txid batch)) h
  where
    last_of : (a b c d : Bool) → (a && (b && (c && d))) ≡ true → c ≡ true
    last_of true true true d h = refl
    last_of true true false d h = cc
    last_of true false c d h = cc
    last_of false b c d h = cc

fetched_left : (node start end : ℕ) (bodies : List (List ℕ)) (h : Heard) (w : WriterView) → length w.left ≡ length w.slots
    → FetchGoesOn node start end bodies w.slots
    → calls_left (after_fetch node start end bodies h w).writer < calls_now (round.Fetch node start end bodies) w.slots + 4 * length w.left
unfolding after_fetch
fetched_left node start end bodies (Answer (reply.Edits batch)) w e g =
    edits_left (numbers_fit w (round.Fetch node start end bodies) && fits_edits (start + length bodies) batch) node start end bodies batch w e g
    (edits_some w (round.Fetch node start end bodies) (start + length bodies) batch)
fetched_left node start end bodies Silent w e g = not_fetched_left node start end bodies Silent w e g
fetched_left node start end bodies (Answer a) w e g = not_fetched_left node start end bodies (Answer a) w e g

-- ## Each answer leaves fewer calls
-- what a fetch needs: that it goes on
pub FetchIn : Phase → List Slot → Type 0
FetchIn (phase.InRound (round.Fetch node start end bodies)) slots = FetchGoesOn node start end bodies slots
FetchIn _ slots = Unit {0}

heard_several : (r : Round) (w : WriterView) (node : ℕ) (request : Request) (h : Heard) → is_fetch r ≡ false → length w.left ≡ length w.slots
    → w.phase ≡ phase.InRound r → call_in (phase.InRound r) w ≡ Some (node, request)
    → calls_left (heard_in r w node h).writer < calls_left_in (phase.InRound r) w
heard_several r w node request h f e p c =
    let n = named_in r w node request f c in
    let s = several_left r w node h (list_any is_waiting (with_answer w node h).slots) f e p n.0 in
    rw (heard_round r w node h f) (rw (now_waits r w.slots f) s)

run_out_in : (r : Round) (w : WriterView) (node : ℕ) (request : Request) (h : Heard) → length w.left ≡ length w.slots → FetchIn (phase.InRound r) w.slots
    → w.phase ≡ phase.InRound r → call_in (phase.InRound r) w ≡ Some (node, request)
    → calls_left (heard_in r w node h).writer < calls_left_in (phase.InRound r) w
unfolding FetchIn
run_out_in (round.Fetch n start end bodies) w node request h e g p c = fetched_left n start end bodies h w e g
run_out_in round.State w node request h e g p c = heard_several round.State w node request h refl e p c
run_out_in round.Propose w node request h e g p c = heard_several round.Propose w node request h refl e p c
run_out_in (round.Prepare start) w node request h e g p c = heard_several (round.Prepare start) w node request h refl e p c
run_out_in (round.Accept batch) w node request h e g p c = heard_several (round.Accept batch) w node request h refl e p c
run_out_in (round.Finalize start end) w node request h e g p c = heard_several (round.Finalize start end) w node request h refl e p c
run_out_in round.Start w node request h e g p c = heard_several round.Start w node request h refl e p c
run_out_in round.Open w node request h e g p c = heard_several round.Open w node request h refl e p c
run_out_in (round.Write bodies) w node request h e g p c = heard_several (round.Write bodies) w node request h refl e p c
run_out_in (round.Purge min) w node request h e g p c = heard_several (round.Purge min) w node request h refl e p c

run_out_at : (p : Phase) (w : WriterView) (node : ℕ) (request : Request) (h : Heard) → length w.left ≡ length w.slots → FetchIn p w.slots
    → w.phase ≡ p → call_in p w ≡ Some (node, request) → calls_left (heard_at p w node h).writer < calls_left_in p w
run_out_at (phase.InRound r) w node request h e g p c = run_out_in r w node request h e g p c
run_out_at phase.Idle w node request h e g p c = cc
run_out_at phase.Writing w node request h e g p c = cc
run_out_at phase.Stopped w node request h e g p c = cc

pub run_out : (w : WriterView) (node : ℕ) (request : Request) (h : Heard) → length w.left ≡ length w.slots → FetchIn w.phase w.slots
    → next_call w ≡ Some (node, request) → calls_left (writer_heard w node h).writer < calls_left w
unfolding writer_heard
run_out w node request h e g c = run_out_at w.phase w node request h e g refl c

fetch_in : (p : Phase) (slots : List Slot) → HasCall p slots → FetchIn p slots
unfolding FetchIn
fetch_in (phase.InRound (round.Fetch node start end bodies)) slots h = h
fetch_in (phase.InRound round.State) slots h = tt
fetch_in (phase.InRound round.Propose) slots h = tt
fetch_in (phase.InRound (round.Prepare start)) slots h = tt
fetch_in (phase.InRound (round.Accept batch)) slots h = tt
fetch_in (phase.InRound (round.Finalize start end)) slots h = tt
fetch_in (phase.InRound round.Start) slots h = tt
fetch_in (phase.InRound round.Open) slots h = tt
fetch_in (phase.InRound (round.Write bodies)) slots h = tt
fetch_in (phase.InRound (round.Purge min)) slots h = tt
fetch_in phase.Idle slots h = tt
fetch_in phase.Writing slots h = tt
fetch_in phase.Stopped slots h = tt

pub live_run_out : (w : WriterView) (node : ℕ) (request : Request) (h : Heard) → IsLive w → next_call w ≡ Some (node, request)
    → calls_left (writer_heard w node h).writer < calls_left w
live_run_out w node request h l c = run_out w node request h l.same (fetch_in w.phase w.slots l.call) c

sound_fetch : (p : Phase) (w : WriterView) → PhaseIsSound p w → FetchIn p w.slots
unfolding FetchIn
sound_fetch (phase.InRound (round.Fetch node start end bodies)) w h = record { missing = h.missing; end_fits = h.end_fits; counted = h.counted }
sound_fetch (phase.InRound round.State) w h = tt
sound_fetch (phase.InRound round.Propose) w h = tt
sound_fetch (phase.InRound (round.Prepare start)) w h = tt
sound_fetch (phase.InRound (round.Accept batch)) w h = tt
sound_fetch (phase.InRound (round.Finalize start end)) w h = tt
sound_fetch (phase.InRound round.Start) w h = tt
sound_fetch (phase.InRound round.Open) w h = tt
sound_fetch (phase.InRound (round.Write bodies)) w h = tt
sound_fetch (phase.InRound (round.Purge min)) w h = tt
sound_fetch phase.Idle w h = tt
sound_fetch phase.Writing w h = tt
sound_fetch phase.Stopped w h = tt

named_call : (o : Option (ℕ × Request)) (node : ℕ) → option_map (λ call. call.0) o ≡ Some node → (request : Request) × (o ≡ Some (node, request))
named_call (Some call) node h = (call.1, let e : call.0 ≡ node = cc in rw (← e) refl)
named_call None node h = cc

-- each answer to a sound writer leaves fewer calls
pub fewer : (w v : WriterView) (node : ℕ) (h : Heard) (t : Turn) → writer_heard w node h ≡ record { writer = v; turn = t } → IsSound w
    → option_map (λ call. call.0) (next_call w) ≡ Some node → calls_left v < calls_left w
fewer w v node h t e s n =
    let c = named_call (next_call w) node n in
    let l = run_out w node c.0 h s.left (sound_fetch w.phase w s.phase) c.1 in
    rw e at l

under_way_in : (p : Phase) (w : WriterView) (node : ℕ) → option_map (λ call. call.0) (call_in p w) ≡ Some node → is_under_way p ≡ true
under_way_in (phase.InRound r) w node h = refl
under_way_in phase.Idle w node h = cc
under_way_in phase.Writing w node h = cc
under_way_in phase.Stopped w node h = cc

pub under_way : (w : WriterView) (node : ℕ) → option_map (λ call. call.0) (next_call w) ≡ Some node → is_under_way w.phase ≡ true
under_way w node h = under_way_in w.phase w node h

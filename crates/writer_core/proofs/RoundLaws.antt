-- A round, call by call.
use Rattle.std.proofs.Common.{ℕ, ◌≡◌, ◌<◌, ◌+◌, ◌-◌, ◌*◌, List, [], ◌∷◌, length, Option, Some, Bool, true, false, cond, refl, sym, ap, arith, suc}
use Rattle.std.proofs.Common.{zero, ◌∙◌, set, slice_get, position, count_by, nat_lt}
use Rattle.std.specs.List.{list_any, position_or_len}
use Rattle.std.proofs.lemmas.Bool.Decides.{nat_tests}
use Rattle.std.proofs.lemmas.List.Sums.{sum_by-cons}
use Rattle.journal_core.specs.declared.reply.Reply.{Reply}
use Rattle.journal_core.specs.declared.heard.Heard.{Heard}
use Rattle.writer_core.specs.declared.round.Round.{Round}
use Rattle.writer_core.specs.declared.round.Round.TheVariants as round
use Rattle.writer_core.specs.declared.phase.Phase.TheVariants as phase
use Rattle.writer_core.specs.declared.slot.Slot.{Slot}
use Rattle.writer_core.specs.declared.slot.Slot.TheVariants.{Waiting, LeftOut, Told}
use Rattle.writer_core.specs.Views.{WriterView}
use Rattle.writer_core.specs.Answers.{is_ok, is_waiting, has_majority}
use Rattle.writer_core.specs.Rounds.{judgment, keep_going, request_in}
use Rattle.writer_core.specs.Writer.{is_under_way, next_call, call_in, writer_heard, judgment_when}
use Rattle.writer_core.specs.Whole.{heard_of, fill_slots, round_heard}
use Rattle.writer_core.specs.Current.{is_fetch, round_in}
use Rattle.writer_core.specs.Calls.{hear_next, hear_more, calls_of, AnswersBoth}
use Rattle.writer_core.proofs.Steps.{heard_whole}
use Rattle.writer_core.proofs.Judging.{one_fewer}

pub count_cons : {X : Type 0} (p : X → Bool) (x : X) (xs : List X) → count_by p (x ∷ xs) ≡ cond (p x) 1 0 + count_by p xs
count_cons p x xs = sum_by-cons (λ y. cond (p y) 1 0) x xs

-- ## The slots of a round
-- the first slot that waits, by its place
pub record FirstWaiting (slots : List Slot) : Type 0 where
  pub place : ℕ
  pub is : position_or_len is_waiting slots ≡ place
  pub within : place < length slots
  pub waits : slice_get slots place ≡ Some Waiting

pub first_waiting : (slots : List Slot) → 0 < count_by is_waiting slots → FirstWaiting slots
first_waiting [] h = absurd (omega arith)
first_waiting (Waiting ∷ slots) h = record { place = 0; is = refl; within = omega arith; waits = refl }
first_waiting (LeftOut ∷ slots) h =
    let f = first_waiting slots (omega (arith, h)) in
    record { place = suc f.place; is = omega (arith, f.is); within = omega (arith, f.within); waits = f.waits }
first_waiting (Told t ∷ slots) h =
    let f = first_waiting slots (omega (arith, h)) in
    record { place = suc f.place; is = omega (arith, f.is); within = omega (arith, f.within); waits = f.waits }

pub some_wait : (slots : List Slot) → 0 < count_by is_waiting slots → list_any is_waiting slots ≡ true
some_wait [] h = absurd (omega arith)
some_wait (Waiting ∷ slots) h = refl
some_wait (LeftOut ∷ slots) h = some_wait slots (omega (arith, h))
some_wait (Told t ∷ slots) h = some_wait slots (omega (arith, h))

pub none_wait : (slots : List Slot) → count_by is_waiting slots ≡ 0 → list_any is_waiting slots ≡ false
none_wait [] h = refl
none_wait (Waiting ∷ slots) h = absurd (omega (arith, h, count_cons is_waiting Waiting slots))
none_wait (LeftOut ∷ slots) h = none_wait slots (omega (arith, h))
none_wait (Told t ∷ slots) h = none_wait slots (omega (arith, h))

filled_none : (node : ℕ) (heard : ℕ → Option Reply) (slots : List Slot) → count_by is_waiting slots ≡ 0 → fill_slots node heard slots ≡ slots
unfolding fill_slots
filled_none node heard [] h = refl
filled_none node heard (Waiting ∷ slots) h = absurd (omega (arith, h, count_cons is_waiting Waiting slots))
filled_none node heard (LeftOut ∷ slots) h = ap (λ ss. LeftOut ∷ ss) (filled_none (node + 1) heard slots (omega (arith, h)))
filled_none node heard (Told t ∷ slots) h = ap (λ ss. Told t ∷ ss) (filled_none (node + 1) heard slots (omega (arith, h)))

-- the first one that waits may be filled before the others
filled_first : (node : ℕ) (heard : ℕ → Option Reply) (slots : List Slot) (i : ℕ) → slice_get slots i ≡ Some Waiting
    → fill_slots node heard (set slots i (Told (heard_of (heard (node + i))))) ≡ fill_slots node heard slots
unfolding fill_slots
filled_first node heard [] i h = cc
filled_first node heard (s ∷ slots) zero h =
    let e : s ≡ Waiting = cc in let n : node + 0 ≡ node = omega arith in rw (e, n) refl
filled_first node heard (Waiting ∷ slots) (suc i) h =
    let n : node + suc i ≡ node + 1 + i = omega arith in
    rw n (ap (λ ss. Told (heard_of (heard node)) ∷ ss) (filled_first (node + 1) heard slots i h))
filled_first node heard (LeftOut ∷ slots) (suc i) h =
    let n : node + suc i ≡ node + 1 + i = omega arith in rw n (ap (λ ss. LeftOut ∷ ss) (filled_first (node + 1) heard slots i h))
filled_first node heard (Told t ∷ slots) (suc i) h =
    let n : node + suc i ≡ node + 1 + i = omega arith in rw n (ap (λ ss. Told t ∷ ss) (filled_first (node + 1) heard slots i h))

pub fewer_wait : (slots : List Slot) (i : ℕ) (h : Heard) → slice_get slots i ≡ Some Waiting
    → count_by is_waiting (set slots i (Told h)) + 1 ≡ count_by is_waiting slots
fewer_wait slots i h e = one_fewer is_waiting slots i Waiting (Told h) e refl refl

-- ## Call by call
pub placed : (slots : List Slot) (i : ℕ) → position_or_len is_waiting slots ≡ i → i < length slots → position is_waiting slots ≡ Some i
placed slots i e l =
    let t : nat_lt i (length slots) ≡ true = grind (arith, nat_tests) in rw e (rw t refl)

-- the call to make next, of a round that asks several nodes
pub call_round : (r : Round) (w : WriterView) (i : ℕ) → is_fetch r ≡ false → position is_waiting w.slots ≡ Some i
    → call_in (phase.InRound r) w ≡ Some (i + 1, request_in w r)
call_round round.State w i f e = rw e refl
call_round round.Propose w i f e = rw e refl
call_round (round.Prepare start) w i f e = rw e refl
call_round (round.Accept batch) w i f e = rw e refl
call_round (round.Finalize start end) w i f e = rw e refl
call_round round.Start w i f e = rw e refl
call_round round.Open w i f e = rw e refl
call_round (round.Write bodies) w i f e = rw e refl
call_round (round.Purge min) w i f e = rw e refl
call_round (round.Fetch node start end bodies) w i f e = cc

-- one answer of such a round
pub one_heard : (w : WriterView) (r : Round) (heard : ℕ → Option Reply) (f : FirstWaiting w.slots) → w.phase ≡ phase.InRound r → is_fetch r ≡ false
    → hear_next heard w
    ≡ (let after : List Slot = set w.slots f.place (Told (heard_of (heard (1 + f.place)))) in
    judgment_when (list_any is_waiting after) r (record w { slots = after }))
unfolding writer_heard
one_heard w r heard f p n =
    let c : next_call w ≡ Some (f.place + 1, request_in w r) = rw p (call_round r w f.place n (placed w.slots f.place f.is f.within)) in
    let q : f.place + 1 - 1 ≡ f.place = omega arith in
    let o : f.place + 1 ≡ 1 + f.place = omega arith in
    let u : is_under_way w.phase ≡ true = rw p refl in
    let k : is_fetch (round_in w.phase) ≡ false = rw p n in
    rw c (heard_whole w.phase w (f.place + 1) (heard_of (heard (f.place + 1))) u k ∙ rw (p, q, o) refl)

whole_round : (r : Round) (heard : ℕ → Option Reply) (w : WriterView) → is_fetch r ≡ false
    → round_heard r heard w ≡ judgment r (record w { slots = fill_slots 1 heard w.slots })
whole_round round.State heard w n = refl
whole_round round.Propose heard w n = refl
whole_round (round.Prepare start) heard w n = refl
whole_round (round.Accept batch) heard w n = refl
whole_round (round.Finalize start end) heard w n = refl
whole_round round.Start heard w n = refl
whole_round round.Open heard w n = refl
whole_round (round.Write bodies) heard w n = refl
whole_round (round.Purge min) heard w n = refl
whole_round (round.Fetch node start end bodies) heard w n = cc

several : (w : WriterView) (r : Round) (heard : ℕ → Option Reply) (more : ℕ) → w.phase ≡ phase.InRound r → is_fetch r ≡ false
    → count_by is_waiting w.slots ≡ more + 1 → hear_more more heard w ≡ judgment r (record w { slots = fill_slots 1 heard w.slots })
unfolding hear_more
several w r heard zero p n e =
    let f = first_waiting w.slots (omega (arith, e)) in
    let h : Heard = heard_of (heard (1 + f.place)) in
    let after : List Slot = set w.slots f.place (Told h) in
    let z : count_by is_waiting after ≡ 0 = omega (arith, fewer_wait w.slots f.place h f.waits, e) in
    let same : fill_slots 1 heard after ≡ fill_slots 1 heard w.slots = filled_first 1 heard w.slots f.place f.waits in
    one_heard w r heard f p n ∙ rw (none_wait after z) (ap (λ ss. judgment r (record w { slots = ss })) (sym (filled_none 1 heard after z) ∙ same))
several w r heard (suc more) p n e =
    let f = first_waiting w.slots (omega (arith, e)) in
    let h : Heard = heard_of (heard (1 + f.place)) in
    let after : List Slot = set w.slots f.place (Told h) in
    let left : count_by is_waiting after ≡ more + 1 = omega (arith, fewer_wait w.slots f.place h f.waits, e) in
    let some : list_any is_waiting after ≡ true = some_wait after (omega (arith, left)) in
    let one : hear_next heard w ≡ keep_going (record w { slots = after }) = one_heard w r heard f p n ∙ rw some refl in
    let same : fill_slots 1 heard after ≡ fill_slots 1 heard w.slots = filled_first 1 heard w.slots f.place f.waits in
    rw one (several (record w { slots = after }) r heard more p n left ∙ ap (λ ss. judgment r (record w { slots = ss })) same)

-- a fetch makes one call
fetch_heard : (w : WriterView) (node start end : ℕ) (bodies : List (List ℕ)) (heard : ℕ → Option Reply) → w.phase ≡ phase.InRound (round.Fetch node start end bodies)
    → hear_next heard w ≡ round_heard (round.Fetch node start end bodies) heard w
unfolding writer_heard
fetch_heard w node start end bodies heard p =
    let c : next_call w ≡ Some (node, request_in w (round.Fetch node start end bodies)) = rw p refl in
    rw c (rw p refl)

pub judged_whole : (w : WriterView) (r : Round) (heard : ℕ → Option Reply) (more : ℕ) → w.phase ≡ phase.InRound r → calls_of r w.slots ≡ more + 1
    → hear_more more heard w ≡ round_heard r heard w
unfolding hear_more
judged_whole w (round.Fetch node start end bodies) heard zero p e = fetch_heard w node start end bodies heard p
judged_whole w (round.Fetch node start end bodies) heard (suc more) p e = absurd (omega (arith, e))
judged_whole w round.State heard more p e = several w round.State heard more p refl e ∙ sym (whole_round round.State heard w refl)
judged_whole w round.Propose heard more p e = several w round.Propose heard more p refl e ∙ sym (whole_round round.Propose heard w refl)
judged_whole w (round.Prepare start) heard more p e = several w (round.Prepare start) heard more p refl e ∙ sym (whole_round (round.Prepare start) heard w refl)
judged_whole w (round.Accept batch) heard more p e = several w (round.Accept batch) heard more p refl e ∙ sym (whole_round (round.Accept batch) heard w refl)
judged_whole w (round.Finalize start end) heard more p e = several w (round.Finalize start end) heard more p refl e ∙ sym (whole_round (round.Finalize start end) heard w refl)
judged_whole w round.Start heard more p e = several w round.Start heard more p refl e ∙ sym (whole_round round.Start heard w refl)
judged_whole w round.Open heard more p e = several w round.Open heard more p refl e ∙ sym (whole_round round.Open heard w refl)
judged_whole w (round.Write bodies) heard more p e = several w (round.Write bodies) heard more p refl e ∙ sym (whole_round (round.Write bodies) heard w refl)
judged_whole w (round.Purge min) heard more p e = several w (round.Purge min) heard more p refl e ∙ sym (whole_round (round.Purge min) heard w refl)

-- ## Majorities
common : (p q : Slot → Bool) (xs ys : List Slot) → length xs ≡ length ys → length xs < count_by p xs + count_by q ys
    → (i : ℕ) × (x : Slot) × (y : Slot) × (slice_get xs i ≡ Some x) × (slice_get ys i ≡ Some y) × (p x ≡ true) × (q y ≡ true)
common p q [] [] e h = absurd (omega arith)
common p q [] (y ∷ ys) e h = absurd (omega (arith, e))
common p q (x ∷ xs) [] e h = absurd (omega (arith, e))
common p q (x ∷ xs) (y ∷ ys) e h = both p q x y xs ys (p x) (q y) refl refl (common p q xs ys (omega (arith, e))) (omega (arith, h, count_cons p x xs, count_cons q y ys))
  where
    both : (p q : Slot → Bool) (x y : Slot) (xs ys : List Slot) (a b : Bool) → p x ≡ a → q y ≡ b
        → (length xs < count_by p xs + count_by q ys → (i : ℕ) × (x : Slot) × (y : Slot) × (slice_get xs i ≡ Some x) × (slice_get ys i ≡ Some y) × (p x ≡ true) × (q y ≡ true))
        → length xs + 1 < cond a 1 0 + count_by p xs + (cond b 1 0 + count_by q ys)
        → (i : ℕ) × (v : Slot) × (w : Slot) × (slice_get (x ∷ xs) i ≡ Some v) × (slice_get (y ∷ ys) i ≡ Some w) × (p v ≡ true) × (q w ≡ true)
    both p q x y xs ys true true e f rest h = (0, x, y, refl, refl, e, f)
    both p q x y xs ys true false e f rest h = let r = rest (omega (arith, h)) in (suc r.0, r.1, r.2, r.3, r.4, r.5, r.6)
    both p q x y xs ys false true e f rest h = let r = rest (omega (arith, h)) in (suc r.0, r.1, r.2, r.3, r.4, r.5, r.6)
    both p q x y xs ys false false e f rest h = let r = rest (omega (arith, h)) in (suc r.0, r.1, r.2, r.3, r.4, r.5, r.6)

pub meet : (r q : Round) (xs ys : List Slot) → length xs ≡ length ys → has_majority r xs ≡ true → has_majority q ys ≡ true → AnswersBoth r q xs ys
meet r q xs ys e h k =
    let m : length xs < 2 * count_by (is_ok r) xs = grind (arith, nat_tests) in
    let n : length ys < 2 * count_by (is_ok q) ys = grind (arith, nat_tests) in
    let c = common (is_ok r) (is_ok q) xs ys e (omega (arith, m, n, e)) in
    record { place = c.0; first = c.1; second = c.2; first_at = c.3; second_at = c.4; first_ok = c.5; second_ok = c.6 }

-- What a round's judgement rests on.
use Rattle.std.proofs.Common.{ℕ, ◌≡◌, ◌<◌, ◌≤◌, ◌+◌, ◌-◌, ◌*◌, ◌&&◌, List, [], length, Bool, true, false, cond, Option, Some, None, Ok, Err, refl}
use Rattle.std.proofs.Common.{sym, ap, arith, ◌∙◌, position, set, slice_get, count_by, sum_by, get_or, nat_lt}
use Rattle.std.proofs.lemmas.List.Sums.{sum_by-set}
use Rattle.std.proofs.lemmas.Option.{slice_get_within, get_or_from_slice_get}
use Rattle.std.proofs.lemmas.Bool.Decides.{nat_tests}
use Rattle.std.specs.List.{position_or_len}
use Rattle.std.proofs.lemmas.List.{length-set}
use Rattle.journal_core.specs.Views.{BatchView}
use Rattle.journal_core.specs.Limits.{max_number}
use Rattle.journal_core.specs.declared.reply.Reply.TheVariants as reply
use Rattle.journal_core.specs.declared.heard.Heard.{Heard}
use Rattle.journal_core.specs.declared.heard.Heard.TheVariants.{Answer, Silent}
use Rattle.writer_core.specs.declared.round.Round.{Round}
use Rattle.writer_core.specs.declared.round.Round.TheVariants as round
use Rattle.writer_core.specs.declared.slot.Slot.{Slot}
use Rattle.writer_core.specs.declared.slot.Slot.TheVariants.{Told}
use Rattle.writer_core.specs.declared.stage.RoundKind.{RoundKind}
use Rattle.writer_core.specs.declared.stage.RoundKind.TheVariants as kind
use Rattle.writer_core.specs.declared.phase.Phase.{Phase}
use Rattle.writer_core.specs.declared.phase.Phase.TheVariants as phase
use Rattle.writer_core.specs.declared.turn.Turn.TheVariants as turn
use Rattle.writer_core.specs.Views.{WriterView}
use Rattle.writer_core.specs.Answers.{is_ok, cause_of, has_majority}
use Rattle.writer_core.specs.Best.{Best, best_of}
use Rattle.writer_core.specs.Rounds.{numbers_fit, with_causes, Judgment, judgment, judgment_by, keep_going, stops_with, next_serial, begin_recovery}
use Rattle.writer_core.specs.Rounds.{failure_of, without_answer_of, after_no_edits, after_fetch}
use Rattle.writer_core.specs.Sound.{IsOkAt}
use Rattle.writer_core.specs.Stages.{round_of}
use Rattle.writer_core.specs.Current.{round_in, piece_fits, fetched_in, edits_heard}

-- which answers count doesn't depend on the bodies
pub ok_alike : (k : RoundKind) (b : List (List ℕ)) → is_ok (round_of k []) ≡ is_ok (round_of k b)
ok_alike kind.State b = refl
ok_alike kind.Propose b = refl
ok_alike (kind.Prepare start) b = refl
ok_alike (kind.Fetch node start end) b = refl
ok_alike (kind.Accept start) b = refl
ok_alike (kind.Finalize start end) b = refl
ok_alike kind.Start b = refl
ok_alike kind.Open b = refl
ok_alike kind.Write b = refl
ok_alike kind.End b = refl
ok_alike (kind.Purge min) b = refl

pub cause_alike : (fit : Bool) (k : RoundKind) (b : List (List ℕ)) → cause_of fit (round_of k []) ≡ cause_of fit (round_of k b)
cause_alike fit kind.State b = refl
cause_alike fit kind.Propose b = refl
cause_alike fit (kind.Prepare start) b = refl
cause_alike fit (kind.Fetch node start end) b = refl
cause_alike fit (kind.Accept start) b = refl
cause_alike fit (kind.Finalize start end) b = refl
cause_alike fit kind.Start b = refl
cause_alike fit kind.Open b = refl
cause_alike fit kind.Write b = refl
cause_alike fit kind.End b = refl
cause_alike fit (kind.Purge min) b = refl

pub majority_alike : (k : RoundKind) (b : List (List ℕ)) (slots : List Slot) → has_majority (round_of k []) slots ≡ has_majority (round_of k b) slots
majority_alike k b slots = ap (λ (p : Slot → Bool). nat_lt (length slots) (2 * count_by p slots)) (ok_alike k b)

-- the causes aren't asked
pub numbers_anyhow : (r : Round) (w : WriterView) → numbers_fit (with_causes r w) r ≡ numbers_fit w r
numbers_anyhow round.State w = refl
numbers_anyhow round.Propose w = refl
numbers_anyhow (round.Prepare start) w = refl
numbers_anyhow (round.Fetch node start end bodies) w = refl
numbers_anyhow (round.Accept batch) w = refl
numbers_anyhow (round.Finalize start end) w = refl
numbers_anyhow round.Start w = refl
numbers_anyhow round.Open w = refl
numbers_anyhow (round.Write bodies) w = refl
numbers_anyhow (round.Purge min) w = refl

pub judged_is : (r : Round) (w : WriterView) (b : Bool) → b ≡ (numbers_fit w r && has_majority r w.slots) → judgment r w ≡ judgment_by b r w
unfolding judgment
judged_is r w b e = rw e refl

-- ## A fetch that failed
pub failed_out : (start : ℕ) (heard : Heard) → failure_of heard ≡ heard → is_ok (round.Prepare start) (Told heard) ≡ false
failed_out start Silent h = refl
failed_out start (Answer (reply.Refused refusal)) h = refl
failed_out start (Answer (reply.Prepared writer committed segment)) h = cc
failed_out start (Answer _) h = refl

pub one_fewer : (p : Slot → Bool) (slots : List Slot) (i : ℕ) (slot new : Slot) → slice_get slots i ≡ Some slot → p slot ≡ true → p new ≡ false
    → count_by p (set slots i new) + 1 ≡ count_by p slots
one_fewer p slots i slot new e h n =
    let f : Slot → ℕ = λ x. cond (p x) 1 0 in
    let s : sum_by f (set slots i new) + f (get_or slots i slot) ≡ sum_by f slots + f new = sum_by-set f slots i new slot (slice_get_within slots i slot e) in
    let was : f (get_or slots i slot) ≡ 1 = rw (get_or_from_slice_get slots i slot slot e, h) refl in
    let is : f new ≡ 0 = rw n refl in
    omega (arith, s, was, is)

pub edits_are : (heard : Heard) (batch : BatchView) → edits_heard heard ≡ Ok batch → heard ≡ Answer (reply.Edits batch)
edits_are Silent batch e = cc
edits_are (Answer (reply.Edits b)) batch e = let t : b ≡ batch = cc in rw t refl
edits_are (Answer _) batch e = cc

lost_round : (node start end : ℕ) (bodies : List (List ℕ)) (heard lost : Heard) (w : WriterView) → edits_heard heard ≡ Err lost
    → after_fetch node start end bodies heard w ≡ after_no_edits node start lost w
unfolding after_fetch
lost_round node start end bodies Silent lost w e = let t : Silent ≡ lost = cc in rw (← t) refl
lost_round node start end bodies (Answer (reply.Edits b)) lost w e = cc
lost_round node start end bodies (Answer (reply.Refused r)) lost w e = let t : Answer (reply.Refused r) ≡ lost = cc in rw (← t) refl
lost_round node start end bodies (Answer _) lost w e = let t : Silent ≡ lost = cc in rw (← t) refl

pub piece_lost : (node start end : ℕ) (bodies : List (List ℕ)) (r : Round) (heard lost : Heard) (w : WriterView) → r ≡ round.Fetch node start end bodies
    → edits_heard heard ≡ Err lost → fetched_in r heard w ≡ after_no_edits node start lost w
piece_lost node start end bodies r heard lost w is e = rw is (lost_round node start end bodies heard lost w e)

pub piece_unfit : (node start end : ℕ) (bodies : List (List ℕ)) (r : Round) (heard : Heard) (batch : BatchView) (w : WriterView)
    → r ≡ round.Fetch node start end bodies → edits_heard heard ≡ Ok batch → piece_fits r batch w ≡ false → fetched_in r heard w ≡ after_no_edits node start Silent w
unfolding after_fetch
piece_unfit node start end bodies r heard batch w is e h =
    let f : piece_fits (round.Fetch node start end bodies) batch w ≡ false = rw is at h in rw (is, edits_are heard batch e, f) refl

pub recovering_anyhow : (start : ℕ) (o : Option Best) (w : WriterView) (p : Phase) → begin_recovery start o (record w { phase = p }) ≡ begin_recovery start o w
recovering_anyhow start None w p = refl
recovering_anyhow start (Some best) w p = refl

pub fewer_left : (start node : ℕ) (heard : Heard) (slots : List Slot) → failure_of heard ≡ heard → IsOkAt (round.Prepare start) node slots
    → count_by (is_ok (round.Prepare start)) (set slots (node - 1) (Told heard)) + 1 ≡ count_by (is_ok (round.Prepare start)) slots
fewer_left start node heard slots h c =
    one_fewer (is_ok (round.Prepare start)) slots (node - 1) c.0 (Told heard) c.2 c.3 (failed_out start heard h)

-- ## The first node that waits
place_of : (n m i : ℕ) (b : Bool) → nat_lt n m ≡ b → cond b (Some n) None ≡ Some i → (n ≡ i) × (n < m)
place_of n m i true e h = (cc, grind (arith, nat_tests))
place_of n m i false e h = cc

pub place_is : {X : Type 0} (p : X → Bool) (xs : List X) (i : ℕ) → position p xs ≡ Some i → (position_or_len p xs ≡ i) × (i < length xs)
place_is p xs i h =
    let f = place_of (position_or_len p xs) (length xs) i (nat_lt (position_or_len p xs) (length xs)) refl h in (f.0, omega (arith, f.0, f.1))

-- ## A node that counts no more: what follows over the writer without it
pub without : (node start : ℕ) (heard : Heard) (w v v' : WriterView) → v ≡ record (without_answer_of node heard w) { phase = phase.InRound (round.Prepare start) }
    → v' ≡ with_causes (round_in v.phase) v → v' ≡ with_causes (round.Prepare start) (record (without_answer_of node heard w) { phase = phase.InRound (round.Prepare start) })
without node start heard w v v' e e' = rw e at e'

pub next_best : (node start : ℕ) (heard : Heard) (w v : WriterView) (j : Judgment)
    → v ≡ with_causes (round.Prepare start) (record (without_answer_of node heard w) { phase = phase.InRound (round.Prepare start) })
    → has_majority (round_in v.phase) v.slots ≡ true → keep_going (begin_recovery start (best_of start v.slots) (next_serial v)) ≡ j → after_no_edits node start heard w ≡ j
next_best node start heard w v j e h r =
    let t = without_answer_of node heard w in
    let m : has_majority (round.Prepare start) t.slots ≡ true = rw e at h in
    let q = rw e at r in
    rw m (ap keep_going (sym (recovering_anyhow start (best_of start t.slots) (next_serial (with_causes (round.Prepare start) t)) (phase.InRound (round.Prepare start)))) ∙ q)

pub none_best : (node start : ℕ) (heard : Heard) (w v : WriterView) (j : Judgment)
    → v ≡ with_causes (round.Prepare start) (record (without_answer_of node heard w) { phase = phase.InRound (round.Prepare start) })
    → has_majority (round_in v.phase) v.slots ≡ false → stops_with turn.Aborted v ≡ j → after_no_edits node start heard w ≡ j
none_best node start heard w v j e h r =
    let t = without_answer_of node heard w in
    let m : has_majority (round.Prepare start) t.slots ≡ false = rw e at h in
    let q = rw e at r in
    rw m q

pub serials_left : (node start : ℕ) (heard : Heard) (w v : WriterView)
    → v ≡ with_causes (round.Prepare start) (record (without_answer_of node heard w) { phase = phase.InRound (round.Prepare start) })
    → failure_of heard ≡ heard → IsOkAt (round.Prepare start) node w.slots
    → w.serial + count_by (is_ok (round.Prepare start)) w.slots ≤ max_number + 1 + length w.slots
    → v.serial + count_by (is_ok (round.Prepare start)) v.slots ≤ max_number + length v.slots
serials_left node start heard w v e h o s =
    let n : length (set w.slots (node - 1) (Told heard)) ≡ length w.slots = length-set w.slots (node - 1) (Told heard) in
    let g : count_by (is_ok (round.Prepare start)) (set w.slots (node - 1) (Told (failure_of heard))) + 1 ≡ count_by (is_ok (round.Prepare start)) w.slots =
    rw h (fewer_left start node heard w.slots h o) in
    rw (e, h) (omega (arith, n, rw h at g, s))

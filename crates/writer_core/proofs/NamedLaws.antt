-- `next` names the calls of a round in order.
use Rattle.std.proofs.Common.{ℕ, ◌≡◌, ◌<◌, ◌+◌, ◌-◌, List, [], ◌∷◌, length, Some, true, false, refl, ap, arith, suc, ◌∙◌, set}
use Rattle.std.specs.List.{list_any, position_or_len}
use Rattle.journal_core.specs.declared.heard.Heard.{Heard}
use Rattle.writer_core.specs.declared.round.Round.{Round}
use Rattle.writer_core.specs.declared.round.Round.TheVariants as round
use Rattle.writer_core.specs.declared.phase.Phase.{Phase}
use Rattle.writer_core.specs.declared.phase.Phase.TheVariants as phase
use Rattle.writer_core.specs.declared.slot.Slot.{Slot}
use Rattle.writer_core.specs.declared.slot.Slot.TheVariants.{Waiting, LeftOut, Told}
use Rattle.writer_core.specs.Views.{WriterView}
use Rattle.writer_core.specs.Answers.{is_waiting}
use Rattle.writer_core.specs.Rounds.{request_in, Judgment, keep_going}
use Rattle.writer_core.specs.Writer.{call_in, writer_heard, heard_at, heard_in}
use Rattle.writer_core.specs.Current.{is_fetch}
use Rattle.writer_core.specs.RoundCalls.{waiting_from, nodes_of, calls_in, round_calls, NamesInOrder}
use Rattle.writer_core.proofs.Steps.{heard_round}
use Rattle.writer_core.proofs.RoundLaws.{placed, call_round}

-- the first node that waits, and the others
record FirstOf (from node : ℕ) (others : List ℕ) (slots : List Slot) : Type 0 where
  place : ℕ
  is : node ≡ from + place
  at : position_or_len is_waiting slots ≡ place
  within : place < length slots
  rest : (h : Heard) → waiting_from from (set slots place (Told h)) ≡ others

later : (from node : ℕ) (others : List ℕ) (s : Slot) (slots : List Slot) → is_waiting s ≡ false
    → ((ss : List Slot) → waiting_from from (s ∷ ss) ≡ waiting_from (from + 1) ss) → FirstOf (from + 1) node others slots → FirstOf from node others (s ∷ slots)
later from node others s slots n e f =
    record {
      place = suc f.place;
      is = omega (arith, f.is);
      at = rw n (omega (arith, f.at));
      within = omega (arith, f.within);
      rest = λ h. e (set slots f.place (Told h)) ∙ f.rest h;
    }

first_of : (from node : ℕ) (others : List ℕ) (slots : List Slot) → waiting_from from slots ≡ node ∷ others → FirstOf from node others slots
unfolding waiting_from
first_of from node others [] e = cc
first_of from node others (Waiting ∷ slots) e =
    let n : from ≡ node = cc in
    let o : waiting_from (from + 1) slots ≡ others = cc in
    record { place = 0; is = omega (arith, n); at = refl; within = omega arith; rest = λ h. o }
first_of from node others (LeftOut ∷ slots) e = later from node others LeftOut slots refl (λ ss. refl) (first_of (from + 1) node others slots e)
first_of from node others (Told t ∷ slots) e = later from node others (Told t) slots refl (λ ss. refl) (first_of (from + 1) node others slots e)

some_left : (from node : ℕ) (others : List ℕ) (slots : List Slot) → waiting_from from slots ≡ node ∷ others → list_any is_waiting slots ≡ true
unfolding waiting_from
some_left from node others [] e = cc
some_left from node others (Waiting ∷ slots) e = refl
some_left from node others (LeftOut ∷ slots) e = some_left (from + 1) node others slots e
some_left from node others (Told t ∷ slots) e = some_left (from + 1) node others slots e

nodes_wait : (r : Round) (slots : List Slot) → is_fetch r ≡ false → nodes_of r slots ≡ waiting_from 1 slots
nodes_wait round.State slots f = refl
nodes_wait round.Propose slots f = refl
nodes_wait (round.Prepare start) slots f = refl
nodes_wait (round.Accept batch) slots f = refl
nodes_wait (round.Finalize start end) slots f = refl
nodes_wait round.Start slots f = refl
nodes_wait round.Open slots f = refl
nodes_wait (round.Write bodies) slots f = refl
nodes_wait (round.Purge min) slots f = refl
nodes_wait (round.Fetch node start end bodies) slots f = cc

request_same : (r : Round) (w : WriterView) (slots : List Slot) → request_in (record w { slots = slots }) r ≡ request_in w r
request_same round.State w slots = refl
request_same round.Propose w slots = refl
request_same (round.Prepare start) w slots = refl
request_same (round.Accept batch) w slots = refl
request_same (round.Finalize start end) w slots = refl
request_same round.Start w slots = refl
request_same round.Open w slots = refl
request_same (round.Write bodies) w slots = refl
request_same (round.Purge min) w slots = refl
request_same (round.Fetch node start end bodies) w slots = refl

named_several : (r : Round) (w : WriterView) (node : ℕ) (others : List ℕ) → is_fetch r ≡ false → w.phase ≡ phase.InRound r → waiting_from 1 w.slots ≡ node ∷ others
    → NamesInOrder w r node others
unfolding writer_heard
named_several r w node others f p e =
    let o = first_of 1 node others w.slots e in
    let i : o.place + 1 ≡ node = omega (arith, o.is) in
    let c : call_in (phase.InRound r) w ≡ Some (o.place + 1, request_in w r) = call_round r w o.place f (placed w.slots o.place o.at o.within) in
    let c' : call_in (phase.InRound r) w ≡ Some (node, request_in w r) = rw (← i) c in
    let n : node - 1 ≡ o.place = omega (arith, o.is) in
    record {
      first = rw p c';
      then = λ h second more m.
          let after : List Slot = set w.slots (node - 1) (Told h) in
          let left : waiting_from 1 after ≡ others = rw n (o.rest h) in
          let some : list_any is_waiting after ≡ true = some_left 1 second more after (left ∙ m) in
          let heard : heard_in r w node h ≡ keep_going (record w { slots = after }) = heard_round r w node h f ∙ rw some refl in
          let calls : calls_in (phase.InRound r) (record w { slots = after }) ≡ Some (record { nodes = others; request = request_in w r }) =
          rw (nodes_wait r after f, left, request_same r w after) refl in
          let now : writer_heard w node h ≡ keep_going (record w { slots = after }) = ap (λ (q : Phase). heard_at q w node h) p ∙ heard in
          ap (λ (j : Judgment). round_calls j.writer) now ∙ ap (λ (q : Phase). calls_in q (record w { slots = after })) p ∙ calls;
    }

pub named : (w : WriterView) (r : Round) (node : ℕ) (others : List ℕ) → w.phase ≡ phase.InRound r → nodes_of r w.slots ≡ node ∷ others
    → NamesInOrder w r node others
named w (round.Fetch n start end bodies) node others p e =
    let i : n ≡ node = cc in
    let o : [] ≡ others = cc in
    let c : call_in (phase.InRound (round.Fetch n start end bodies)) w ≡ Some (node, request_in w (round.Fetch n start end bodies)) = rw (← i) refl in
    record { first = rw p c; then = λ h second more m. absurd (let k : [] ≡ second ∷ more = o ∙ m in cc) }
named w round.State node others p e = named_several round.State w node others refl p e
named w round.Propose node others p e = named_several round.Propose w node others refl p e
named w (round.Prepare start) node others p e = named_several (round.Prepare start) w node others refl p e
named w (round.Accept batch) node others p e = named_several (round.Accept batch) w node others refl p e
named w (round.Finalize start end) node others p e = named_several (round.Finalize start end) w node others refl p e
named w round.Start node others p e = named_several round.Start w node others refl p e
named w round.Open node others p e = named_several round.Open w node others refl p e
named w (round.Write bodies) node others p e = named_several (round.Write bodies) w node others refl p e
named w (round.Purge min) node others p e = named_several (round.Purge min) w node others refl p e

-- Rounds that are heard slot by slot: whom they call next, what they ask, and what the last answer
-- does.
use Rattle.std.proofs.Common.{◌≡◌, ◌≢◌, ℕ, zero, suc, ◌+◌, ◌-◌, ◌<◌, ◌≤◌, ◌&&◌, List, [], ◌∷◌, Bool, true, false, refl, sym, ap, ◌∙◌, arith, length}
use Rattle.std.proofs.Common.{set, slice_get, get_or, position, option_map, nat_lt, Option, Some, None}
use Rattle.std.specs.List.{list_any}
use Rattle.std.proofs.lemmas.Bool.Decides.{nat_tests}
use Rattle.std.proofs.lemmas.List.Quantifiers.{position-Some}
use Rattle.journal_core.specs.declared.request.Request.{Request}
use Rattle.journal_core.specs.declared.reply.Reply.{Reply}
use Rattle.journal_core.specs.declared.heard.Heard.{Heard}
use Rattle.writer_core.specs.declared.round.Round.{Round}
use Rattle.writer_core.specs.declared.round.Round.TheVariants as round
use Rattle.writer_core.specs.declared.phase.Phase.{Phase}
use Rattle.writer_core.specs.declared.phase.Phase.TheVariants as phase
use Rattle.writer_core.specs.declared.slot.Slot.{Slot}
use Rattle.writer_core.specs.declared.slot.Slot.TheVariants.{Waiting, LeftOut, Told}
use Rattle.writer_core.specs.Views.{WriterView}
use Rattle.writer_core.specs.Answers.{is_waiting}
use Rattle.writer_core.specs.Rounds.{request_in, judgment}
use Rattle.writer_core.specs.Writer.{next_call, call_in, node_in, with_answer, judgment_when, heard_in}
use Rattle.writer_core.specs.Whole.{fill_slots, round_heard, is_called, is_waiting_at, calls_in}
use Rattle.writer_core.proofs.Plain.{plain}
use Rattle.writer_core.proofs.PlainRounds.{IsWhole}

pub whole_judged : (r : Round) (heard : ℕ → Option Reply) (w : WriterView) → IsWhole r → round_heard r heard w ≡ judgment r (record w { slots = fill_slots 1 heard w.slots })
whole_judged round.State heard w i = absurd i
whole_judged (round.Fetch node start end bodies) heard w i = absurd i
whole_judged round.Propose heard w i = refl
whole_judged (round.Prepare start) heard w i = refl
whole_judged (round.Accept batch) heard w i = refl
whole_judged (round.Finalize start end) heard w i = refl
whole_judged round.Start heard w i = refl
whole_judged round.Open heard w i = refl
whole_judged (round.Write bodies) heard w i = refl
whole_judged (round.Purge min) heard w i = refl

pub whole_heard : (r : Round) (w : WriterView) (node : ℕ) (h : Heard) → IsWhole r → heard_in r w node h ≡ judgment_when (list_any is_waiting (with_answer w node h).slots) r (with_answer w node h)
whole_heard round.State w node h i = absurd i
whole_heard (round.Fetch from start end bodies) w node h i = absurd i
whole_heard round.Propose w node h i = refl
whole_heard (round.Prepare start) w node h i = refl
whole_heard (round.Accept batch) w node h i = refl
whole_heard (round.Finalize start end) w node h i = refl
whole_heard round.Start w node h i = refl
whole_heard round.Open w node h i = refl
whole_heard (round.Write bodies) w node h i = refl
whole_heard (round.Purge min) w node h i = refl

whole_node : (r : Round) (slots : List Slot) → IsWhole r → node_in r slots ≡ option_map (λ i. i + 1) (position is_waiting slots)
whole_node round.State slots i = absurd i
whole_node (round.Fetch node start end bodies) slots i = absurd i
whole_node round.Propose slots i = refl
whole_node (round.Prepare start) slots i = refl
whole_node (round.Accept batch) slots i = refl
whole_node (round.Finalize start end) slots i = refl
whole_node round.Start slots i = refl
whole_node round.Open slots i = refl
whole_node (round.Write bodies) slots i = refl
whole_node (round.Purge min) slots i = refl

whole_calls : (r : Round) (slots : List Slot) (node : ℕ) → IsWhole r → calls_in r slots node ≡ (nat_lt 0 node && is_waiting_at node slots)
whole_calls round.State slots node i = absurd i
whole_calls (round.Fetch from start end bodies) slots node i = absurd i
whole_calls round.Propose slots node i = refl
whole_calls (round.Prepare start) slots node i = refl
whole_calls (round.Accept batch) slots node i = refl
whole_calls (round.Finalize start end) slots node i = refl
whole_calls round.Start slots node i = refl
whole_calls round.Open slots node i = refl
whole_calls (round.Write bodies) slots node i = refl
whole_calls (round.Purge min) slots node i = refl

-- ## Which node is called
waiting_here : (xs : List Slot) (i : ℕ) → i < length xs → is_waiting (get_or xs i LeftOut) ≡ true → slice_get xs i ≡ Some Waiting
waiting_here [] i l e = absurd (omega arith)
waiting_here (Waiting ∷ xs) zero l e = refl
waiting_here (LeftOut ∷ xs) zero l e = absurd (cc e)
waiting_here (Told h ∷ xs) zero l e = absurd (cc e)
waiting_here (x ∷ xs) (suc i) l e = waiting_here xs i (omega (arith, l)) e

here_waits : (xs : List Slot) (i : ℕ) → slice_get xs i ≡ Some Waiting → is_waiting (get_or xs i LeftOut) ≡ true
here_waits [] i e = absurd (cc e)
here_waits (x ∷ xs) zero e = ap (λ (o : Option Slot). waits o) e
  where
    waits : Option Slot → Bool
    waits None = false
    waits (Some y) = is_waiting y
here_waits (x ∷ xs) (suc i) e = here_waits xs i e

-- the first node that waits
pub record IsFirst (slots : List Slot) (node : ℕ) : Type 0 where
  pub place : ℕ
  pub is : node ≡ place + 1
  pub waits : slice_get slots place ≡ Some Waiting
  pub first : (j : ℕ) → slice_get slots j ≡ Some Waiting → place ≤ j

first_at : (slots : List Slot) (o : Option ℕ) (node : ℕ) → position is_waiting slots ≡ o → option_map (λ i. i + 1) o ≡ Some node → IsFirst slots node
first_at slots None node is e = absurd (cc e)
first_at slots (Some i) node is e =
    let p : (i < length slots) × (is_waiting (get_or slots i LeftOut) ≡ true) × ((k : ℕ) → k < i → is_waiting (get_or slots k LeftOut) ≡ false) = position-Some is_waiting slots i LeftOut is in
    let same : i + 1 ≡ node = cc e in
    record { place = i; is = sym same; waits = waiting_here slots i p.0 p.1; first = λ j w. first j w p.2 }
  where
    first : (j : ℕ) → slice_get slots j ≡ Some Waiting → ((k : ℕ) → k < i → is_waiting (get_or slots k LeftOut) ≡ false) → i ≤ j
    first j w below = by (nat_lt j i) refl
      where
        by : (b : Bool) → nat_lt j i ≡ b → i ≤ j
        by true t = let lt : j < i = grind (arith, nat_tests) in let yes : is_waiting (get_or slots j LeftOut) ≡ true =
            here_waits slots j w in let no : is_waiting (get_or slots j LeftOut) ≡ false = below j lt in absurd (cc (yes, no))
        by false t = grind (arith, nat_tests)

pub whole_first : (r : Round) (slots : List Slot) (node : ℕ) → IsWhole r → node_in r slots ≡ Some node → IsFirst slots node
whole_first r slots node i e = first_at slots (position is_waiting slots) node refl (sym (whole_node r slots i) ∙ e)

called_waits : (o : Option Slot) → is_called o ≡ true → o ≡ Some Waiting
called_waits None e = absurd (cc e)
called_waits (Some Waiting) e = refl
called_waits (Some LeftOut) e = absurd (cc e)
called_waits (Some (Told h)) e = absurd (cc e)

pub calls_waits : (r : Round) (slots : List Slot) (node : ℕ) → IsWhole r → calls_in r slots node ≡ true → (0 < node) × (slice_get slots (node - 1) ≡ Some Waiting)
calls_waits r slots node i e = by (nat_lt 0 node) (is_waiting_at node slots) refl refl (sym (whole_calls r slots node i) ∙ e)
  where
    by : (b c : Bool) → nat_lt 0 node ≡ b → is_waiting_at node slots ≡ c → (b && c) ≡ true → (0 < node) × (slice_get slots (node - 1) ≡ Some Waiting)
    by true true f g h = (grind (arith, nat_tests), called_waits (slice_get slots (node - 1)) g)
    by true false f g h = absurd (cc h)
    by false c f g h = absurd (cc h)

pub waits_calls : (r : Round) (slots : List Slot) (place : ℕ) → IsWhole r → slice_get slots place ≡ Some Waiting → calls_in r slots (place + 1) ≡ true
waits_calls r slots place i e =
    let at : place + 1 - 1 ≡ place = omega arith in
    let one : nat_lt 0 (place + 1) ≡ true = grind (arith, nat_tests) in
    whole_calls r slots (place + 1) i
    ∙ ap (λ (b : Bool). b && is_called (slice_get slots (place + 1 - 1))) one
    ∙ ap (λ (j : ℕ). is_called (slice_get slots j)) at ∙ ap is_called e

pub set_waits : (xs : List Slot) (i j : ℕ) (h : Heard) → slice_get (set xs i (Told h)) j ≡ Some Waiting → (j ≢ i) × (slice_get xs j ≡ Some Waiting)
set_waits [] i j h e = absurd (cc e)
set_waits (x ∷ xs) zero zero h e = absurd (cc e)
set_waits (x ∷ xs) zero (suc j) h e = ((λ same. absurd (omega (arith, same))), e)
set_waits (x ∷ xs) (suc i) zero h e = ((λ same. absurd (omega (arith, same))), e)
set_waits (x ∷ xs) (suc i) (suc j) h e = let w : (j ≢ i) × (slice_get xs j ≡ Some Waiting) = set_waits xs i j h e in ((λ same. w.0 (omega (arith, same))), w.1)

-- ## The call that comes next
pub record IsCalling (w : WriterView) (node : ℕ) (r : Request) : Type 0 where
  pub round : Round
  pub phase : w.phase ≡ phase.InRound round
  pub node_is : node_in round w.slots ≡ Some node
  pub request : r ≡ request_in w round

mapped : (o : Option ℕ) (q : Request) (node : ℕ) (r : Request) → option_map {U = ℕ × Request} (λ (i : ℕ). (i, q)) o ≡ Some (node, r) → (o ≡ Some node) × (r ≡ q)
mapped None q node r e = absurd (cc e)
mapped (Some i) q node r e = (ap first_of e, sym (ap (λ (o : Option (ℕ × Request)). second_of q o) e))
  where
    first_of : Option (ℕ × Request) → Option ℕ
    first_of None = None
    first_of (Some c) = Some c.0

    second_of : Request → Option (ℕ × Request) → Request
    second_of d None = d
    second_of d (Some c) = c.1

pub calling_in : (w : WriterView) (node : ℕ) (r : Request) → next_call w ≡ Some (node, r) → IsCalling w node r
calling_in w node r e = by w.phase refl e
  where
    by : (p : Phase) → w.phase ≡ p → call_in p w ≡ Some (node, r) → IsCalling w node r
    by (phase.InRound q) is f =
        let m : (node_in q w.slots ≡ Some node) × (r ≡ request_in w q) = mapped (node_in q w.slots) (request_in w q) node r f in
        record { round = q; phase = is; node_is = m.0; request = m.1 }
    by phase.Idle is f = absurd (cc f)
    by phase.Writing is f = absurd (cc f)
    by phase.Stopped is f = absurd (cc f)

-- ## What it asks
abbrev pub unslotted : WriterView → WriterView
unslotted w = record w { slots = [] }

request_plain : (q : Round) (w : WriterView) → request_in (plain (record w { phase = phase.InRound q; slots = [] })) q ≡ request_in w q
request_plain round.State w = refl
request_plain round.Propose w = refl
request_plain (round.Prepare start) w = refl
request_plain (round.Fetch node start end bodies) w = refl
request_plain (round.Accept batch) w = refl
request_plain (round.Finalize start end) w = refl
request_plain round.Start w = refl
request_plain round.Open w = refl
request_plain (round.Write bodies) w = refl
request_plain (round.Purge min) w = refl

request_one : (q : Round) (w : WriterView) → w.phase ≡ phase.InRound q → request_in (plain (unslotted w)) q ≡ request_in w q
request_one q w e = ap (λ (p : Phase). request_in (plain (record w { phase = p; slots = [] })) q) e ∙ request_plain q w

pub request_alike : (q : Round) (v u : WriterView) → v.phase ≡ phase.InRound q → plain (unslotted v) ≡ plain (unslotted u) → request_in v q ≡ request_in u q
request_alike q v u e same =
    sym (request_one q v e) ∙ ap (λ (w : WriterView). request_in w q) same
    ∙ request_one q u (sym (ap (λ (w : WriterView). w.phase) same) ∙ e)

pub unslotted_alike : (v u : WriterView) → plain v ≡ plain u → plain (unslotted v) ≡ plain (unslotted u)
unslotted_alike v u same = ap (λ (w : WriterView). unslotted w) same

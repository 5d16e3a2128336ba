-- A task that goes on call by call, and its end.
use Rattle.std.proofs.Common.{◌≡◌, ℕ, ◌+◌, ◌-◌, ◌<◌, ◌≤◌, List, [], ◌∷◌, ◌++◌, append_assoc, append-nil, length, refl, sym, ap, ◌∙◌, subst, arith}
use Rattle.std.proofs.Common.{Option, Some, None, true, false, position, option_map}
use Rattle.std.proofs.lemmas.List.Quantifiers.{position-Some}
use Rattle.std.proofs.lemmas.Option.{slice_get_within}
use Rattle.journal_core.specs.declared.request.Request.{Request}
use Rattle.journal_core.specs.declared.heard.Heard.{Heard}
use Rattle.journal_core.specs.declared.peer_call.PeerCall.{PeerCall}
use Rattle.writer_core.specs.declared.round.Round.{Round}
use Rattle.writer_core.specs.declared.phase.Phase.{Phase}
use Rattle.writer_core.specs.declared.phase.Phase.TheVariants as phase
use Rattle.writer_core.specs.declared.turn.Turn.{Turn}
use Rattle.writer_core.specs.declared.turn.Turn.TheVariants as turn
use Rattle.writer_core.specs.Views.{WriterView}
use Rattle.writer_core.specs.declared.round.Round.TheVariants as round
use Rattle.writer_core.specs.declared.phase.Aim.{Aim}
use Rattle.writer_core.specs.declared.slot.Slot.{Slot}
use Rattle.writer_core.specs.declared.slot.Slot.TheVariants.{Waiting}
use Rattle.writer_core.specs.Answers.{is_waiting}
use Rattle.writer_core.specs.Rounds.{Judgment, keep_going, request_in}
use Rattle.writer_core.specs.Writer.{next_call, call_in, node_in, writer_heard, is_under_way}
use Rattle.writer_core.specs.Sound.{IsOkAt}
use Rattle.writer_core.specs.Left.{IsLive, HasCall, HasCallIn}
use Rattle.writer_core.specs.Turns.{SuitsIn, IsInRound, IsTurnOf}
use Rattle.writer_core.proofs.LiveLaws.{heard_live, someone_called, of_call}
use Rattle.writer_core.proofs.TaskTurns.{Turned, heard_turn}
use Rattle.writer_calls.specs.Led.{nodes_of, IsLed, judgment_along, Leads, IsCalled}
use Rattle.writer_calls.specs.Ready.{IsReady}
use Rattle.writer_calls.specs.Tasks.{IsEnd, has_more_calls}

-- ## One call more
along_more : (j : Judgment) (made : List PeerCall) (c : PeerCall) → judgment_along j (made ++ c ∷ []) ≡ writer_heard (judgment_along j made).writer c.node c.heard
unfolding judgment_along
along_more j [] c = refl
along_more j (d ∷ made) c = along_more (writer_heard j.writer d.node d.heard) made c

led_more : (j : Judgment) (made : List PeerCall) (c : PeerCall) → IsLed j.writer made → next_call (judgment_along j made).writer ≡ Some (c.node, c.request)
    → IsLed j.writer (made ++ c ∷ [])
unfolding IsLed judgment_along
led_more j [] c h n = (n, tt)
led_more j (d ∷ made) c h n = (h.0, led_more (writer_heard j.writer d.node d.heard) made c h.1 n)

pub leads_none : (w : WriterView) (calls : List PeerCall) → Leads w calls calls (keep_going w)
unfolding IsLed judgment_along
leads_none w calls = record { made = []; grew = sym (append-nil calls); led = tt; stands = refl }

pub leads_more : (begun : WriterView) (before mid after : List PeerCall) (t : Turn) (old new : WriterView) (u : Turn)
    → Leads begun before mid (record { writer = old; turn = t }) → IsCalled old mid new after u → Leads begun before after (record { writer = new; turn = u })
leads_more begun before mid after t old new u l c =
    let call : PeerCall = record { node = c.node; request = c.request; heard = c.heard } in
    let stands : old ≡ (judgment_along (keep_going begun) l.made).writer = ap (λ j. j.writer) l.stands in
    let next : next_call (judgment_along (keep_going begun) l.made).writer ≡ Some (c.node, c.request) = subst (λ (w : WriterView). next_call w ≡ Some (c.node, c.request)) stands c.next in
    record {
      made = l.made ++ call ∷ [];
      grew = c.listed ∙ ap (λ x. x ++ call ∷ []) l.grew ∙ append_assoc before l.made (call ∷ []);
      led = led_more (keep_going begun) l.made call l.led next;
      stands = sym c.judged ∙ ap (λ w. writer_heard w c.node c.heard) stands ∙ sym (along_more (keep_going begun) l.made call);
    }

-- ## A task that goes on
-- the calls so far, what the last one led to, and what stays
pub record Goes (begun : WriterView) (before : List PeerCall) (w : WriterView) (after : List PeerCall) (t : Turn) : Type 0 where
  pub leads : Leads begun before after (record { writer = w; turn = t })
  pub own : IsTurnOf begun.aim w.phase t
  pub aim : w.aim ≡ begun.aim
  pub nodes : nodes_of w ≡ nodes_of begun

pub goes_begin : (w : WriterView) (calls : List PeerCall) → IsInRound w.phase → Goes w calls w calls turn.Going
goes_begin w calls i = record { leads = leads_none w calls; own = i; aim = refl; nodes = refl }

pub goes_more : (begun : WriterView) (before mid after : List PeerCall) (t : Turn) (old new : WriterView) (u : Turn)
    → Goes begun before old mid t → IsCalled old mid new after u → IsTurnOf old.aim new.phase u → new.aim ≡ old.aim → nodes_of new ≡ nodes_of old
    → Goes begun before new after u
goes_more begun before mid after t old new u h c own aim nodes = record {
  leads = leads_more begun before mid after t old new u h.leads c;
  own = subst (λ (a : Aim). IsTurnOf a new.phase u) h.aim own;
  aim = aim ∙ h.aim;
  nodes = nodes ∙ h.nodes;
}

-- and one call more, of which the peers were told
pub goes_told : (begun : WriterView) (before mid told after : List PeerCall) (t : Turn) (old same new : WriterView) (u : Turn)
    → Goes begun before old mid t → same ≡ old → told ≡ mid → IsCalled same told new after u → IsTurnOf same.aim new.phase u → new.aim ≡ same.aim → nodes_of new ≡ nodes_of same
    → Goes begun before new after u
goes_told begun before mid told after t old same new u h e f c own aim nodes =
    goes_more begun before told after t same new u
    (subst (λ (w : WriterView). Goes begun before w told t) (sym e) (subst (λ (calls : List PeerCall). Goes begun before old calls t) (sym f) h)) c own aim nodes

-- a round is under way while there are more calls to make
pub under_way : (a : Aim) (p : Phase) (t : Turn) → IsTurnOf a p t → has_more_calls t ≡ true → IsInRound p
under_way a p turn.Going h e = h
under_way a p (turn.Done o) h e = cc
under_way a p turn.Aborted h e = cc
under_way a p (turn.EpochLimit told) h e = cc

pub goes_on : (begun : WriterView) (before : List PeerCall) (w : WriterView) (after : List PeerCall) (t : Turn) → Goes begun before w after t → has_more_calls t ≡ true → IsInRound w.phase
goes_on begun before w after t h e = under_way begun.aim w.phase t h.own e

pub goes_end : (begun : WriterView) (before : List PeerCall) (w : WriterView) (after : List PeerCall) (t : Turn) → Goes begun before w after t → has_more_calls t ≡ false → IsEnd begun.aim w.phase t
goes_end begun before w after t h e = record { over = e; own = h.own }

pub ruleset goes = (goes_begin, goes_more, goes_on, goes_end)

-- ## The next call
of_round : (p : Phase) → IsInRound p → is_under_way p ≡ true
of_round (phase.InRound r) i = refl
of_round phase.Idle i = absurd i
of_round phase.Writing i = absurd i
of_round phase.Stopped i = absurd i

-- a writer with a round under way has a call to make
pub no_end : (w : WriterView) → IsLive w → IsInRound w.phase → next_call w ≡ None → ⊥
no_end w l i e = let s = someone_called w l (of_round w.phase i) in no s.0 s.1 (next_call w) s.2 e
  where
    no : (node : ℕ) (r : Request) (o : Option (ℕ × Request)) → o ≡ Some (node, r) → o ≡ None → ⊥
    no node r o some none = cc

waits_within : (k : ℕ) (slots : List Slot) → option_map (λ i. i + 1) (position is_waiting slots) ≡ Some k → (1 ≤ k) × (k ≤ length slots)
waits_within k slots h = go (position is_waiting slots) refl h
  where
    go : (o : Option ℕ) → position is_waiting slots ≡ o → option_map (λ i. i + 1) o ≡ Some k → (1 ≤ k) × (k ≤ length slots)
    go None is f = absurd (cc f)
    go (Some i) is f =
        let below : i < length slots = (position-Some is_waiting slots i Waiting is).0 in
        let same : i + 1 ≡ k = cc f in
        (omega (arith, same), omega (arith, same, below))

fetch_within : (start node : ℕ) (slots : List Slot) → IsOkAt (round.Prepare start) node slots → (1 ≤ node) × (node ≤ length slots)
fetch_within start node slots h = let below : node - 1 < length slots = slice_get_within slots (node - 1) h.0 h.2 in let some : 0 < node = h.1 in (omega arith, omega arith)

node_within : (r : Round) (slots : List Slot) (k : ℕ) → HasCallIn r slots → node_in r slots ≡ Some k → (1 ≤ k) × (k ≤ length slots)
node_within (round.Fetch node start end bodies) slots k h e =
    let same : node ≡ k = cc e in subst (λ (x : ℕ). (1 ≤ x) × (x ≤ length slots)) same (fetch_within start node slots h.counted)
node_within round.State slots k h e = waits_within k slots e
node_within round.Propose slots k h e = waits_within k slots e
node_within (round.Prepare start) slots k h e = waits_within k slots e
node_within (round.Accept batch) slots k h e = waits_within k slots e
node_within (round.Finalize start end) slots k h e = waits_within k slots e
node_within round.Start slots k h e = waits_within k slots e
node_within round.Open slots k h e = waits_within k slots e
node_within (round.Write bodies) slots k h e = waits_within k slots e
node_within (round.Purge min) slots k h e = waits_within k slots e

at_within : (p : Phase) (w : WriterView) (k : ℕ) (q : Request) → HasCall p w.slots → call_in p w ≡ Some (k, q) → (1 ≤ k) × (k ≤ length w.slots)
at_within (phase.InRound r) w k q h e = node_within r w.slots k h (of_call (request_in w r) (node_in r w.slots) k q e)
at_within phase.Idle w k q h e = absurd (cc e)
at_within phase.Writing w k q h e = absurd (cc e)
at_within phase.Stopped w k q h e = absurd (cc e)

-- it is of a node from 1 on, up to their number
pub within : (w : WriterView) (k : ℕ) (q : Request) → IsLive w → next_call w ≡ Some (k, q) → (1 ≤ k) × (k ≤ nodes_of w)
within w k q l e = let h : (1 ≤ k) × (k ≤ length w.slots) = at_within w.phase w k q l.call e in let s : length w.left ≡ length w.slots = l.same in (h.0, omega (arith, h.1, s))

-- what the next answer leads to
pub record Hears (old new : WriterView) (t : Turn) : Type 0 where
  pub ready : IsReady new
  pub turn : IsTurnOf old.aim new.phase t
  pub aim : new.aim ≡ old.aim
  pub nodes : nodes_of new ≡ nodes_of old

pub hears : (old new : WriterView) (t : Turn) (node : ℕ) (heard : Heard) → IsReady old → IsInRound old.phase → writer_heard old node heard ≡ record { writer = new; turn = t } → Hears old new t
hears old new t node heard r i e = subst (λ (j : Judgment). Hears old j.writer j.turn) e (hearing (heard_turn old node heard r.apt r.live.same i))
  where
    hearing : Turned old.aim (length old.left) (writer_heard old node heard) → Hears old (writer_heard old node heard).writer (writer_heard old node heard).turn
    hearing h = record {
      ready = record {
        live = heard_live old node heard r.live;
        apt = subst (λ (a : Aim). SuitsIn a (writer_heard old node heard).writer.phase) (sym h.aim) h.suits;
      };
      turn = h.turn;
      aim = h.aim;
      nodes = h.left;
    }

-- what the next answer leads to, of a writer that has just named the call
pub heard_next : (now mid old new : WriterView) (t : Turn) (node : ℕ) (heard : Heard) → old ≡ now → IsReady old → IsInRound now.phase → mid ≡ old
    → writer_heard mid node heard ≡ record { writer = new; turn = t } → Hears now new t
heard_next now mid old new t node heard e r i m h =
    let ready : IsReady now = subst (λ (w : WriterView). IsReady w) e r in
    let judged : writer_heard now node heard ≡ record { writer = new; turn = t } = subst (λ (w : WriterView). writer_heard w node heard ≡ record { writer = new; turn = t }) (m ∙ e) h in
    hears now new t node heard ready i judged

pub named : (now mid old : WriterView) (o : Option (ℕ × Request)) (node : ℕ) (r : Request) → old ≡ now → mid ≡ old → o ≡ next_call mid → o ≡ Some (node, r) → next_call now ≡ Some (node, r)
named now mid old o node r e m n s = ap next_call (sym (m ∙ e)) ∙ sym n ∙ s

pub unnamed : (now mid old : WriterView) (o : Option (ℕ × Request)) → old ≡ now → mid ≡ old → IsReady old → IsInRound now.phase → o ≡ next_call mid → o ≡ None → ⊥
unnamed now mid old o e m r i n s =
    let ready : IsReady now = subst (λ (w : WriterView). IsReady w) e r in no_end now ready.live i (ap next_call (sym (m ∙ e)) ∙ sym n ∙ s)

-- A call from a seat: its request is sent now, or was under way.
use Rattle.std.proofs.Common.{◌≡◌, Option, Some, None, Bool, true, false, subst, sym, ◌∙◌}
use Rattle.std.specs.Prelude.{Result, Ok, Err, IfOk, is_some}
use Rattle.std.specs.declared.alloc.AllocError.{AllocError}
use Rattle.journal_core.specs.declared.request.Request.{Request}
use Rattle.journal_core.specs.declared.heard.Heard.{Heard}
use Rattle.journal_history.specs.Same.{same_request}
use Rattle.journal_history.proofs.SameLaws.{request_same}
use Rattle.pipe_seats.specs.Calls.{PipeView, IsReady, IsHeardAt, IsCalledAt}
use Rattle.pipe_seats.specs.Seats.{SeatView, IsSentAt, IsAhead, IsSentAhead, IsHeardBack, IsCalledFrom}

sent_now : (old mid new : SeatView) (r : Request) (heard : Heard) → IsSentAhead old mid r → IsHeardBack mid new r heard → IsCalledFrom old new r heard
sent_now old mid new r heard s h = record { idle = h.idle; called = called }
  where
    called : (before : PipeView) → IsAhead old.under_way before old.pipe → IsCalledAt before new.pipe r heard
    called before a =
        let same : old.pipe ≡ before = subst (λ (o : Option Request). IsAhead o before old.pipe) s.idle a in
        record {
          ready = s.sent.ready;
          readied = subst (λ (p : PipeView). IsReady p s.sent.ready) same s.sent.readied;
          exchanged = record { between = mid.pipe; sent = s.sent.sent; heard_then = h.heard_then };
        }

sent_before : (old new : SeatView) (r : Request) (heard : Heard) → IsHeardBack old new r heard → IsCalledFrom old new r heard
sent_before old new r heard h = record { idle = h.idle; called = called }
  where
    called : (before : PipeView) → IsAhead old.under_way before old.pipe → IsCalledAt before new.pipe r heard
    called before a =
        let s : IsSentAt before old.pipe r = subst (λ (o : Option Request). IsAhead o before old.pipe) h.under_way a in
        record { ready = s.ready; readied = s.readied; exchanged = record { between = old.pipe; sent = s.sent; heard_then = h.heard_then } }

pub called_now : (res : Result Heard AllocError) (old mid new : SeatView) (r : Request) → IsSentAhead old mid r → IfOk res (λ heard. IsHeardBack mid new r heard)
    → IfOk res (λ heard. IsCalledFrom old new r heard)
called_now (Ok heard) old mid new r s h = sent_now old mid new r heard s h
called_now (Err e) old mid new r s h = tt

pub called_before : (res : Result Heard AllocError) (old new : SeatView) (r : Request) → IfOk res (λ heard. IsHeardBack old new r heard)
    → IfOk res (λ heard. IsCalledFrom old new r heard)
called_before (Ok heard) old new r h = sent_before old new r heard h
called_before (Err e) old new r h = tt

pub ruleset calls = (called_now, called_before)

-- what was heard of the request under way, which is the one that is called
pub heard_back : (res : Result Heard AllocError) (inside now new : SeatView) (asked a b d r : Request) → inside ≡ now → inside.under_way ≡ Some asked → new.under_way ≡ None
    → a ≡ asked → b ≡ r → d ≡ r → same_request a b ≡ true → IfOk res (λ heard. IsHeardAt inside.pipe new.pipe d heard) → IfOk res (λ heard. IsHeardBack now new r heard)
heard_back (Ok heard) inside now new asked a b d r is u n ea eb ed s h =
    let same : asked ≡ r = sym ea ∙ request_same a b s ∙ eb in
    let back : IsHeardBack inside new r heard = record {
      under_way = subst (λ (q : Request). inside.under_way ≡ Some q) same u;
      idle = n;
      heard_then = subst (λ (q : Request). IsHeardAt inside.pipe new.pipe q heard) ed h;
    } in
    subst (λ (v : SeatView). IsHeardBack v new r heard) is back
heard_back (Err e) inside now new asked a b d r is u n ea eb ed s h = tt

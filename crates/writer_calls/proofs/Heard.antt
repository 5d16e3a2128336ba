-- What was read of a line so far, one call after the other.
use Rattle.std.proofs.Common.{◌≡◌, ◌≢◌, ℕ, zero, suc, ◌+◌, ◌-◌, ◌<◌, ◌≤◌, ◌⊎◌, inl, inr, List, [], ◌∷◌, ◌++◌, length, take, Contains, Some, slice_get, refl, sym, ap, subst, ◌∙◌, arith, length-append}
use Rattle.std.specs.Prelude.{false}
use Rattle.std.proofs.lemmas.List.{length-take-le}
use Rattle.std.proofs.lemmas.List.Elements.{Contains-push}
use Rattle.journal_core.specs.Views.{BatchView, last_txid}
use Rattle.journal_core.specs.Peers.{FitsHeard}
use Rattle.journal_core.specs.Answers.{BeginsAt}
use Rattle.journal_core.specs.declared.heard.Heard.{Heard}
use Rattle.journal_core.specs.declared.heard.Heard.TheVariants.{Answer}
use Rattle.journal_core.specs.declared.peer_call.PeerCall.{PeerCall}
use Rattle.journal_core.specs.declared.reply.Reply.TheVariants as reply
use Rattle.journal_core.specs.declared.request.Request.TheVariants.{Read}
use Rattle.writer_core.specs.declared.cause.Cause.{Cause}
use Rattle.writer_calls.specs.Fetching.{call_of, HasBody, IsGiven, AreGiven, MakesReads, HasFetched, HasStopped, HasWhole, gives_edits, read_cause}
use Rattle.writer_calls.proofs.CallLists.{given_left, made_none, made_on, made_one, made_same}

-- ## Bodies of two stretches
split_up : (start txid : ℕ) (x : List ℕ) (xs ys : List (List ℕ)) (body : List ℕ)
    → HasBody (start + 1) xs txid body ⊎ HasBody (start + 1 + length xs) ys txid body → HasBody start (x ∷ xs) txid body ⊎ HasBody (start + length (x ∷ xs)) ys txid body
split_up start txid x xs ys body (inl h) = inl (suc h.0, omega (arith, h.1), h.2)
split_up start txid x xs ys body (inr h) = inr (h.0, omega (arith, h.1), h.2)

split_at : (k start txid : ℕ) (xs ys : List (List ℕ)) (body : List ℕ) → txid ≡ start + k → slice_get (xs ++ ys) k ≡ Some body
    → HasBody start xs txid body ⊎ HasBody (start + length xs) ys txid body
split_at k start txid [] ys body e s = inr (k, omega (arith, e), s)
split_at zero start txid (x ∷ xs) ys body e s = inl (zero, e, s)
split_at (suc k) start txid (x ∷ xs) ys body e s = split_up start txid x xs ys body (split_at k (start + 1) txid xs ys body (omega (arith, e)) s)

pub body_split : (start txid : ℕ) (xs ys : List (List ℕ)) (body : List ℕ) → HasBody start (xs ++ ys) txid body
    → HasBody start xs txid body ⊎ HasBody (start + length xs) ys txid body
body_split start txid xs ys body h = split_at h.0 start txid xs ys body h.1 h.2

front_get : (n k : ℕ) (xs : List (List ℕ)) (body : List ℕ) → slice_get (take n xs) k ≡ Some body → slice_get xs k ≡ Some body
front_get zero k xs body e = absurd (cc)
front_get (suc n) k [] body e = e
front_get (suc n) zero (x ∷ xs) body e = e
front_get (suc n) (suc k) (x ∷ xs) body e = front_get n k xs body e

pub front_has : (n start txid : ℕ) (xs : List (List ℕ)) (body : List ℕ) → HasBody start (take n xs) txid body → HasBody start xs txid body
front_has n start txid xs body h = (h.0, h.1, front_get n h.0 xs body h.2)

none_has : (start txid : ℕ) (body : List ℕ) → HasBody start [] txid body → ⊥
none_has start txid body h = let e = h.2 in cc

has_at : (a b txid : ℕ) (xs : List (List ℕ)) (body : List ℕ) → a ≡ b → HasBody a xs txid body → HasBody b xs txid body
has_at a b txid xs body e h = subst (λ (n : ℕ). HasBody n xs txid body) e h

-- ## The reads so far
pub nothing_fetched : (node start : ℕ) (calls : List PeerCall) (bodies : List (List ℕ)) → bodies ≡ [] → HasFetched node start calls calls bodies
nothing_fetched node start calls bodies none = record {
  made = made_none calls;
  given = λ txid body h. absurd (none_has start txid body (subst (λ (bs : List (List ℕ)). HasBody start bs txid body) none h));
}

given_more : (node from start : ℕ) (calls : List PeerCall) (bodies : List (List ℕ)) (batch : BatchView) (heard : Heard) (txid : ℕ) (body : List ℕ) → AreGiven node calls start bodies
    → from ≡ start + length bodies → heard ≡ Answer (reply.Edits batch) → batch.first ≡ from
    → HasBody start bodies txid body ⊎ HasBody (start + length bodies) batch.bodies txid body → IsGiven node (calls ++ call_of node (Read from) heard ∷ []) txid body
given_more node from start calls bodies batch heard txid body given next is first (inl h) = given_left node calls (call_of node (Read from) heard ∷ []) txid body (given txid body h)
given_more node from start calls bodies batch heard txid body given next is first (inr h) = record {
  from = from;
  batch = batch;
  call = subst (λ (x : Heard). Contains (calls ++ call_of node (Read from) heard ∷ []) (call_of node (Read from) x)) is (Contains-push calls (call_of node (Read from) heard));
  has = has_at (start + length bodies) batch.first txid batch.bodies body (sym (first ∙ next)) h;
}

pub more_fetched : (node start from : ℕ) (before mid after : List PeerCall) (bodies all : List (List ℕ)) (heard : Heard) (batch : BatchView) → HasFetched node start before mid bodies
    → from ≡ start + length bodies → after ≡ mid ++ call_of node (Read from) heard ∷ [] → heard ≡ Answer (reply.Edits batch) → batch.first ≡ from → all ≡ bodies ++ batch.bodies
    → HasFetched node start before after all
more_fetched node start from before mid after bodies all heard batch h next listed is first spelled = record {
  made = made_on before mid after h.made (made_one node from heard mid after listed);
  given = λ txid body has.
      given_more node from start h.made.added bodies batch heard txid body h.given next is first
      (body_split start txid bodies batch.bodies body (subst (λ (bs : List (List ℕ)). HasBody start bs txid body) spelled has));
}

pub cut_fetched : (node start n : ℕ) (before after : List PeerCall) (bodies front : List (List ℕ)) → front ≡ take n bodies → HasFetched node start before after bodies
    → HasFetched node start before after front
cut_fetched node start n before after bodies front is h = record {
  made = h.made;
  given = λ txid body has. h.given txid body (front_has n start txid bodies body (subst (λ (bs : List (List ℕ)). HasBody start bs txid body) is has));
}

pub has_stopped : (node start end from : ℕ) (before mid after : List PeerCall) (bodies : List (List ℕ)) (heard : Heard) (cause : Cause) → HasFetched node start before mid bodies
    → start ≤ from → from ≤ end → after ≡ mid ++ call_of node (Read from) heard ∷ [] → gives_edits heard ≡ false → cause ≡ read_cause heard
    → HasStopped node start end before after cause
has_stopped node start end from before mid after bodies heard cause h low high listed none is = record {
  made = made_on before mid after h.made (made_one node from heard mid after listed);
  stopped = record {
    from = from;
    heard = heard;
    call = Contains-push h.made.added (call_of node (Read from) heard);
    low = low;
    high = high;
    none = none;
    cause_is = is;
  };
}

pub calls_added : (node start : ℕ) (before mid after : List PeerCall) (bodies : List (List ℕ)) → HasFetched node start before mid bodies → after ≡ mid → MakesReads before after
calls_added node start before mid after bodies h same = made_on before mid after h.made (made_same mid after same)

pub call_added : (node start from : ℕ) (before mid after : List PeerCall) (bodies : List (List ℕ)) (heard : Heard) → HasFetched node start before mid bodies
    → after ≡ mid ++ call_of node (Read from) heard ∷ [] → MakesReads before after
call_added node start from before mid after bodies heard h listed = made_on before mid after h.made (made_one node from heard mid after listed)

-- ## Where the next read begins
pub edits_begin : (from : ℕ) (heard : Heard) (batch : BatchView) → heard ≡ Answer (reply.Edits batch) → FitsHeard (Read from) heard → BeginsAt from batch
edits_begin from heard batch is fits = let here = subst (λ (h : Heard). FitsHeard (Read from) h) is fits in here.0

some_length : (xs : List (List ℕ)) → xs ≢ [] → 1 ≤ length xs
some_length [] h = absurd (h refl)
some_length (x ∷ xs) h = omega arith

pub next_after : (start from last : ℕ) (bodies all : List (List ℕ)) (batch : BatchView) → from ≡ start + length bodies → batch.first ≡ from → last ≡ last_txid batch
    → batch.bodies ≢ [] → all ≡ bodies ++ batch.bodies → last + 1 ≡ start + length all
next_after start from last bodies all batch next first is some spelled =
    let count : length all ≡ length bodies + length batch.bodies = ap length spelled ∙ length-append bodies batch.bodies in
    omega (arith, count, next, first, is, some_length batch.bodies some)

-- all of the line, and nothing after it
pub has_whole : (node start end n from : ℕ) (before after : List PeerCall) (bodies front : List (List ℕ)) → front ≡ take n bodies → n ≡ end + 1 - start → start ≤ end
    → HasFetched node start before after bodies → from ≡ start + length bodies → end < from → (1 ≤ length bodies → from ≤ 4611686018427387905) → HasWhole node start end before after front
has_whole node start end n from before after bodies front is size line h next above small =
    let long : length front ≡ n = ap length is ∙ length-take-le n bodies (omega (arith, size, next, above)) in
    let some : from ≤ 4611686018427387905 = small (omega (arith, next, above, line)) in
    record {
      fetched = cut_fetched node start n before after bodies front is h;
      whole = omega (arith, long, size, line);
      within = omega (arith, some, above);
    }

-- What a run says of the rounds that its requests belong to: the answers that stand before them,
-- and that an epoch has one owner.
use Rattle.std.proofs.Common.{◌≡◌, ℕ, ◌<◌, ◌≤◌, true, false, List, ◌∷◌, length, Option, Some, None, refl, inl, inr, arith, subst, sym, ap, ◌∙◌, nat_le}
use Rattle.std.proofs.lemmas.Bool.{cases_Bool, cond-true, leb-false}
use Rattle.journal_core.specs.Effects.{after_effects}
use Rattle.journal_core.specs.Segments.{newest}
use Rattle.journal_core.specs.Step.{node_step, row_refused, row_effects, row_then, fronted}
use Rattle.journal_core.specs.declared.node_state.NodeState.{NodeState}
use Rattle.journal_core.specs.declared.refusal.Refusal.{Refusal}
use Rattle.journal_core.specs.declared.reply.Reply.{Reply}
use Rattle.journal_core.specs.declared.reply.Reply.TheVariants.{Ok, State as StateTold, NewEpoch as EpochTaken, Prepared, Edits, Segments, Refused}
use Rattle.journal_core.specs.declared.request.Request.{Request}
use Rattle.journal_core.specs.declared.request.Request.TheVariants.{NewEpoch}
use Rattle.run_safety.specs.Majority.{Member, IsMajority}
use Rattle.journal_history.specs.Entries.{Entry, Answer, Heard, after_move, node_after, Earlier, now, before}
use Rattle.run_safety.specs.Run.{Story, Follows, IsNextEntry, IsNext, IsMade, IsAnswer, WasHeard, takeover_at}
use Rattle.writer_core.specs.Whole.{Takeover}
use Rattle.run_safety.proofs.SeenLaws.{Propose, Writer, is_ok_kind, seen, seen_at, seen_here, asked, asked_seen, seen_first}
use Rattle.run_safety.proofs.Places.{Follows-earlier, next_of, Earlier-trans, Earlier-tail}
use Rattle.run_safety.proofs.Majorities.{majorities_share}
use Rattle.journal_core.proofs.Steps.{Acted, at_once, by_row, done, acted}
use Rattle.run_safety.proofs.SoundNodes.{promise_earlier}
use Rattle.run_safety.proofs.Along.{Requested, node_here}
use Rattle.run_safety.proofs.Slots.{none≢some, some_same}
use Rattle.run_safety.proofs.Rounds.{earlier_round, RoundBefore}
use Rattle.run_safety.proofs.Table.{sound_at}
use Rattle.run_safety.proofs.Frames.{OkHeard, Done, IsGet, Sound}

pub to : {A : Type 0} (P : A → Type 0) {x y : A} → x ≡ y → P x → P y
to P e p = subst P e p

-- a request that had an effect or an answer was made by its takeover
pub made_of : (n : ℕ) (story : Story) (old : List Entry) (e : Entry) (r : Request) → IsNextEntry n story old e
    → Requested (node_after e.node old) e.move r → (caller : ℕ) × IsMade n story old caller e.node r
made_of n story old e r next (inl x) = (x.0, (to (λ m. IsNext n story old e.node (node_after e.node old) m) x.3 next.is_next).0.made)
made_of n story old e r next (inr x) = (x.0, ((to (λ m. IsNext n story old e.node (node_after e.node old) m) x.3 next.is_next).2 x.4).made)

-- the round that a request was made in, and the request
pub made_at : (n : ℕ) (story : Story) (old : List Entry) (caller node : ℕ) (r : Request) → (m : IsMade n story old caller node r)
    → seen_at n (takeover_at story old) (story.round (length old)) ≡ Some (seen m.underway)
made_at n story old caller node r m = seen_here n (takeover_at story old) (story.round (length old)) m.underway m.tasks_follow m.is_there

pub made_asks : (n : ℕ) (story : Story) (old : List Entry) (caller node : ℕ) (r : Request) → (m : IsMade n story old caller node r)
    → r ≡ asked (takeover_at story old).epoch (story.round (length old)) (seen m.underway).committed (seen m.underway).round
made_asks n story old caller node r m =
    let so : Sound n (takeover_at story old) (story.round (length old)) m.underway = sound_at n (takeover_at story old) (story.round (length old)) m.underway m.tasks_follow m.is_there in
    m.is_asked ∙ asked_seen m.underway (takeover_at story old).epoch (story.round (length old)) so.epoch so.serial

-- ## A round was sent: all that was heard in the rounds before stands before its place
pub record Sent (n : ℕ) (story : Story) (past : List Entry) (a s : ℕ) (w : Writer) : Type 0 where
  pub old : List Entry
  pub within : Earlier old past
  pub at : seen_at n (story.takeover a) s ≡ Some w
  pub heard_before : (k i : ℕ) (reply : Reply) → k < s → (story.takeover a).heard k i ≡ Some reply → WasHeard story old a k i reply

pub Sent-later : (n : ℕ) (story : Story) {past more : List Entry} (a s : ℕ) (w : Writer) → Earlier past more → Sent n story past a s w → Sent n story more a s w
Sent-later n story a s w p x = record { old = x.old; within = Earlier-trans x.within p; at = x.at; heard_before = x.heard_before }

-- an earlier round of the same takeover was sent
pub Sent-round : (n : ℕ) (story : Story) (past : List Entry) (a s k : ℕ) (w x : Writer) → Sent n story past a s w → k ≤ s → seen_at n (story.takeover a) k ≡ Some x → Sent n story past a k x
Sent-round n story past a s k w x p le at = record { old = p.old; within = p.within; at = at; heard_before = λ j i reply lt h. p.heard_before j i reply (omega arith) h }

-- what a request says of its round
pub record OfRound (n : ℕ) (story : Story) (old : List Entry) (r : Request) : Type 0 where
  pub a : ℕ
  pub s : ℕ
  pub w : Writer
  pub sent : Sent n story old a s w
  pub is : r ≡ asked (story.takeover a).epoch s w.committed w.round

pub round_of : (n : ℕ) (story : Story) (old : List Entry) (e : Entry) (r : Request) → IsNextEntry n story old e → Requested (node_after e.node old) e.move r → OfRound n story old r
round_of n story old e r next q =
    let m = (made_of n story old e r next q).1 in
    record {
      a = story.whose (length old);
      s = story.round (length old);
      w = seen m.underway;
      sent = record { old = old; within = now; at = made_at n story old _ e.node r m; heard_before = λ k i reply lt h. m.heard_before k i reply lt h };
      is = made_asks n story old _ e.node r m;
    }

-- the request of an entry of a run, whenever it came
pub round_within : (n : ℕ) (story : Story) (past old : List Entry) (e : Entry) (r : Request) → Follows n story past → Earlier (e ∷ old) past
    → Requested (node_after e.node old) e.move r → OfRound n story past r
round_within n story past old e r f p q =
    let x : OfRound n story old r = round_of n story old e r (next_of n story p f) q in
    record { a = x.a; s = x.s; w = x.w; sent = Sent-later n story x.a x.s x.w (Earlier-tail p) x.sent; is = x.is }

-- ## An answer of the Ok kind that was heard
pub record Answered (n : ℕ) (story : Story) (past : List Entry) (a k : ℕ) (w : Writer) (i : ℕ) (reply : Reply) : Type 0 where
  pub old : List Entry
  pub entry : Entry
  pub within : Earlier (entry ∷ old) past
  pub node : entry.node ≡ i
  pub caller : ℕ
  pub move : entry.move ≡ Answer caller Heard (asked (story.takeover a).epoch k w.committed w.round) reply
  pub replied : (node_step (node_after i old) (asked (story.takeover a).epoch k w.committed w.round)).reply ≡ reply
  pub kind : is_ok_kind w.round reply ≡ true
  pub whose : story.whose (length old) ≡ a
  pub which : story.round (length old) ≡ k

pub answered_of : (n : ℕ) (story : Story) (past : List Entry) (a k : ℕ) (w : Writer) (i : ℕ) (reply : Reply) → Follows n story past → seen_at n (story.takeover a) k ≡ Some w →
    is_ok_kind w.round reply ≡ true → WasHeard story past a k i reply → Answered n story past a k w i reply
answered_of n story past a k w i reply f at kind h =
    let e : Entry = h.1 in
    let p : Earlier (e ∷ h.0) past = h.2 in
    let ans : IsAnswer story h.0 e a k i reply = h.3 in
    let next : IsNextEntry n story h.0 e = next_of n story p f in
    let call = to (λ m. IsNext n story h.0 e.node (node_after e.node h.0) m) ans.3.2 next.is_next in
    let made : IsMade n story h.0 ans.3.0 e.node ans.3.1 = call.0.made in
    let there : seen_at n (story.takeover a) k ≡ Some (seen made.underway) =
    ap (λ z. seen_at n (story.takeover z) k) (sym ans.0) ∙ (ap (λ z. seen_at n (takeover_at story h.0) z) (sym ans.1) ∙ made_at n story h.0 ans.3.0 e.node ans.3.1 made) in
    let one : seen made.underway ≡ w = some_same (sym there ∙ at) in
    let request : ans.3.1 ≡ asked (story.takeover a).epoch k w.committed w.round =
    made_asks n story h.0 ans.3.0 e.node ans.3.1 made ∙ (ap (λ z. asked (story.takeover z).epoch (story.round (length h.0)) (seen made.underway).committed (seen made.underway).round) ans.0
    ∙ (ap (λ z. asked (story.takeover a).epoch z (seen made.underway).committed (seen made.underway).round) ans.1
    ∙ ap (λ z. asked (story.takeover a).epoch k z.committed z.round) one)) in
    record {
      old = h.0;
      entry = e;
      within = p;
      node = ans.2;
      caller = ans.3.0;
      move = ans.3.2 ∙ ap (λ z. Answer ans.3.0 Heard z reply) request;
      replied = subst (λ z. (node_step (node_after i h.0) z).reply ≡ reply) request (subst (λ z. (node_step (node_after z h.0) ans.3.1).reply ≡ reply) ans.2 call.1);
      kind = kind;
      whose = ans.0;
      which = ans.1;
    }

-- the answers to a round before one that was sent: a majority's, all before its place
pub record Answers (n : ℕ) (story : Story) (old : List Entry) (a k : ℕ) : Type 0 where
  pub w : Writer
  pub at : seen_at n (story.takeover a) k ≡ Some w
  pub nodes : List ℕ
  pub majority : IsMajority n nodes
  pub each : (i : ℕ) → Member i nodes → (reply : Reply) × Answered n story old a k w i reply × OkHeard n w ((story.takeover a).heard k) i reply

pub answers_of : (n : ℕ) (story : Story) (past : List Entry) (a s k : ℕ) (w : Writer) → Follows n story past → (p : Sent n story past a s w) → k < s
    → ((x : Writer) → seen_at n (story.takeover a) k ≡ Some x → IsGet x.round → ⊥) → Answers n story p.old a k
answers_of n story past a s k w f p lt no_fetch =
    let x : RoundBefore n (story.takeover a) k = earlier_round n (story.takeover a) k s w lt p.at in
    let d : Done n x.writer ((story.takeover a).heard k) = x.done (no_fetch x.writer x.at) in
    record {
      w = x.writer;
      at = x.at;
      nodes = d.nodes;
      majority = d.majority;
      each = λ i m. (let r = d.each i m in
          (r.0, answered_of n story p.old a k x.writer i r.0 (Follows-earlier n story p.within f) x.at r.1.kind (p.heard_before k i r.0 lt r.1.was_heard), r.1));
    }

-- where the round is known to be no fetch
pub no_fetch : (n : ℕ) (t : Takeover) (k : ℕ) (v : Writer) → seen_at n t k ≡ Some v → (IsGet v.round → ⊥) → (x : Writer) → seen_at n t k ≡ Some x → IsGet x.round → ⊥
no_fetch n t k v at never x is g = never (to (λ z. IsGet z.round) (some_same (sym is ∙ at)) g)

-- ## Proposals
refused≢taken : {P : Type 0} (x : Refusal) (m : Option ℕ) → Refused x ≡ EpochTaken m → P
refused≢taken x m e = cc

-- a proposal that is taken is above the promise, which it becomes, and is told the newest start
pub record Taken (s : NodeState) (e : ℕ) (m : Option ℕ) : Type 0 where
  pub above : s.promised < e
  pub promise : (node_step s (NewEpoch e)).state.promised ≡ e
  pub newest_is : newest s.segments ≡ m

taken_row : (s : NodeState) (e : ℕ) → row_refused (fronted s (NewEpoch e)) (NewEpoch e) ≡ None → s.promised < e
taken_row s e n = elim (cases_Bool (nat_le e s.promised)) [
  | inl t ↦ absurd (none≢some {P = ⊥} _ (sym n ∙ cond-true (nat_le e s.promised) _ _ t))
  | inr f ↦ leb-false e s.promised f
]

taken_promise : (s : NodeState) (e : ℕ) → (row_then (after_effects (fronted s (NewEpoch e)) (row_effects (fronted s (NewEpoch e)) (NewEpoch e))) (NewEpoch e)).promised ≡ e
unfolding after_effects
taken_promise s e = refl

pub taken : (s : NodeState) (e : ℕ) (m : Option ℕ) → (node_step s (NewEpoch e)).reply ≡ EpochTaken m → Taken s e m
taken s e m r = go (acted s (NewEpoch e))
  where
    told_of : {x y : Option ℕ} → EpochTaken x ≡ EpochTaken y → x ≡ y
    told_of q = cc

    go : Acted s (NewEpoch e) → Taken s e m
    go (at_once x a b c) = refused≢taken x m (sym (ap (λ z. z.reply) b) ∙ r)
    go (by_row x a b c d) = refused≢taken x m (sym (ap (λ z. z.reply) c) ∙ r)
    go (done a b c d) = record { above = taken_row s e b; promise = ap (λ z. z.state.promised) c ∙ taken_promise s e; newest_is = told_of (sym (ap (λ z. z.reply) c) ∙ r) }

-- an answer of the Ok kind to a proposal
pub proposal_kind : (reply : Reply) → is_ok_kind Propose reply ≡ true → (m : Option ℕ) × (reply ≡ EpochTaken m)
proposal_kind (EpochTaken m) k = (m, refl)
proposal_kind Ok k = let no : false ≡ true = k in cc
proposal_kind (StateTold p) k = let no : false ≡ true = k in cc
proposal_kind (Prepared a b c) k = let no : false ≡ true = k in cc
proposal_kind (Edits b) k = let no : false ≡ true = k in cc
proposal_kind (Segments l) k = let no : false ≡ true = k in cc
proposal_kind (Refused x) k = let no : false ≡ true = k in cc

-- a vote: the answer to the proposal of this takeover
pub record Vote (n : ℕ) (story : Story) (past : List Entry) (a i : ℕ) : Type 0 where
  pub told : Option ℕ
  pub old : List Entry
  pub entry : Entry
  pub within : Earlier (entry ∷ old) past
  pub node : entry.node ≡ i
  pub whose : story.whose (length old) ≡ a
  pub taken_is : Taken (node_after i old) (story.takeover a).epoch told
  pub after : (node_after i (entry ∷ old)).promised ≡ (story.takeover a).epoch
  pub heard : (story.takeover a).heard 0 i ≡ Some (EpochTaken told)

abbrev pub vote_of : (n : ℕ) (story : Story) (past : List Entry) (a i : ℕ) (w : Writer) (reply : Reply) → w.round ≡ Propose
    → Answered n story past a 0 w i reply → (story.takeover a).heard 0 i ≡ Some reply → Vote n story past a i
vote_of n story past a i w reply is x h =
    let k = proposal_kind reply (to (λ r. is_ok_kind r reply ≡ true) is x.kind) in
    let request : asked (story.takeover a).epoch 0 w.committed w.round ≡ NewEpoch (story.takeover a).epoch = ap (λ r. asked (story.takeover a).epoch 0 w.committed r) is in
    let t : Taken (node_after i x.old) (story.takeover a).epoch k.0 =
    taken (node_after i x.old) (story.takeover a).epoch k.0 (ap (λ z. (node_step (node_after i x.old) z).reply) (sym request) ∙ (x.replied ∙ k.1))
    in
    record {
      told = k.0;
      old = x.old;
      entry = x.entry;
      within = x.within;
      node = x.node;
      whose = x.whose;
      taken_is = t;
      after = ap (λ z. z.promised) (node_here i x.entry x.old x.node ∙ ap (λ z. after_move (node_after i x.old) z) x.move)
          ∙ (ap (λ z. (node_step (node_after i x.old) z).state.promised) request ∙ t.promise);
      heard = h ∙ ap (λ z. Some z) k.1;
    }

pub record Votes (n : ℕ) (story : Story) (past : List Entry) (a : ℕ) : Type 0 where
  pub nodes : List ℕ
  pub majority : IsMajority n nodes
  pub each : (i : ℕ) → Member i nodes → Vote n story past a i

-- all that follows a proposal has a majority of votes before it
pub votes_of : (n : ℕ) (story : Story) (past : List Entry) (a s : ℕ) (w : Writer) → Follows n story past → (p : Sent n story past a s w) → 0 < s → Votes n story p.old a
votes_of n story past a s w f p lt =
    let x : Answers n story p.old a 0 = answers_of n story past a s 0 w f p lt (λ v at. to (λ r. IsGet r → ⊥) (sym (seen_first n (story.takeover a) v at).0) (λ z. z)) in
    let is : x.w.round ≡ Propose = (seen_first n (story.takeover a) x.w x.at).0 in
    record { nodes = x.nodes; majority = x.majority; each = λ i m. (let r = x.each i m in vote_of n story p.old a i x.w r.0 is r.1 r.2.was_heard) }

pub Vote-later : (n : ℕ) (story : Story) {past more : List Entry} (a i : ℕ) → Earlier past more → Vote n story past a i → Vote n story more a i
Vote-later n story a i p v = record {
  told = v.told;
  old = v.old;
  entry = v.entry;
  within = Earlier-trans v.within p;
  node = v.node;
  whose = v.whose;
  taken_is = v.taken_is;
  after = v.after;
  heard = v.heard;
}

-- two places of one run: one is the other, or stands before it
pub data Order (x y : Entry) (xs ys : List Entry) : Type 0 where
  the_same : xs ≡ ys → Order x y xs ys
  first_before : Earlier (x ∷ xs) ys → Order x y xs ys
  second_before : Earlier (y ∷ ys) xs → Order x y xs ys

tail_same : {x y : Entry} {xs ys : List Entry} → x ∷ xs ≡ y ∷ ys → xs ≡ ys
tail_same e = cc

order_with : {x y : Entry} {xs ys past : List Entry} → Earlier (y ∷ ys) past → (z : List Entry) → z ≡ x ∷ xs → (past ≡ z) → Order x y xs ys
order_with now z e q = the_same (sym (tail_same (q ∙ e)))
order_with {x} {y} {xs} {ys} (before {past = rest} p) z e q = second_before (subst (λ r. Earlier (y ∷ ys) r) (tail_same (q ∙ e)) p)

pub order_of : {x y : Entry} {xs ys past : List Entry} → Earlier (x ∷ xs) past → Earlier (y ∷ ys) past → Order x y xs ys
order_of {x} {y} {xs} {ys} now q = order_with q (x ∷ xs) refl refl
order_of (before p) now = first_before p
order_of (before p) (before q) = order_of p q

pub one_vote : (n : ℕ) (story : Story) (past : List Entry) (a b i : ℕ) → (story.takeover a).epoch ≡ (story.takeover b).epoch
    → (v : Vote n story past a i) → (u : Vote n story past b i) → Order v.entry u.entry v.old u.old → a ≡ b
one_vote n story past a b i same v u (the_same e) = sym v.whose ∙ (ap (λ z. story.whose (length z)) e ∙ u.whose)
one_vote n story past a b i same v u (first_before p) =
    let h : (node_after i (v.entry ∷ v.old)).promised ≤ (node_after i u.old).promised = promise_earlier i p in
    absurd (omega (arith, v.after, u.taken_is.above))
one_vote n story past a b i same v u (second_before p) =
    let h : (node_after i (u.entry ∷ u.old)).promised ≤ (node_after i v.old).promised = promise_earlier i p in
    absurd (omega (arith, u.after, v.taken_is.above))

-- an epoch has one owner
pub one_owner : (n : ℕ) (story : Story) (past : List Entry) (a b s k : ℕ) (w x : Writer) → Follows n story past → Sent n story past a s w → Sent n story past b k x → 0 < s → 0 < k →
    (story.takeover a).epoch ≡ (story.takeover b).epoch → a ≡ b
one_owner n story past a b s k w x f p q ls lk same =
    let va : Votes n story p.old a = votes_of n story past a s w f p ls in
    let vb : Votes n story q.old b = votes_of n story past b k x f q lk in
    let i = majorities_share n va.nodes vb.nodes va.majority vb.majority in
    let v : Vote n story past a i.0 = Vote-later n story a i.0 p.within (va.each i.0 i.1) in
    let u : Vote n story past b i.0 = Vote-later n story b i.0 q.within (vb.each i.0 i.2) in
    one_vote n story past a b i.0 same v u (order_of v.within u.within)

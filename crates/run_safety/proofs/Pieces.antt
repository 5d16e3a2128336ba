-- What is recovered is whole: the pieces that were fetched from the best answer's node are those of
-- the segment that it told, since nothing but fetches came between.
use Rattle.std.proofs.Common.{◌≡◌, ℕ, zero, suc, ◌+◌, ◌-◌, ◌<◌, ◌≤◌, ◌⊎◌, true, List, [], ◌∷◌, ◌++◌, length, length-append, take, drop, Option, Some, refl, inl, inr, arith, sym, ap, ◌∙◌, append_assoc}
use Rattle.std.proofs.lemmas.Bool.{cases_order}
use Rattle.std.proofs.lemmas.List.{take-append-drop}
use Rattle.std.proofs.Math.Seq.{drop-append_seam}
use Rattle.journal_core.specs.Views.{HeadView, BatchView}
use Rattle.journal_core.specs.Limits.{head_of}
use Rattle.journal_core.specs.Reads.{most_edits, piece_of}
use Rattle.journal_core.specs.Segments.{find_segment}
use Rattle.journal_core.specs.Step.{node_step}
use Rattle.journal_core.specs.declared.node_state.NodeState.{NodeState}
use Rattle.journal_core.specs.declared.request.Request.{Request}
use Rattle.journal_core.specs.declared.request.Request.TheVariants.{Prepare, Fetch}
use Rattle.journal_core.specs.declared.reply.Reply.TheVariants.{Prepared, Edits}
use Rattle.journal_core.specs.declared.segment.Segment.{Segment}
use Rattle.journal_history.specs.Entries.{Entry, Answer, Heard, node_after, Earlier}
use Rattle.run_safety.specs.Run.{Story, Follows, IsNext, IsMade, WasHeard}
use Rattle.run_safety.proofs.Places.{Earlier-trans, Earlier-tail, Follows-earlier, next_of}
use Rattle.journal_core.proofs.SegmentLists.{find-start}
use Rattle.journal_core.proofs.Steps.{front_le, append_nil}
use Rattle.run_safety.proofs.SoundNodes.{promise_earlier}
use Rattle.journal_core.proofs.Changes.{Change, same, created, grown, made_final, replaced, removed}
use Rattle.run_safety.proofs.Along.{Requested, Changes, along, node_here}
use Rattle.run_safety.proofs.Slots.{some_same}
use Rattle.run_safety.proofs.SeenLaws.{Propose, Ask, Get, Writer, is_ok_kind, seen_at, seen_first, asked}
use Rattle.run_safety.proofs.Rounds.{Comes, comes}
use Rattle.run_safety.proofs.Before.{stage, StageLater, stage_later, GotBy, nothing_yet, one_more, got_before}
use Rattle.run_safety.proofs.Sent.{Sent-later, OfRound, round_within, one_owner, Answered, answered_of, to}
use Rattle.run_safety.proofs.Values.{start_round, journal_round, accept_round, finalize_round, purge_round}
use Rattle.run_safety.proofs.Oks.{Passed, passed}
use Rattle.run_safety.proofs.Between.{head_promise, asking_entry}
use Rattle.run_safety.proofs.Prepares.{Asking, AnswerAt, asks_kind, answered_once, not_again}

-- ## Beginnings of a list
abbrev pub IsPrefix : List (List ℕ) → List (List ℕ) → Type 0
IsPrefix xs zs = (rest : List (List ℕ)) × (xs ++ rest ≡ zs)

pub more_of : (xs zs : List (List ℕ)) (c d : ℕ) → IsPrefix xs zs → IsPrefix (xs ++ take c (take d (drop (length xs) zs))) zs
more_of xs zs c d p =
    let behind : drop (length xs) zs ≡ p.0 = ap (λ ys. drop (length xs) ys) (sym p.1) ∙ drop-append_seam xs p.0 in
    to (λ ys. IsPrefix (xs ++ take c (take d ys)) zs) (sym behind) (
      drop c (take d p.0) ++ drop d p.0,
      append_assoc xs (take c (take d p.0)) (drop c (take d p.0) ++ drop d p.0)
          ∙ (ap (λ ys. xs ++ ys) (sym (append_assoc (take c (take d p.0)) (drop c (take d p.0)) (drop d p.0))
          ∙ (ap (λ ys. ys ++ drop d p.0) (take-append-drop c (take d p.0)) ∙ take-append-drop d p.0)) ∙ p.1),
    )

pub all_of : (xs zs : List (List ℕ)) → IsPrefix xs zs → length zs ≤ length xs → xs ≡ zs
all_of xs zs (rest, is) le = go rest is
  where
    go : (rest : List (List ℕ)) → xs ++ rest ≡ zs → xs ≡ zs
    go [] e = sym (append_nil xs) ∙ e
    go (y ∷ rest) e = (let len : length (xs ++ y ∷ rest) ≡ length zs =
        ap length e in let sum : length (xs ++ y ∷ rest) ≡ length xs + length (y ∷ rest) = length-append xs (y ∷ rest) in absurd (omega arith))

-- ## What may change a segment is a request of a round after the recovery's fetches
record WorkOf (n : ℕ) (story : Story) (past : List Entry) (r : Request) (z : OfRound n story past r) : Type 0 where
  head : HeadView
  is : head_of r ≡ Some head
  epoch : head.epoch ≡ (story.takeover z.a).epoch
  late : 3 ≤ stage z.w.round

work_of : (n : ℕ) (story : Story) (past : List Entry) (s : NodeState) (r : Request) (m : ℕ) (o new : Option Segment) → Change s r m o new
    → (z : OfRound n story past r) → (new ≡ o) ⊎ WorkOf n story past r z
work_of n story past s r m o new same z = inl refl
work_of n story past s r m o new (created h q none) z =
    let p = start_round (story.takeover z.a).epoch z.s z.w.committed z.w.round h m (sym q ∙ z.is) in
    inr (record { head = h; is = ap head_of q; epoch = p.1; late = to (λ k. 3 ≤ stage k) (sym p.0) (omega arith) })
work_of n story past s r m (Some g) new (grown h b q header f first) z =
    let p = journal_round (story.takeover z.a).epoch z.s z.w.committed z.w.round h m b (sym q ∙ z.is) in
    inr (record { head = h; is = ap head_of q; epoch = p.1; late = to (λ k. 3 ≤ stage k) (sym p.0) (omega arith) })
work_of n story past s r m (Some g) new (made_final h l q edit f header ends) z =
    let p = finalize_round (story.takeover z.a).epoch z.s z.w.committed z.w.round h m l (sym q ∙ z.is) in
    inr (record { head = h; is = ap head_of q; epoch = p.1; late = to (λ k. 3 ≤ stage k) (sym p.0) (omega arith) })
work_of n story past s r m o new (replaced h b q first f) z =
    let p = accept_round (story.takeover z.a).epoch z.s z.w.committed z.w.round h b (sym q ∙ z.is) in
    inr (record { head = h; is = ap head_of q; epoch = p.1; late = to (λ k. 3 ≤ stage k) (sym p.0) (omega arith) })
work_of n story past s r m (Some g) new (removed h l q newer low shut) z =
    let p = purge_round (story.takeover z.a).epoch z.s z.w.committed z.w.round h l (sym q ∙ z.is) in
    inr (record { head = h; is = ap head_of q; epoch = p.1; late = to (λ k. 3 ≤ stage k) (sym p.0) (omega arith) })

module _ (n : ℕ) (story : Story) (past : List Entry) (run : Follows n story past) (f m : ℕ) (x : Asking n story past run f m) where
  -- ## From the answer to a prepare to the answer to a fetch the node's segments stay
  module _ (i : ℕ) (y : AnswerAt n story past run f m x i) (k end : ℕ) (v : Writer) (pieces : List (List ℕ)) (batch : BatchView)
      (at : seen_at n (story.takeover x.a) k ≡ Some v) (is : v.round ≡ Get i m end pieces)
      (heard : (story.takeover x.a).heard k i ≡ Some (Edits batch)) (late : 1 < k) (sent : k < x.s) where
    abbrev pub head : HeadView
    head = record { epoch = (story.takeover x.a).epoch; serial = k; committed = v.committed }

    -- the answer to the fetch
    abbrev pub z : Answered n story x.sent.old x.a k v i (Edits batch)
    z = answered_of n story x.sent.old x.a k v i (Edits batch) (Follows-earlier n story x.sent.within run) at
        (to (λ r. is_ok_kind r (Edits batch) ≡ true) (sym is) refl) (x.sent.heard_before k i (Edits batch) sent heard)

    inside : Earlier (z.entry ∷ z.old) past
    inside = Earlier-trans z.within x.sent.within

    replied : (node_step (node_after i z.old) (Fetch head m (m + length pieces))).reply ≡ Edits batch
    replied = to (λ r. (node_step (node_after i z.old) (asked (story.takeover x.a).epoch k v.committed r)).reply ≡ Edits batch) is z.replied

    fetch_passed : Passed (node_after i z.old) (Fetch head m (m + length pieces))
    fetch_passed = passed (node_after i z.old) (Fetch head m (m + length pieces)) (Edits batch) replied tt

    top : (node_after i z.old).promised ≤ f
    top = let le : (node_after i z.old).promised ≤ head.epoch = front_le (node_after i z.old) (Fetch head m (m + length pieces)) head refl fetch_passed.at_once in omega (arith, x.epoch)

    -- the answer to the prepare stands before
    made : IsMade n story z.old z.caller z.entry.node (asked (story.takeover x.a).epoch k v.committed v.round)
    made = (to (λ u. IsNext n story z.old z.entry.node (node_after z.entry.node z.old) u) z.move (next_of n story inside run).is_next).0.made

    first_heard : WasHeard story z.old x.a 1 i (Prepared y.writer y.known y.segment)
    first_heard = to (λ a. WasHeard story z.old a 1 i (Prepared y.writer y.known y.segment)) z.whose
        (made.heard_before 1 i (Prepared y.writer y.known y.segment) (omega (arith, z.which, late))
        (to (λ a. (story.takeover a).heard 1 i ≡ Some (Prepared y.writer y.known y.segment)) (sym z.whose) y.heard))

    before_fetch : Earlier z.old past
    before_fetch = Earlier-tail inside

    q : Answered n story z.old x.a 1 x.asks i (Prepared y.writer y.known y.segment)
    q = answered_of n story z.old x.a 1 x.asks i (Prepared y.writer y.known y.segment) (Follows-earlier n story before_fetch run) x.at
        (asks_kind n story past run f m x (Prepared y.writer y.known y.segment) y.fits) first_heard

    same_place : q.old ≡ y.old
    same_place = answered_once n story past run x.a 1 x.asks x.asks i (Prepared y.writer y.known y.segment) (Prepared y.writer y.known y.segment)
        z.old x.sent.old before_fetch x.sent.within q y.answered ∙ y.is_old

    abbrev ask_head : HeadView
    ask_head = record { epoch = (story.takeover x.a).epoch; serial = 1; committed = x.asks.committed }

    ask_move : q.entry.move ≡ Answer q.caller Heard (Prepare ask_head m) (Prepared y.writer y.known y.segment)
    ask_move = to (λ r. q.entry.move ≡ Answer q.caller Heard (asked (story.takeover x.a).epoch 1 x.asks.committed r) (Prepared y.writer y.known y.segment)) x.is q.move

    ask_passed : Passed (node_after i q.old) (Prepare ask_head m)
    ask_passed = passed (node_after i q.old) (Prepare ask_head m) (Prepared y.writer y.known y.segment)
        (to (λ r. (node_step (node_after i q.old) (asked (story.takeover x.a).epoch 1 x.asks.committed r)).reply ≡ Prepared y.writer y.known y.segment) x.is q.replied) tt

    bottom : f ≤ (node_after i (q.entry ∷ q.old)).promised
    bottom = (let up : (story.takeover x.a).epoch ≤ (node_after i (q.entry ∷ q.old)).promised = to (λ u. (story.takeover x.a).epoch ≤ u.promised) (sym (node_here i q.entry q.old q.node))
        (head_promise (node_after i q.old) q.entry.move (Prepare ask_head m) ask_head
        (inl (q.caller, Heard, Prepared y.writer y.known y.segment, ask_move)) ask_passed.at_once refl) in omega (arith, x.epoch))

    -- a request between the two that may change a segment would be of a later round of this
    -- takeover, which comes after the fetch's answer
    none_between : (e : Entry) (old : List Entry) → Earlier (q.entry ∷ q.old) old → Earlier (e ∷ old) z.old → (r : Request) → (u : OfRound n story z.old r) → (g : WorkOf n story z.old r u) →
        (node_after i old).promised ≤ g.head.epoch → g.head.epoch ≤ (node_after i (e ∷ old)).promised → ⊥
    none_between e old a b r u g low high = not_again n story past run x.a k v i (Edits batch) (Edits batch) x.sent.old x.sent.within z again
      where
        up : (node_after i (q.entry ∷ q.old)).promised ≤ (node_after i old).promised
        up = promise_earlier i a

        down : (node_after i (e ∷ old)).promised ≤ (node_after i z.old).promised
        down = promise_earlier i b

        at_f : g.head.epoch ≡ f
        at_f = omega (arith, bottom, top, up, down)

        working : 0 < u.s
        working = positive u.s u.sent.at
          where
            positive : (s : ℕ) → seen_at n (story.takeover u.a) s ≡ Some u.w → 0 < s
            positive zero is0 = (let no_stage : stage u.w.round ≡ 0 = ap stage (seen_first n (story.takeover u.a) u.w is0).0 in absurd (omega (arith, g.late)))
            positive (suc s) is0 = omega arith

        one : u.a ≡ x.a
        one = one_owner n story past u.a x.a u.s x.s u.w x.w run (Sent-later n story u.a u.s u.w before_fetch u.sent) x.sent working (omega (arith, x.later)) (sym g.epoch ∙ (at_f ∙ sym x.epoch))

        at_u : seen_at n (story.takeover x.a) u.s ≡ Some u.w
        at_u = to (λ a2. seen_at n (story.takeover a2) u.s ≡ Some u.w) one u.sent.at

        fetching : stage v.round ≡ 2
        fetching = ap stage is

        not_lower : StageLater (stage u.w.round) (stage v.round) → ⊥
        not_lower (inl lt) = omega (arith, g.late, fetching)
        not_lower (inr c) = omega (arith, g.late, fetching, c.0)

        behind : k < u.s
        behind = elim (cases_order u.s k) [
          | inl same_round ↦ (let writer : u.w ≡ v = some_same (sym at_u ∙ (ap (λ s. seen_at n (story.takeover x.a) s) same_round ∙ at)) in
              let stages : stage u.w.round ≡ stage v.round = ap (λ w. stage w.round) writer in absurd (omega (arith, g.late, fetching)))
          | inr other ↦ elim other [
            | inl lt ↦ absurd (not_lower (stage_later n (story.takeover x.a) u.s k u.w v lt at_u at))
            | inr gt ↦ gt
          ]
        ]

        h : WasHeard story u.sent.old u.a k i (Edits batch)
        h = u.sent.heard_before k i (Edits batch) behind (to (λ a2. (story.takeover a2).heard k i ≡ Some (Edits batch)) (sym one) heard)

        again : WasHeard story z.old x.a k i (Edits batch)
        again = to (λ a2. WasHeard story z.old a2 k i (Edits batch)) one (h.0, h.1, Earlier-trans h.2 u.sent.within, h.3)

    pub still : (j : ℕ) → find_segment j (node_after i z.old).segments ≡ find_segment j (node_after i y.old).segments
    still j = along i j (λ o. o ≡ find_segment j (node_after i q.old).segments) q.within
        (asking_entry i j q.entry q.old q.caller Heard (Prepare ask_head m) (Prepared y.writer y.known y.segment) ask_move tt)
        (λ e old a b c h. elim (work_of n story z.old (node_after i old) c.by.request j _ _ c.by.change (round_here e old b c)) [
          | inl same_one ↦ same_one ∙ h
          | inr g ↦ absurd (none_between e old a b c.by.request (round_here e old b c) g
              (front_le (node_after i old) c.by.request g.head g.is c.by.passed)
              (to (λ s. g.head.epoch ≤ s.promised) (sym (node_here i e old c.node)) (head_promise (node_after i old) e.move c.by.request g.head c.by.asked c.by.passed g.is)))
        ])
        ∙ ap (λ w. find_segment j (node_after i w).segments) same_place
      where
        round_here : (e : Entry) (old : List Entry) → Earlier (e ∷ old) z.old → (c : Changes i e old j) → OfRound n story z.old c.by.request
        round_here e old b c = round_within n story z.old old e c.by.request (Follows-earlier n story before_fetch run) b
            (to (λ w. Requested (node_after w old) e.move c.by.request) (sym c.node) c.by.asked)

    -- so the piece is one of the segment that was told
    pub piece : (g : Segment) → find_segment m (node_after i y.old).segments ≡ Some g → batch.bodies ≡ take most_edits (drop (length pieces) g.bodies)
    piece g found =
        let there : find_segment m (node_after i z.old).segments ≡ Some g = still m ∙ found in
        let start : g.start ≡ m = find-start m (node_after i y.old).segments g found in
        let told : Edits (record { first = m + length pieces; bodies = piece_of (find_segment m (node_after i z.old).segments) (m + length pieces) })
        ≡ Edits batch = sym fetch_passed.reply ∙ replied in
        let one : record { first = m + length pieces; bodies = piece_of (find_segment m (node_after i z.old).segments) (m + length pieces) } ≡ batch = cc in
        let index : m + length pieces - g.start ≡ length pieces = omega arith in
        sym (ap (λ b. b.bodies) one) ∙ (ap (λ o. piece_of o (m + length pieces)) there ∙ ap (λ c. take most_edits (drop c g.bodies)) index)

  -- a fetch comes after the prepare
  pub fetch_late : (s : ℕ) (v : Writer) (i end : ℕ) (pieces : List (List ℕ)) → seen_at n (story.takeover x.a) s ≡ Some v → v.round ≡ Get i m end pieces → 1 < s
  fetch_late zero v i end pieces at is = let no : Get i m end pieces ≡ Propose = sym is ∙ (seen_first n (story.takeover x.a) v at).0 in cc
  fetch_late (suc zero) v i end pieces at is = (let one : v ≡ x.asks = some_same (sym at ∙ x.at) in let no : Get i m end pieces ≡ Ask m = sym is ∙ (ap (λ w. w.round) one ∙ x.is) in cc)
  fetch_late (suc (suc s)) v i end pieces at is = omega arith

  -- ## The pieces so far begin the told segment
  pub pieces_begin : (s : ℕ) (v : Writer) (i end : ℕ) (pieces : List (List ℕ)) → s < x.s → seen_at n (story.takeover x.a) s ≡ Some v
      → v.round ≡ Get i m end pieces → (y : AnswerAt n story past run f m x i) → (g : Segment) → find_segment m (node_after i y.old).segments ≡ Some g
      → IsPrefix pieces g.bodies
  pieces_begin zero v i end pieces lt at is y g found = let no : Get i m end pieces ≡ Propose = sym is ∙ (seen_first n (story.takeover x.a) v at).0 in cc
  pieces_begin (suc s) v i end pieces lt at is y g found = by (got_before n (story.takeover x.a) s v i m end pieces c is)
      (λ earlier before. pieces_begin s c.writer i end earlier (omega arith) c.at before y g found)
    where
      c : Comes n (story.takeover x.a) s v
      c = comes n (story.takeover x.a) s v at

      by : GotBy n (story.takeover x.a) s c.writer i m end pieces → ((earlier : List (List ℕ)) → c.writer.round ≡ Get i m end earlier → IsPrefix earlier g.bodies) → IsPrefix pieces g.bodies
      by (nothing_yet asking none) again = to (λ z. IsPrefix z g.bodies) (sym none) (g.bodies, refl)
      by (one_more earlier batch before heard more) again = to (λ z. IsPrefix z g.bodies) (sym more)
          (to (λ z. IsPrefix (earlier ++ take (end + 1 - (m + length earlier)) z) g.bodies)
          (sym (piece i y s end c.writer earlier batch c.at before heard (fetch_late s c.writer i end earlier c.at before) (omega arith) g found))
          (more_of earlier g.bodies (end + 1 - (m + length earlier)) most_edits (again earlier before)))

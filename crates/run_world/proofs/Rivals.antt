-- Requests of other takeovers, against a takeover that a writer is in: under one epoch there is one
-- owner.
use Rattle.std.proofs.Common.{◌≡◌, ℕ, zero, suc, ◌+◌, ◌<◌, ◌≤◌, inl, inr, List, [], ◌∷◌, true, refl, sym, ap, ◌∙◌, subst, arith, Option, Some, None}
use Rattle.journal_core.specs.Views.{HeadView}
use Rattle.journal_core.specs.Limits.{head_of}
use Rattle.journal_core.specs.declared.request.Request.{Request}
use Rattle.journal_core.specs.declared.reply.Reply.{Reply}
use Rattle.journal_core.specs.declared.reply.Reply.TheVariants as reply
use Rattle.journal_core.specs.declared.heard.Heard.TheVariants.{Answer as AnswerHeard}
use Rattle.writer_core.specs.declared.round.Round.{Round}
use Rattle.writer_core.specs.declared.round.Round.TheVariants as round
use Rattle.writer_core.specs.declared.phase.Phase.TheVariants as phase
use Rattle.writer_core.specs.declared.slot.Slot.{Slot}
use Rattle.writer_core.specs.declared.slot.Slot.TheVariants.{Waiting, LeftOut, Told}
use Rattle.writer_core.specs.Views.{WriterView}
use Rattle.writer_core.specs.Answers.{fits_round}
use Rattle.writer_core.specs.Whole.{TaskProgress, heard_of, writer_at, round_after}
use Rattle.writer_core.proofs.Plain.{plain_heard}
use Rattle.writer_core.proofs.Filling.{Fills, FillsOne}
use Rattle.writer_core.proofs.WholeLaws.{reaches_now}
use Rattle.run_safety.specs.Majority.{Member, IsMajority}
use Rattle.journal_history.specs.Entries.{Entry, now, node_after}
use Rattle.run_safety.specs.Run.{Follows}
use Rattle.run_safety.proofs.Majorities.{majorities_share}
use Rattle.run_safety.proofs.Slots.{none≢some, At, IsFresh, all_fresh}
use Rattle.run_safety.proofs.SeenLaws.{Propose, Writer, seen, seen_at, seen_first, seen_here, asked, asked_seen}
use Rattle.run_safety.proofs.Frames.{Sound}
use Rattle.run_safety.proofs.Table.{sound_at}
use Rattle.run_safety.proofs.SoundNodes.{promise_earlier}
use Rattle.run_safety.proofs.Sent.{Sent, one_owner, answered_of, Vote, vote_of, Votes, votes_of, one_vote, order_of, to}
use Rattle.run_safety.proofs.Served.{head_round}
use Rattle.run_safety.proofs.Tales.{Tale, IsMadeAt}
use Rattle.run_safety.proofs.Tracked.{Tracked, Stands, calling, fetching, writing}

module _ (n : ℕ) (a : Tale) (past : List Entry) (follows : Follows n a.story past) where
  -- ## A request that was made
  pub record Made (k s : ℕ) (q : Request) : Type 0 where
    pub w : Writer
    pub sent : Sent n a.story past k s w
    pub is : q ≡ asked (a.story.takeover k).epoch s w.committed w.round

  made_sent : (k s d i : ℕ) (q : Request) → IsMadeAt n a past k s d i q → Made k s q
  made_sent k s d i q m =
      let so : Sound n (a.story.takeover k) s m.underway = sound_at n (a.story.takeover k) s m.underway m.tasks_follow m.is_there in
      record {
        w = seen m.underway;
        sent = record { old = past; within = now; at = seen_here n (a.story.takeover k) s m.underway m.tasks_follow m.is_there; heard_before = m.heard_before };
        is = m.is_asked ∙ asked_seen m.underway (a.story.takeover k).epoch s so.epoch so.serial;
      }

  headed : (k s : ℕ) (q : Request) (h : HeadView) (x : Made k s q) → head_of q ≡ Some h → (h.epoch ≡ (a.story.takeover k).epoch) × (0 < s)
  headed k s q h x at = ((head_round (a.story.takeover k).epoch s x.w.committed x.w.round q h x.is at).0, positive s refl)
    where
      positive : (j : ℕ) → s ≡ j → 0 < j
      positive zero is = (let first : x.w.round ≡ Propose = (seen_first n (a.story.takeover k) x.w (to (λ j. seen_at n (a.story.takeover k) j ≡ Some x.w) is x.sent.at)).0 in
          none≢some h (ap (λ z. head_of (asked (a.story.takeover k).epoch s x.w.committed z)) (sym first) ∙ (sym (ap head_of x.is) ∙ at)))
      positive (suc j) is = omega arith

  -- ## The takeover that a writer is in
  pub record Within (c : ℕ) (v : WriterView) (t : Tracked n a past c v) (r : Round) : Type 0 where
    pub sound : Sound n (a.story.takeover t.k) (a.top t.k) (record { writer = t.writer; round = r; tasks = [] })
    pub epoch : v.epoch ≡ (a.story.takeover t.k).epoch
    pub serial : v.serial ≡ a.top t.k
    pub sent : Sent n a.story past t.k (a.top t.k) (seen (record { writer = t.writer; round = r; tasks = [] }))

  within_by : (c : ℕ) (v : WriterView) (t : Tracked n a past c v) (r : Round) → t.writer.phase ≡ phase.InRound r → v.epoch ≡ t.writer.epoch → v.serial ≡ t.writer.serial → Within c v t r
  within_by c v t r is e s =
      let u : TaskProgress = record { writer = t.writer; round = r; tasks = [] } in
      let there : writer_at n (a.story.takeover t.k) (a.top t.k) ≡ Some (record { writer = t.writer; round = r; tasks = [] }) =
      reaches_now n (a.story.takeover t.k) (a.top t.k) t.writer t.reaches ∙ ap (λ p. round_after p t.writer []) is in
      let so : Sound n (a.story.takeover t.k) (a.top t.k) (record { writer = t.writer; round = r; tasks = [] }) =
      sound_at n (a.story.takeover t.k) (a.top t.k) (record { writer = t.writer; round = r; tasks = [] }) t.follow there in
      record {
        sound = so;
        epoch = e ∙ so.epoch;
        serial = s ∙ so.serial;
        sent = record {
          old = past;
          within = now;
          at = seen_here n (a.story.takeover t.k) (a.top t.k) (record { writer = t.writer; round = r; tasks = [] }) t.follow there;
          heard_before = λ k i y lt h. t.heard k i y h;
        };
      }

  pub within : (c : ℕ) (v : WriterView) (t : Tracked n a past c v) (r : Round) → v.phase ≡ phase.InRound r → Within c v t r
  within c v t r is = by t.stands
    where
      by : Stands v t.writer ((a.story.takeover t.k).heard (a.top t.k)) → Within c v t r
      by (calling q whole e same fills) = within_by c v t r (sym (ap (λ (w : WriterView). w.phase) same) ∙ is) (ap (λ (w : WriterView). w.epoch) same) (ap (λ (w : WriterView). w.serial) same)
      by (fetching node start end bodies e same silent) = within_by c v t r (sym (ap (λ (w : WriterView). w.phase) same) ∙ is)
          (ap (λ (w : WriterView). w.epoch) same) (ap (λ (w : WriterView). w.serial) same)
      by (writing e same silent) = absurd (off (sym e ∙ is))
        where
          off : phase.Writing ≡ phase.InRound r → ⊥
          off x = cc x

  -- a request of its epoch, made in any takeover, is of this one
  pub owned : (c : ℕ) (v : WriterView) (t : Tracked n a past c v) (r : Round) (k s d i : ℕ) (q : Request) (h : HeadView) → Within c v t r
      → 0 < v.serial → IsMadeAt n a past k s d i q → head_of q ≡ Some h → h.epoch ≡ v.epoch
      → d ≡ c
  owned c v t r k s d i q h w some made at same =
      let x : Made k s q = made_sent k s d i q made in
      let g : (h.epoch ≡ (a.story.takeover k).epoch) × (0 < s) = headed k s q h x at in
      let one : k ≡ t.k = one_owner n a.story past k t.k s (a.top t.k) x.w (seen (record { writer = t.writer; round = r; tasks = [] })) follows x.sent
      w.sent g.1 (let e : v.serial ≡ a.top t.k = w.serial in omega (arith, e, some)) (sym g.0 ∙ same ∙ w.epoch) in
      sym made.by ∙ ap (λ (j : ℕ). (a.story.takeover j).caller) one ∙ t.by

  -- ## While it proposes its epoch
  -- what a part that has an answer says of the table
  answer_of : (o : Option Reply) (x : Reply) → plain_heard (heard_of o) ≡ AnswerHeard x → o ≡ Some x
  answer_of None x e = absurd (cc e)
  answer_of (Some (reply.Refused f)) x e = absurd (cc e)
  answer_of (Some reply.Ok) x e = let same : reply.Ok ≡ x = cc e in ap (λ z. Some z) same
  answer_of (Some (reply.State p)) x e = let same : reply.State p ≡ x = cc e in ap (λ z. Some z) same
  answer_of (Some (reply.NewEpoch p)) x e = let same : reply.NewEpoch p ≡ x = cc e in ap (λ z. Some z) same
  answer_of (Some (reply.Prepared w k g)) x e = let same : reply.Prepared w k g ≡ x = cc e in ap (λ z. Some z) same
  answer_of (Some (reply.Edits b)) x e = let same : reply.Edits b ≡ x = cc e in ap (λ z. Some z) same
  answer_of (Some (reply.Segments l)) x e = let same : reply.Segments l ≡ x = cc e in ap (λ z. Some z) same

  one_told : (x y : Slot) (o : Option Reply) (z : Reply) → x ≡ Told (AnswerHeard z) → plain_heard (AnswerHeard z) ≡ AnswerHeard z → FillsOne x o y → IsFresh (y ∷ []) → o ≡ Some z
  one_told Waiting y o z e p f g = absurd (cc e)
  one_told LeftOut y o z e p f g = absurd (cc e)
  one_told (Told h) Waiting o z e p f g =
      let same : h ≡ AnswerHeard z = cc e in
      let is : plain_heard (heard_of o) ≡ plain_heard h = cc f in
      answer_of o z (is ∙ ap plain_heard same ∙ p)
  one_told (Told h) LeftOut o z e p f g = absurd (cc f)
  one_told (Told h) (Told k) o z e p f g = absurd g

  fresh_head : (y : Slot) (ys : List Slot) → IsFresh (y ∷ ys) → IsFresh (y ∷ []) × IsFresh ys
  fresh_head Waiting ys f = (tt, f)
  fresh_head LeftOut ys f = (tt, f)
  fresh_head (Told h) ys f = absurd f

  fills_told : (first : ℕ) (heard : ℕ → Option Reply) (xs ys : List Slot) (j : ℕ) (z : Reply) → Fills first heard xs ys → IsFresh ys
      → At first xs j (Told (AnswerHeard z)) → plain_heard (AnswerHeard z) ≡ AnswerHeard z → heard j ≡ Some z
  fills_told first heard [] ys j z f g at p = absurd at
  fills_told first heard (x ∷ xs) [] j z f g at p = absurd f
  fills_told first heard (x ∷ xs) (y ∷ ys) j z f g (inl at) p = ap heard (sym at.0) ∙ one_told x y (heard first) z at.1 p f.0 (fresh_head y ys g).0
  fills_told first heard (x ∷ xs) (y ∷ ys) j z f g (inr at) p = fills_told (first + 1) heard xs ys j z f.1 (fresh_head y ys g).1 at p

  -- a vote for it
  pub voted : (c : ℕ) (v : WriterView) (t : Tracked n a past c v) (j : ℕ) (o : Option ℕ) → v.phase ≡ phase.InRound round.Propose
      → At 1 v.slots j (Told (AnswerHeard (reply.NewEpoch o))) → fits_round round.Propose (reply.NewEpoch o) ≡ true → Vote n a.story past t.k j
  voted c v t j o is at kind = by t.stands
    where
      w : Within c v t round.Propose
      w = within c v t round.Propose is

      zero_top : a.top t.k ≡ 0
      zero_top = w.sound.stands.1

      from : (a.story.takeover t.k).heard (a.top t.k) j ≡ Some (reply.NewEpoch o) → Vote n a.story past t.k j
      from h =
          let at_zero : (a.story.takeover t.k).heard 0 j ≡ Some (reply.NewEpoch o) = ap (λ (s : ℕ). (a.story.takeover t.k).heard s j) (sym zero_top) ∙ h in
          let x : Writer = seen (record { writer = t.writer; round = round.Propose; tasks = [] }) in
          let seen_it : seen_at n (a.story.takeover t.k) 0 ≡ Some (seen (record { writer = t.writer; round = round.Propose; tasks = [] })) =
          subst (λ (s : ℕ). seen_at n (a.story.takeover t.k) s ≡ Some (seen (record { writer = t.writer; round = round.Propose; tasks = [] })))
          zero_top w.sent.at in
          vote_of n a.story past t.k j (seen (record { writer = t.writer; round = round.Propose; tasks = [] })) (reply.NewEpoch o) refl
          (answered_of n a.story past t.k 0 (seen (record { writer = t.writer; round = round.Propose; tasks = [] })) j (reply.NewEpoch o) follows
          seen_it kind (t.heard 0 j (reply.NewEpoch o) at_zero)) at_zero

      by : Stands v t.writer ((a.story.takeover t.k).heard (a.top t.k)) → Vote n a.story past t.k j
      by (calling q whole e same fills) = from (fills_told 1 ((a.story.takeover t.k).heard (a.top t.k)) v.slots t.writer.slots j (reply.NewEpoch o)
          fills (all_fresh t.writer.slots w.sound.stands.0) at refl)
      by (fetching node start end bodies e same silent) = absurd (off (sym e ∙ is))
        where
          off : phase.InRound (round.Fetch node start end bodies) ≡ phase.InRound round.Propose → ⊥
          off x = cc x
      by (writing e same silent) = absurd (off (sym e ∙ is))
        where
          off : phase.Writing ≡ phase.InRound round.Propose → ⊥
          off x = cc x

  -- A request under the epoch that it proposes, by another takeover: some node of each majority
  -- promised that one.
  pub record Rival (c : ℕ) (v : WriterView) (t : Tracked n a past c v) (nodes : List ℕ) : Type 0 where
    pub node : ℕ
    pub member : Member node nodes
    pub promised : v.epoch ≤ (node_after node past).promised
    pub no_vote : Vote n a.story past t.k node → ⊥

  pub rival : (c : ℕ) (v : WriterView) (t : Tracked n a past c v) (nodes : List ℕ) (k s d i : ℕ) (q : Request) (h : HeadView)
      → v.phase ≡ phase.InRound round.Propose → IsMajority n nodes → IsMadeAt n a past k s d i q
      → head_of q ≡ Some h → h.epoch ≡ v.epoch → Rival c v t nodes
  unfolding made_sent
  rival c v t nodes k s d i q h is majority made at same =
      let w : Within c v t round.Propose = within c v t round.Propose is in
      let x : Made k s q = made_sent k s d i q made in
      let g : (h.epoch ≡ (a.story.takeover k).epoch) × (0 < s) = headed k s q h x at in
      let votes : Votes n a.story past k = votes_of n a.story past k s x.w follows x.sent g.1 in
      let share = majorities_share n nodes votes.nodes majority votes.majority in
      let vote : Vote n a.story past k share.0 = votes.each share.0 share.2 in
      let up : (node_after share.0 (vote.entry ∷ vote.old)).promised ≤ (node_after share.0 past).promised = promise_earlier share.0 vote.within in
      let epochs : (a.story.takeover k).epoch ≡ (a.story.takeover t.k).epoch = sym g.0 ∙ same ∙ w.epoch in
      let zero_top : a.top t.k ≡ 0 = w.sound.stands.1 in
      record {
        node = share.0;
        member = share.1;
        promised = (let e : v.epoch ≡ (a.story.takeover t.k).epoch = w.epoch in omega (arith, up, vote.after, epochs, e));
        no_vote = λ mine.
            let one : k ≡ t.k = one_vote n a.story past k t.k share.0 epochs vote mine (order_of vote.within mine.within) in
            let low : s ≤ a.top t.k = subst (λ (j : ℕ). s ≤ a.top j) one made.within in
            omega (arith, low, zero_top, g.1);
      }

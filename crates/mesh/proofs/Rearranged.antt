-- Fair entries that are put in another order stay fair, where the entries of one caller under one
-- epoch keep their order, but for its proposals, which may stand by number of their node.
use Rattle.std.proofs.Common.{◌≡◌, ℕ, zero, suc, ◌<◌, ◌≤◌, ◌==◌, ◌⊎◌, inl, inr, List, [], ◌∷◌, Bool, true, false, cond, length, refl, sym, ap, ◌∙◌, subst, arith, Some}
use Rattle.std.specs.List.{list_all}
use Rattle.journal_core.specs.declared.request.Request.{Request}
use Rattle.journal_core.specs.declared.reply.Reply.{Reply}
use Rattle.writer_core.specs.Whole.{Takeover, writer_at}
use Rattle.journal_history.specs.Entries.{Way, Heard, Muted, Late, Move, Answer, Stop, Kill, Restart, Entry}
use Rattle.run_safety.specs.Run.{Story, takeover_at, WasHeard, may_follow, IsMade, IsInTurn, IsInOrder, IsHeardAs, IsCall}
use Rattle.journal_history.specs.Moving.{epoch_of, is_proposal, falls}
use Rattle.run_safety.proofs.SeenLaws.{Round, Propose, Ask, Get, Recover, Finalizing, Open, Write, Clean, Other, seen, asked}
use Rattle.run_safety.proofs.Sent.{made_at, made_asks}
use Rattle.run_safety.proofs.Before.{proposal_first}
use Rattle.mesh.proofs.Lists.{same_test, other_test}
use Rattle.mesh.proofs.Shared.{In}
use Rattle.run_safety.proofs.Fair.{IsFair, IsFairEntry, Fairs}
use Rattle.mesh.proofs.Signs.{Sign, entries}
use Rattle.mesh.proofs.SignLists.{Older, here, there, older_trans, older_in, in_older, in_earlier, older_tail, older_length, older_entries, SignOf}
use Rattle.mesh.proofs.SignLists.{sign_of, apart, IsUnder, Falling, all_under_in, falling_at, rank, rank_at, requests, caller_of, Signed}

-- ## The call of an entry that did more than fall
pub record FairCall (n : ℕ) (story : Story) (past : List Entry) (node : ℕ) (move : Move) : Type 0 where
  pub caller : ℕ
  pub request : Request
  pub asks : requests move ≡ Some request
  pub by : caller_of move ≡ Some caller
  pub call : IsCall n story past caller node request move

pub fair_call : (n : ℕ) (story : Story) (past : List Entry) (node : ℕ) (move : Move) → falls move ≡ false → IsFair n story past node move → FairCall n story past node move
fair_call n story past node (Answer caller way request reply) off f = record { caller = caller; request = request; asks = refl; by = refl; call = f.0 }
fair_call n story past node (Stop caller late request zero) off f = absurd (cc off)
fair_call n story past node (Stop caller late request (suc keep)) off f = record { caller = caller; request = request; asks = refl; by = refl; call = f (omega arith) }
fair_call n story past node Kill off f = absurd (cc off)
fair_call n story past node Restart off f = absurd (cc off)

pub fairs_at : (n : ℕ) (story : Story) (t : Sign) (old past : List Sign) → Fairs n story (entries past) → Older (t ∷ old) past → IsFairEntry n story (entries old) t.entry
fairs_at n story t old past f here = f.0
fairs_at n story t old (x ∷ past) f (there p) = fairs_at n story t old past f.1 p

-- its epoch is the takeover's
asked_epoch : (e s c : ℕ) (w : Round) (x : ℕ) → epoch_of (asked e s c w) ≡ Some x → x ≡ e
unfolding epoch_of
asked_epoch e s c Propose x h = cc h
asked_epoch e s c (Ask m) x h = cc h
asked_epoch e s c (Get node m end bodies) x h = cc h
asked_epoch e s c (Recover b) x h = cc h
asked_epoch e s c (Finalizing m l) x h = cc h
asked_epoch e s c (Open m) x h = cc h
asked_epoch e s c (Write m b) x h = cc h
asked_epoch e s c (Clean l) x h = cc h
asked_epoch e s c Other x h = absurd (cc h)

asked_proposal : (e s c : ℕ) (w : Round) → is_proposal (asked e s c w) ≡ true → w ≡ Propose
asked_proposal e s c Propose h = refl
asked_proposal e s c (Ask m) h = absurd (cc h)
asked_proposal e s c (Get node m end bodies) h = absurd (cc h)
asked_proposal e s c (Recover b) h = absurd (cc h)
asked_proposal e s c (Finalizing m l) h = absurd (cc h)
asked_proposal e s c (Open m) h = absurd (cc h)
asked_proposal e s c (Write m b) h = absurd (cc h)
asked_proposal e s c (Clean l) h = absurd (cc h)
asked_proposal e s c Other h = absurd (cc h)

made_epoch : (n : ℕ) (story : Story) (past : List Entry) (caller node : ℕ) (r : Request) (e : ℕ) → IsMade n story past caller node r → epoch_of r ≡ Some e → e ≡ (takeover_at story past).epoch
made_epoch n story past caller node r e m h =
    asked_epoch (takeover_at story past).epoch (story.round (length past)) (seen m.underway).committed (seen m.underway).round e
    (ap epoch_of (sym (made_asks n story past caller node r m)) ∙ h)

made_first : (n : ℕ) (story : Story) (past : List Entry) (caller node : ℕ) (r : Request) → IsMade n story past caller node r → is_proposal r ≡ true → story.round (length past) ≡ 0
made_first n story past caller node r m h =
    proposal_first n (takeover_at story past) (story.round (length past)) (seen m.underway) (made_at n story past caller node r m)
    (asked_proposal (takeover_at story past).epoch (story.round (length past)) (seen m.underway).committed (seen m.underway).round (ap is_proposal (sym (made_asks n story past caller node r m)) ∙ h))

turn_off : (m : Move) → IsInTurn m → falls m ≡ false
turn_off (Answer caller way request reply) t = refl
turn_off (Stop caller late request zero) t = absurd (omega (arith, t.1))
turn_off (Stop caller late request (suc keep)) t = refl
turn_off Kill t = absurd t
turn_off Restart t = absurd t

-- ## The order that is wanted
pub record Rivals (s t : Sign) : Type 0 where
  pub first : Signed s
  pub second : Signed t
  pub caller : s.caller ≡ t.caller
  pub epoch : first.epoch ≡ second.epoch

abbrev pub Stand : (s t : Sign) → Rivals s t → Type 0
Stand s t r = (s.place < t.place) ⊎ ((is_proposal r.first.request ≡ true) × (is_proposal r.second.request ≡ true) × (s.entry.node < t.entry.node))

abbrev pub Keeps : List Sign → Type 0
Keeps ss = (s t : Sign) (old : List Sign) → Older (t ∷ old) ss → In s old → (r : Rivals s t) → Stand s t r

-- ## The marks of a list: for each place, that of the same sign in the other list
mark_at : List Sign → List Sign → ℕ → ℕ
mark_at first [] k = 0
mark_at first (s ∷ old) k = cond (k == length (entries old)) (rank s.caller s.place first) (mark_at first old k)

mark_here : (first : List Sign) (t : Sign) (old ss : List Sign) → Older (t ∷ old) ss → mark_at first ss (length (entries old)) ≡ rank t.caller t.place first
unfolding mark_at
mark_here first t old ss here = rw (same_test (length (entries old)) (length (entries old)) refl) refl
mark_here first t old (x ∷ ss) (there p) =
    let lt : length (entries (t ∷ old)) ≤ length (entries ss) = older_length p in
    rw (other_test (length (entries old)) (length (entries ss)) (λ e. omega (arith, e, lt))) (mark_here first t old ss p)

pub rearranged : Story → List Sign → List Sign → Story
rearranged story first ss = record { takeover = story.takeover; whose = λ k. story.whose (mark_at first ss k); round = λ k. story.round (mark_at first ss k) }

module _ (n : ℕ) (story : Story) (first ss : List Sign) (fairs : Fairs n story (entries first)) (falling : Falling first) (signed : (s : Sign) → In s first → Signed s)
    (out : (s : Sign) → In s ss → falls s.entry.move ≡ false → In s first) (into : (s : Sign) → In s first → In s ss) (keeps : Keeps ss)
  where
    abbrev new : Story
    new = rearranged story first ss

    -- a sign in both lists
    record Both (t : Sign) (old : List Sign) : Type 0 where
      is_in : In t first
      rest : List Sign
      place : Older (t ∷ rest) first
      mark : mark_at first ss (length (entries old)) ≡ length (entries rest)
      call : FairCall n story (entries rest) t.entry.node t.entry.move
      sign : Signed t
      request : call.request ≡ sign.request
      caller : call.caller ≡ t.caller

    both : (t : Sign) (old : List Sign) → Older (t ∷ old) ss → falls t.entry.move ≡ false → Both t old
    both t old p off =
        let i : In t first = out t (older_in p) off in
        let w : (rest : List Sign) × Older (t ∷ rest) first = in_older first t i in
        let call : FairCall n story (entries w.0) t.entry.node t.entry.move = fair_call n story (entries w.0) t.entry.node t.entry.move off (fairs_at n story t w.0 first fairs w.1) in
        let sign : Signed t = signed t i in
        record {
          is_in = i;
          rest = w.0;
          place = w.1;
          mark = mark_here first t old ss p ∙ rank_at t w.0 first falling w.1;
          call = call;
          sign = sign;
          request = same (sym call.asks ∙ sign.asks);
          caller = same_number (sym call.by ∙ sign.by);
        }
      where
        same : {x y : Request} → Some x ≡ Some y → x ≡ y
        same f = cc

        same_number : {x y : ℕ} → Some x ≡ Some y → x ≡ y
        same_number f = cc

    whose_is : (t : Sign) (old : List Sign) (b : Both t old) → new.whose (length (entries old)) ≡ story.whose (length (entries b.rest))
    unfolding rearranged
    whose_is t old b = ap story.whose b.mark

    round_is : (t : Sign) (old : List Sign) (b : Both t old) → new.round (length (entries old)) ≡ story.round (length (entries b.rest))
    unfolding rearranged
    round_is t old b = ap story.round b.mark

    takeover_is : (t : Sign) (old : List Sign) (b : Both t old) → takeover_at new (entries old) ≡ takeover_at story (entries b.rest)
    unfolding rearranged
    takeover_is t old b = ap story.takeover (ap story.whose b.mark)

    -- two signs of one takeover are of one caller and epoch
    abbrev rivals : (s t : Sign) (olds oldt : List Sign) (x : Both s olds) (y : Both t oldt) → story.whose (length (entries x.rest)) ≡ story.whose (length (entries y.rest)) → Rivals s t
    rivals s t olds oldt x y same =
        let k : takeover_at story (entries x.rest) ≡ takeover_at story (entries y.rest) = ap story.takeover same in
        record {
          first = x.sign;
          second = y.sign;
          caller = sym x.caller ∙ sym x.call.call.made.by ∙ ap (λ (z : Takeover). z.caller) k ∙ y.call.call.made.by ∙ y.caller;
          epoch = made_epoch n story (entries x.rest) x.call.caller s.entry.node x.call.request x.sign.epoch x.call.call.made (ap epoch_of x.request ∙ x.sign.of)
              ∙ ap (λ (z : Takeover). z.epoch) k
              ∙ sym (made_epoch n story (entries y.rest) y.call.caller t.entry.node y.call.request y.sign.epoch y.call.call.made (ap epoch_of y.request ∙ y.sign.of));
        }

    first_round : (t : Sign) (old : List Sign) (b : Both t old) → is_proposal b.sign.request ≡ true → story.round (length (entries b.rest)) ≡ 0
    first_round t old b p = made_first n story (entries b.rest) b.call.caller t.entry.node b.call.request b.call.call.made (ap is_proposal b.request ∙ p)

    -- ## What was heard before
    heard_moves : (t : Sign) (old : List Sign) → Older (t ∷ old) ss → (b : Both t old) → (s i : ℕ) (reply : Reply) → s < story.round (length (entries b.rest))
        → WasHeard story (entries b.rest) (story.whose (length (entries b.rest))) s i reply → WasHeard new (entries old) (story.whose (length (entries b.rest))) s i reply
    heard_moves t old p b s i reply lt h = by (apart u t old ss (into u in_first) p)
      where
        so : SignOf b.rest h.0 h.1
        so = sign_of b.rest h.0 h.1 h.2

        u : Sign
        u = so.sign

        in_first : In u first
        in_first = in_earlier u (older_in so.place) (older_tail b.place)

        off : falls u.entry.move ≡ false
        off = (signed u in_first).off

        place_first : Older (u ∷ so.rest) first
        place_first = older_trans so.place (older_tail b.place)

        -- the sign's place in the new list
        at : (olds : List Sign) → Older (u ∷ olds) ss → (x : Both u olds) × (length (entries x.rest) ≡ length h.0)
        at olds q = (both u olds q off, sym (rank_at u (both u olds q off).rest first falling (both u olds q off).place) ∙ rank_at u so.rest first falling place_first ∙ ap length so.olds)

        whose_at : (olds : List Sign) (q : Older (u ∷ olds) ss) → story.whose (length (entries (at olds q).0.rest)) ≡ story.whose (length (entries b.rest))
        whose_at olds q = ap story.whose (at olds q).1 ∙ h.3.0

        rival : (olds : List Sign) (q : Older (u ∷ olds) ss) → Rivals u t
        rival olds q = rivals u t olds old (at olds q).0 b (whose_at olds q)

        lower : u.caller ≡ t.caller → u.place < t.place
        lower e = below (all_under_in t.caller t.place b.rest u (falling_at falling b.place) (older_in so.place))
          where
            below : IsUnder t.caller t.place u → u.place < t.place
            below (inl l) = absurd (omega (arith, e, l))
            below (inr l) = l.1

        by : (In u old ⊎ (u ≡ t)) ⊎ ((rest : List Sign) × Older (u ∷ rest) ss × In t rest) → WasHeard new (entries old) (story.whose (length (entries b.rest))) s i reply
        by (inl (inl j)) =
            let w : (olds : List Sign) × Older (u ∷ olds) old = in_older old u j in
            let q : Older (u ∷ w.0) ss = older_trans w.1 (older_tail p) in
            let x = at w.0 q in (
              entries w.0,
              u.entry,
              older_entries w.1,
              (
                whose_is u w.0 x.0 ∙ whose_at w.0 q,
                round_is u w.0 x.0 ∙ ap story.round x.1 ∙ h.3.1,
                ap (λ (e : Entry). e.node) so.entry ∙ h.3.2,
                (h.3.3.0, h.3.3.1, ap (λ (e : Entry). e.move) so.entry ∙ h.3.3.2),
              ),
            )
        by (inl (inr e)) =
            let less : u.place < t.place = lower (ap (λ (z : Sign). z.caller) e) in
            let same : u.place ≡ t.place = ap (λ (z : Sign). z.place) e in
            absurd (omega (arith, less, same))
        by (inr w) = after (keeps t u w.0 w.1 w.2 back)
          where
            back : Rivals t u
            back = rivals t u old w.0 b (at w.0 w.1).0 (sym (whose_at w.0 w.1))

            after : Stand t u back → WasHeard new (entries old) (story.whose (length (entries b.rest))) s i reply
            after (inl l) = let less : u.place < t.place = lower (sym back.caller) in absurd (omega (arith, l, less))
            after (inr g) = let zero_round : story.round (length (entries b.rest)) ≡ 0 = first_round t old b g.0 in absurd (omega (arith, zero_round, lt))

    made_moves : (t : Sign) (old : List Sign) → Older (t ∷ old) ss → (b : Both t old) → (caller : ℕ) (r : Request)
        → IsMade n story (entries b.rest) caller t.entry.node r → IsMade n new (entries old) caller t.entry.node r
    made_moves t old p b caller r m =
        let same : takeover_at new (entries old) ≡ takeover_at story (entries b.rest) = takeover_is t old b in
        let round : new.round (length (entries old)) ≡ story.round (length (entries b.rest)) = round_is t old b in
        record {
          by = ap (λ (z : Takeover). z.caller) same ∙ m.by;
          tasks_follow = ap (λ (z : Takeover). list_all may_follow z.tasks) same ∙ m.tasks_follow;
          underway = m.underway;
          is_there = ap (λ (z : Takeover). writer_at n z (new.round (length (entries old)))) same ∙ ap (writer_at n (takeover_at story (entries b.rest))) round ∙ m.is_there;
          calls_it = m.calls_it;
          is_asked = m.is_asked;
          heard_before = λ s i reply lt e.
              let low : s < story.round (length (entries b.rest)) = omega (arith, lt, round) in
              subst (λ (k : ℕ). WasHeard new (entries old) k s i reply) (sym (whose_is t old b))
              (heard_moves t old p b s i reply low (m.heard_before s i reply low (ap (λ (z : Takeover). z.heard s i) (sym same) ∙ e)));
        }

    order_moves : (t : Sign) (old : List Sign) → Older (t ∷ old) ss → (b : Both t old) → IsInOrder story (entries b.rest) t.entry.node → IsInOrder new (entries old) t.entry.node
    order_moves t old p b order older e q same turn = by (keeps u t old p (older_in so.place) rival)
      where
        so : SignOf old older e
        so = sign_of old older e q

        u : Sign
        u = so.sign

        turn_u : IsInTurn u.entry.move
        turn_u = subst (λ (z : Entry). IsInTurn z.move) (sym so.entry) turn

        pu : Older (u ∷ so.rest) ss
        pu = older_trans so.place (older_tail p)

        x : Both u so.rest
        x = both u so.rest pu (turn_off u.entry.move turn_u)

        whose_same : story.whose (length (entries x.rest)) ≡ story.whose (length (entries b.rest))
        whose_same = sym (whose_is u so.rest x) ∙ ap (λ (l : List Entry). new.whose (length l)) so.olds ∙ same ∙ whose_is t old b

        rival : Rivals u t
        rival = rivals u t so.rest old x b whose_same

        round_u : new.round (length older) ≡ story.round (length (entries x.rest))
        round_u = ap (λ (l : List Entry). new.round (length l)) (sym so.olds) ∙ round_is u so.rest x

        round_t : new.round (length (entries old)) ≡ story.round (length (entries b.rest))
        round_t = round_is t old b

        node_u : u.entry.node ≡ e.node
        node_u = ap (λ (z : Entry). z.node) so.entry

        by : Stand u t rival → (new.round (length older) < new.round (length (entries old))) ⊎ ((new.round (length older) ≡ new.round (length (entries old))) × (e.node < t.entry.node))
        by (inr g) = inr (round_u ∙ first_round u so.rest x g.0 ∙ sym (round_t ∙ first_round t old b g.1), omega (arith, g.2, node_u))
        by (inl l) = stand (apart u t b.rest first x.is_in b.place)
          where
            stand : (In u b.rest ⊎ (u ≡ t)) ⊎ ((rest : List Sign) × Older (u ∷ rest) first × In t rest)
                → (new.round (length older) < new.round (length (entries old))) ⊎ ((new.round (length older) ≡ new.round (length (entries old))) × (e.node < t.entry.node))
            stand (inl (inr f)) = let same_place : u.place ≡ t.place = ap (λ (z : Sign). z.place) f in absurd (omega (arith, same_place, l))
            stand (inr w) = no (all_under_in u.caller u.place w.0 t (falling_at falling w.1) w.2)
              where
                no : IsUnder u.caller u.place t → (new.round (length older) < new.round (length (entries old)))
                    ⊎ ((new.round (length older) ≡ new.round (length (entries old))) × (e.node < t.entry.node))
                no (inl g) = let one : u.caller ≡ t.caller = rival.caller in absurd (omega (arith, one, g))
                no (inr g) = absurd (omega (arith, l, g.1))
            stand (inl (inl i)) =
                let w : (o : List Sign) × Older (u ∷ o) b.rest = in_older b.rest u i in
                let mark : length (entries w.0) ≡ length (entries x.rest) = sym (rank_at u w.0 first falling (older_trans w.1 (older_tail b.place))) ∙ rank_at u x.rest first falling x.place in
                let mark_round : story.round (length (entries w.0)) ≡ story.round (length (entries x.rest)) = ap story.round mark in
                at mark_round (order (entries w.0) u.entry (older_entries w.1) (ap story.whose mark ∙ whose_same) turn_u)
              where
                at : {y : ℕ} → story.round y ≡ story.round (length (entries x.rest))
                    → (story.round y < story.round (length (entries b.rest)))
                    ⊎ ((story.round y ≡ story.round (length (entries b.rest))) × (u.entry.node < t.entry.node))
                    → (new.round (length older) < new.round (length (entries old))) ⊎ ((new.round (length older) ≡ new.round (length (entries old))) × (e.node < t.entry.node))
                at f (inl g) = inl (omega (arith, f, g, round_u, round_t))
                at f (inr g) = inr (round_u ∙ sym f ∙ g.0 ∙ sym round_t, omega (arith, g.1, node_u))

    call_moves : (t : Sign) (old : List Sign) → Older (t ∷ old) ss → (b : Both t old) → (caller : ℕ) (r : Request) (move : Move)
        → IsCall n story (entries b.rest) caller t.entry.node r move → IsCall n new (entries old) caller t.entry.node r move
    call_moves t old p b caller r move c = record { made = made_moves t old p b caller r c.made; in_order = λ turn. order_moves t old p b (c.in_order turn) }

    heard_as_moves : (t : Sign) (old : List Sign) (b : Both t old) (node : ℕ) (reply : Reply) (way : Way) → IsHeardAs story (entries b.rest) node reply way → IsHeardAs new (entries old) node reply way
    heard_as_moves t old b node reply Heard h =
        ap (λ (z : Takeover). z.heard (new.round (length (entries old))) node) (takeover_is t old b) ∙ ap (λ (s : ℕ). (takeover_at story (entries b.rest)).heard s node) (round_is t old b) ∙ h
    heard_as_moves t old b node reply Muted h = tt
    heard_as_moves t old b node reply Late h = tt

    fair_moves : (t : Sign) (old : List Sign) → Older (t ∷ old) ss → (b : Both t old) → (move : Move) → IsFair n story (entries b.rest) t.entry.node move → IsFair n new (entries old) t.entry.node move
    fair_moves t old p b (Answer caller way r reply) f = (call_moves t old p b caller r (Answer caller way r reply) f.0, heard_as_moves t old b t.entry.node reply way f.1)
    fair_moves t old p b (Stop caller late r keep) f = λ some. call_moves t old p b caller r (Stop caller late r keep) (f some)
    fair_moves t old p b Kill f = tt
    fair_moves t old p b Restart f = tt

    -- what falls is fair
    fall_fair : (m : Move) (past : List Entry) (node : ℕ) → falls m ≡ true → IsFair n new past node m
    fall_fair (Answer caller way request reply) past node e = absurd (cc e)
    fall_fair (Stop caller late request zero) past node e = λ some. absurd (omega (arith, some))
    fall_fair (Stop caller late request (suc keep)) past node e = absurd (cc e)
    fall_fair Kill past node e = tt
    fall_fair Restart past node e = tt

    fair_at : (t : Sign) (old : List Sign) → Older (t ∷ old) ss → IsFairEntry n new (entries old) t.entry
    fair_at t old p = by (falls t.entry.move) refl
      where
        by : (f : Bool) → falls t.entry.move ≡ f → IsFairEntry n new (entries old) t.entry
        by true e = fall_fair t.entry.move (entries old) t.entry.node e
        by false e =
            let b : Both t old = both t old p e in
            fair_moves t old p b t.entry.move (fairs_at n story t b.rest first fairs b.place)

    all_fair : (old : List Sign) → Older old ss → Fairs n new (entries old)
    all_fair [] p = tt
    all_fair (t ∷ old) p = (fair_at t old p, all_fair old (older_tail p))

    pub fairs_rearranged : Fairs n new (entries ss)
    fairs_rearranged = all_fair ss here

-- A takeover that a majority of nodes serves fetches a piece.
use Rattle.std.proofs.Common.{◌≡◌, ◌≢◌, ℕ, zero, suc, ◌+◌, ◌-◌, ◌<◌, ◌≤◌, ◌==◌, ◌&&◌, ◌⊎◌, inl, inr, min, List, [], ◌∷◌, ◌++◌, Bool, true, false}
use Rattle.std.proofs.Common.{length, take, drop, length-append, length-take, length-drop, refl, sym, ap, ◌∙◌, subst, arith, Option, Some, None}
use Rattle.std.proofs.lemmas.Bool.{cases_eq, eq-eqb, cond-true, cond-false, and_from}
use Rattle.std.proofs.lemmas.Bool.Decides.{nat_tests}
use Rattle.journal_core.specs.Views.{HeadView, BatchView}
use Rattle.journal_core.specs.Limits.{max_number}
use Rattle.journal_core.specs.Reads.{told_of, piece_of, most_edits}
use Rattle.journal_core.specs.Segments.{find_segment, has_edit, any_body, end_of, info_of}
use Rattle.journal_core.specs.Step.{node_step}
use Rattle.journal_core.specs.declared.segment.Segment.{Segment}
use Rattle.journal_core.specs.declared.segment_info.SegmentInfo.{SegmentInfo}
use Rattle.journal_core.specs.declared.node_state.NodeState.{NodeState}
use Rattle.journal_core.specs.declared.request.Request.{Request}
use Rattle.journal_core.specs.declared.request.Request.TheVariants.{Fetch}
use Rattle.journal_core.specs.declared.reply.Reply.{Reply}
use Rattle.journal_core.specs.declared.reply.Reply.TheVariants as reply
use Rattle.journal_core.specs.declared.heard.Heard.{Heard}
use Rattle.journal_core.specs.declared.heard.Heard.TheVariants.{Answer, Silent}
use Rattle.writer_core.specs.declared.round.Round.TheVariants as round
use Rattle.writer_core.specs.declared.phase.Aim.TheVariants as aim
use Rattle.writer_core.specs.declared.slot.Slot.TheVariants.{Waiting, Told}
use Rattle.writer_core.specs.Views.{WriterView}
use Rattle.writer_core.specs.Answers.{fits, fits_edits, fits_prepare}
use Rattle.writer_core.specs.Best.{Best}
use Rattle.writer_core.specs.Rounds.{head_now, numbers_fit, next_serial, without_answer_of, failure_of, after_edits, after_no_edits, after_fetch}
use Rattle.run_safety.specs.Majority.{Member, IsMajority}
use Rattle.run_safety.specs.Actings.{CallMade}
use Rattle.run_safety.proofs.Majorities.{Member_or}
use Rattle.journal_core.proofs.SegmentLists.{find-start}
use Rattle.run_safety.proofs.Slots.{none≢some, some_same, true≢false, At, best_told, TellsSegment}
use Rattle.run_safety.proofs.Answers.{segment_slot}
use Rattle.run_world.proofs.Enough.{At-one, At-other}
use Rattle.run_world.proofs.Ranges.{EndSmall}
use Rattle.run_world.proofs.Heeding.{Fresh, UpTo, not_heeded, heeded_fits, HasFetched, fetched as fetches}
use Rattle.run_world.proofs.Duties.{Off, AreOld, Tells, After, Part, waits, told}
use Rattle.run_world.proofs.Serves.{Sane, old_other}
use Rattle.run_world.proofs.Passing.{AreIn, Fetching, Way, Telling, Agreed, pieces, lost}
use Rattle.run_world.proofs.OwnRounds.{Call}

-- ## A piece of what is there
piece_some : (bodies : List (List ℕ)) (k : ℕ) → k < length bodies → any_body (take most_edits (drop k bodies)) ≡ true
piece_some [] k l = absurd (omega (arith, l))
piece_some (b ∷ bodies) zero l = refl
piece_some (b ∷ bodies) (suc k) l = piece_some bodies k (omega (arith, l))

fits_le : (k : ℕ) → k ≤ max_number → fits k ≡ true
fits_le k l = grind (arith, nat_tests, l)

piece_fits : (g : Segment) (from : ℕ) → g.start ≤ from → from ≤ end_of g → has_edit g ≡ true → end_of g ≤ max_number → fits_edits from (record { first = from; bodies = piece_of (Some g) from }) ≡ true
piece_fits g from low high edit end =
    let len : 1 ≤ length g.bodies = some g.bodies edit in
    let rest : length (drop (from - g.start) g.bodies) ≡ length g.bodies - (from - g.start) = length-drop (from - g.start) g.bodies in
    let got : length (take most_edits (drop (from - g.start) g.bodies)) ≡ min most_edits (length (drop (from - g.start) g.bodies)) = length-take most_edits (drop (from - g.start) g.bodies) in
    and_from (from == from) _ (eq-eqb from from refl)
    (and_from (any_body (take most_edits (drop (from - g.start) g.bodies))) _ (piece_some g.bodies (from - g.start) (omega (arith, low, high, len)))
    (fits_le (from + length (take most_edits (drop (from - g.start) g.bodies)) - 1) (omega (arith, got, rest, end, low, high, len))))
  where
    some : (bodies : List (List ℕ)) → any_body bodies ≡ true → 1 ≤ length bodies
    some [] e = true≢false (sym e)
    some (b ∷ bodies) e = omega arith

module _ (n : ℕ) (nodes : List ℕ) (majority : IsMajority n nodes) (before after : ℕ → NodeState) (calls : List CallMade) (v : WriterView) (j : ℕ) (d : Heard) (m end : ℕ) (bodies : List (List ℕ)) where
  abbrev Its : Request
  Its = Fetch (head_now v) m (m + length bodies)

  abbrev Now : List CallMade
  Now = calls ++ record { node = j; request = Fetch (head_now v) m (m + length bodies) } ∷ []

  abbrev BestThere : SegmentInfo → Best
  BestThere info = record { node = j; info = info }

  -- what a node has told still counts
  telling : (u : WriterView) (i : ℕ) → u.epoch ≡ v.epoch → v.serial ≤ u.serial → (x : Reply) → At 1 u.slots i (Told (Answer x))
      → fits_prepare m x ≡ true → (i ≢ j) → Off v.epoch (before i) ⊎ After (round.Fetch j m end bodies) v (before i) calls i x
      → Telling n nodes majority before Now m u i
  telling u i epoch up x at kind off p = record {
    reply = x;
    at = at;
    kind = kind;
    part = subst (λ e. Off e (before i) ⊎ (((before i).promised ≡ e) × ((before i).serial < u.serial) × UpTo m (before i) × Tells m (before i) x
        × AreOld i e (before i).serial Now)) (sym epoch) (by p);
  }
    where
      by : Off v.epoch (before i) ⊎ After (round.Fetch j m end bodies) v (before i) calls i x
          → Off v.epoch (before i) ⊎ (((before i).promised ≡ v.epoch) × ((before i).serial < u.serial) × UpTo m (before i) × Tells m (before i) x
          × AreOld i v.epoch (before i).serial Now)
      by (inl f) = inl f
      by (inr k) = inr (
        k.bound,
        (let l : (before i).serial < v.serial = k.serial in omega (arith, l, up)),
        k.had.0,
        k.had.1,
        old_other i v.epoch (before i).serial calls (record { node = j; request = Fetch (head_now v) m (m + length bodies) }) (λ e. off (sym e))
            k.old,
      )

  moved_telling : (u : WriterView) (i : ℕ) → after i ≡ before i → Telling n nodes majority before Now m u i → Telling n nodes majority after Now m u i
  moved_telling u i e t = record {
    reply = t.reply;
    at = t.at;
    kind = t.kind;
    part = subst (λ s. Off u.epoch s ⊎ ((s.promised ≡ u.epoch) × (s.serial < u.serial) × UpTo m s × Tells m s t.reply × AreOld i u.epoch s.serial Now)) (sym e) t.part;
  }

  others_tell : (u : WriterView) (i : ℕ) → Member i nodes → u.epoch ≡ v.epoch → v.serial ≤ u.serial → i ≢ j
      → ((x : Reply) → At 1 v.slots i (Told (Answer x)) → At 1 u.slots i (Told (Answer x))) → Call n nodes before after v j Its d
      → (At 1 v.slots i Waiting → ⊥)
      → Part (round.Fetch j m end bodies) v (before i) calls i → Telling n nodes majority after Now m u i
  others_tell u i k epoch up off on call no_wait (waits at p) = absurd (no_wait at)
  others_tell u i k epoch up off on call no_wait (told x at kind numbers p) = moved_telling u i (call.others i k off) (telling u i epoch up x (on x at) kind off p)

  -- ## A node of the majority gives the piece
  pub record GivesPiece (info : SegmentInfo) : Type 0 where
    pub batch : BatchView
    pub is : d ≡ Answer (reply.Edits batch)
    pub numbers : numbers_fit v (round.Fetch j m end bodies) ≡ true
    pub fits_it : fits_edits (m + length bodies) batch ≡ true
    pub tells_it : Telling n nodes majority after Now m (next_serial v) j

  gives : (f : Fetching v j m end bodies) → Call n nodes before after v j Its d → Member j nodes → (At 1 v.slots j Waiting → ⊥)
      → Part (round.Fetch j m end bodies) v (before j) calls j → GivesPiece f.info
  gives f k mem no_wait (waits at p) = absurd (no_wait at)
  gives f k mem no_wait (told x at kind numbers (inl (inr down))) = absurd (true≢false (sym (k.up j mem) ∙ down))
  gives f k mem no_wait (told x at kind numbers (inl (inl lost_it))) = absurd (not_heeded (before j) Its (head_now v) refl (k.up j mem) lost_it (k.heeded mem))
  gives f k mem no_wait (told x at kind numbers (inr a)) = by (find_segment m (before j).segments) refl
    where
      tells_b : TellsSegment m 1 v.slots (BestThere f.info)
      tells_b = best_told m 1 v.slots (BestThere f.info) f.best

      slot_is : Told (Answer x) ≡ tells_b.slot
      slot_is = At-one 1 v.slots j (Told (Answer x)) tells_b.slot at tells_b.at

      told_is : told_of (find_segment m (before j).segments) ≡ Some f.info
      told_is =
          let r = segment_slot m tells_b.slot f.info tells_b.tells in
          let same : Told (Answer (reply.Prepared a.had.1.0 a.had.1.1 (told_of (find_segment m (before j).segments)))) ≡ Told
          (Answer (reply.Prepared r.0 r.1 (Some f.info))) = ap (λ z. Told (Answer z)) (sym a.had.1.2) ∙ slot_is ∙ r.2 in
          cc

      serial : (before j).serial < v.serial
      serial = a.serial

      fresh : Fresh (before j) (head_now v)
      fresh = record { up = k.up j mem; promise = a.bound; serial = serial }

      with_g : (g : Segment) → find_segment m (before j).segments ≡ Some g → has_edit g ≡ true → end_of g ≡ f.info.end → GivesPiece f.info
      with_g g found edit ends =
          let start : g.start ≡ m = find-start m (before j).segments g found in
          let last : f.info.end ≡ end = f.end_is in
          let high : m + length bodies ≤ end_of g = omega (arith, f.within, ends, last) in
          let p : HasFetched (before j) (head_now v) m (m + length bodies) = fetches (before j) (head_now v) m (m + length bodies) g fresh (k.heeded mem) found edit (omega arith) high in
          let small : end_of g ≤ max_number = (subst EndSmall found ((k.sane j mem).ends m)) edit in
          let t : NodeState = (node_step (before j) Its).state in
          let bound : (node_step (before j) (Fetch (head_now v) m (m + length bodies))).state.promised ≡ v.epoch = p.left.promise in
          let now_serial : (node_step (before j) (Fetch (head_now v) m (m + length bodies))).state.serial ≡ v.serial = p.left.serial in
          record {
            batch = record { first = m + length bodies; bodies = piece_of (find_segment m (before j).segments) (m + length bodies) };
            is = k.heard mem ∙ ap Answer p.tells;
            numbers = heeded_fits (before j) (Fetch (head_now v) m (m + length bodies)) (k.up j mem) (k.heeded mem);
            fits_it = ap (λ o. fits_edits (m + length bodies) (record { first = m + length bodies; bodies = piece_of o (m + length bodies) })) found
                ∙ piece_fits g (m + length bodies) (omega (arith, start)) high edit small;
            tells_it = record {
              reply = x;
              at = at;
              kind = kind;
              part = subst (λ s. Off v.epoch s ⊎ ((s.promised ≡ v.epoch) × (s.serial < v.serial + 1) × UpTo m s × Tells m s x × AreOld j v.epoch s.serial Now)) (sym (k.moved mem)) (inr (
                bound,
                omega (arith, now_serial),
                (λ q h found_it edit_it. a.had.0 q h (ap (find_segment q) (sym p.segments) ∙ found_it) edit_it),
                (a.had.1.0, a.had.1.1, a.had.1.2 ∙ ap (λ gs. reply.Prepared a.had.1.0 a.had.1.1 (told_of (find_segment m gs))) (sym p.segments)),
                olds calls (before j).serial (node_step (before j) (Fetch (head_now v) m (m + length bodies))).state.serial serial now_serial a.old,
              ));
            };
          }
        where
          olds : (xs : List CallMade) (top up : ℕ) → top < v.serial → up ≡ v.serial → AreOld j v.epoch top xs
              → AreOld j v.epoch up (xs ++ record { node = j; request = Fetch (head_now v) m (m + length bodies) } ∷ [])
          olds [] top up lt e o = (λ at_it h is_it same. let z : head_now v ≡ h = some_same is_it in let y : v.serial ≡ h.serial = ap (λ (u : HeadView). u.serial) z in omega (arith, y, e), tt)
          olds (y ∷ xs) top up lt e o = (λ at_it h is_it same. let l : h.serial ≤ top = o.0 at_it h is_it same in omega (arith, l, lt, e), olds xs top up lt e o.1)

      by : (o : Option Segment) → find_segment m (before j).segments ≡ o → GivesPiece f.info
      by None e = none≢some f.info (ap told_of (sym e) ∙ told_is)
      by (Some g) e = by_edit (has_edit g) refl
        where
          told_g : told_of (Some g) ≡ Some f.info
          told_g = ap told_of (sym e) ∙ told_is

          by_edit : (b : Bool) → has_edit g ≡ b → GivesPiece f.info
          by_edit false q = none≢some f.info (sym (cond-false (has_edit g) (Some (info_of g)) None q) ∙ told_g)
          by_edit true q =
              let same : info_of g ≡ f.info = some_same (sym (cond-true (has_edit g) (Some (info_of g)) None q) ∙ told_g) in
              with_g g e q (ap (λ (z : SegmentInfo). z.end) same)

  -- ## What is heard of a fetch
  no_more : (bs : List (List ℕ)) (f : Fetching v j m end bodies) → m + length (bodies ++ take (end + 1 - (m + length bodies)) bs) ≤ f.info.end + 1
  no_more bs f =
      let a : length (bodies ++ take (end + 1 - (m + length bodies)) bs) ≡ length bodies + length (take (end + 1 - (m + length bodies)) bs) =
      length-append bodies (take (end + 1 - (m + length bodies)) bs) in
      let b : length (take (end + 1 - (m + length bodies)) bs) ≡ min (end + 1 - (m + length bodies)) (length bs) = length-take (end + 1 - (m + length bodies)) bs in
      let e : f.info.end ≡ end = f.end_is in
      omega (arith, a, b, e, f.within)

  -- a piece that fits goes after those before it
  piece_goes : (f : Fetching v j m end bodies) (batch : BatchView) → length v.left ≡ n → v.aim ≡ aim.Takeover → AreIn nodes v.left
      → Agreed n nodes majority after Now m f.info → ((i : ℕ) → Member i nodes → Sane (after i))
      → ((i : ℕ) → Member i nodes → Telling n nodes majority after Now m (next_serial v) i) → Way nodes after Now (after_edits true j m end bodies batch v).writer
  piece_goes f batch left is lefts agreed sane tells =
      subst (λ z. Way nodes after Now (after_edits true j m z bodies batch v).writer) f.end_is
      (pieces n nodes majority after Now (next_serial v) m (BestThere f.info) (bodies ++ take (f.info.end + 1 - (m + length bodies)) batch.bodies)
      f.best (let e : f.info.end ≡ end = f.end_is in omega (arith, f.within, e))
      (subst (λ z. m + length (bodies ++ take (z + 1 - (m + length bodies)) batch.bodies) ≤ f.info.end + 1) (sym f.end_is) (no_more batch.bodies f))
      left is (omega arith) lefts agreed (λ i k. (sane i k).durable) tells)

  -- nothing of use: the node is out of the count
  out_goes : (h : Heard) → (Member j nodes → ⊥) → Call n nodes before after v j Its d → v.aim ≡ aim.Takeover → AreIn nodes v.left
      → length (without_answer_of j h v).slots ≡ n → ((i : ℕ) → Member i nodes → At 1 v.slots i Waiting → ⊥)
      → ((i : ℕ) → Member i nodes → Part (round.Fetch j m end bodies) v (before i) calls i) → Way nodes after Now (after_no_edits j m h v).writer
  out_goes h not_in k is lefts size no_wait parts = lost n nodes majority after Now (without_answer_of j h v) m k.left size is lefts
      (λ i q. (k.sane_after i q).durable) (λ i q. others_tell (without_answer_of j h v) i q refl (omega arith) (off i q) (on i q) k (no_wait i q)
      (parts i q))
    where
      off : (i : ℕ) → Member i nodes → i ≢ j
      off i q same = not_in (subst (λ z. Member z nodes) same q)

      on : (i : ℕ) → Member i nodes → (x : Reply) → At 1 v.slots i (Told (Answer x)) → At 1 (without_answer_of j h v).slots i (Told (Answer x))
      on i q x at = At-other 1 (j - 1) i v.slots (Told (failure_of h)) (Told (Answer x)) (λ e. off i q (omega (arith, e, k.low))) at

  pub hears_piece : (f : Fetching v j m end bodies) → (k : Call n nodes before after v j Its d) → v.aim ≡ aim.Takeover → AreIn nodes v.left
      → ((h : Heard) → length (without_answer_of j h v).slots ≡ n) → Agreed n nodes majority after Now m f.info
      → ((i : ℕ) → Member i nodes → At 1 v.slots i Waiting → ⊥) → ((i : ℕ) → Member i nodes → Part (round.Fetch j m end bodies) v (before i) calls i)
      → Way nodes after Now (after_fetch j m end bodies d v).writer
  unfolding after_fetch
  hears_piece f k is lefts size agreed no_wait parts = by (Member_or j nodes)
    where
      inside : GivesPiece f.info → Member j nodes → Way nodes after Now (after_fetch j m end bodies d v).writer
      inside g mem =
          subst (λ z. Way nodes after Now (after_fetch j m end bodies z v).writer) (sym g.is)
          (subst (λ b. Way nodes after Now (after_edits b j m end bodies g.batch v).writer) (sym (and_from (numbers_fit v (round.Fetch j m end bodies)) _ g.numbers g.fits_it))
          (piece_goes f g.batch k.left is lefts agreed k.sane_after (λ i q. tell i q (cases_eq i j))))
        where
          tell : (i : ℕ) → Member i nodes → (i ≡ j) ⊎ (i ≢ j) → Telling n nodes majority after Now m (next_serial v) i
          tell i q (inl same) = subst (λ z. Telling n nodes majority after Now m (next_serial v) z) (sym same) g.tells_it
          tell i q (inr off) = others_tell (next_serial v) i q refl (omega arith) off (λ x at. at) k (no_wait i q) (parts i q)

      edits_by : (Member j nodes → ⊥) → (batch : BatchView) (b : Bool) → Way nodes after Now (after_edits b j m end bodies batch v).writer
      edits_by not_in batch false = out_goes Silent not_in k is lefts (size Silent) no_wait parts
      edits_by not_in batch true = piece_goes f batch k.left is lefts agreed k.sane_after
          (λ i q. others_tell (next_serial v) i q refl (omega arith) (λ same. not_in (subst (λ z. Member z nodes) same q)) (λ x at. at) k
          (no_wait i q) (parts i q))

      outside : (Member j nodes → ⊥) → (h : Heard) → Way nodes after Now (after_fetch j m end bodies h v).writer
      outside not_in (Answer (reply.Edits batch)) = edits_by not_in batch (numbers_fit v (round.Fetch j m end bodies) && fits_edits (m + length bodies) batch)
      outside not_in (Answer reply.Ok) = out_goes (Answer reply.Ok) not_in k is lefts (size (Answer reply.Ok)) no_wait parts
      outside not_in (Answer (reply.State p)) = out_goes (Answer (reply.State p)) not_in k is lefts (size (Answer (reply.State p))) no_wait parts
      outside not_in (Answer (reply.NewEpoch o)) = out_goes (Answer (reply.NewEpoch o)) not_in k is lefts (size (Answer (reply.NewEpoch o))) no_wait parts
      outside not_in (Answer (reply.Prepared a b g)) = out_goes (Answer (reply.Prepared a b g)) not_in k is lefts (size (Answer (reply.Prepared a b g))) no_wait parts
      outside not_in (Answer (reply.Segments l)) = out_goes (Answer (reply.Segments l)) not_in k is lefts (size (Answer (reply.Segments l))) no_wait parts
      outside not_in (Answer (reply.Refused x)) = out_goes (Answer (reply.Refused x)) not_in k is lefts (size (Answer (reply.Refused x))) no_wait parts
      outside not_in Silent = out_goes Silent not_in k is lefts (size Silent) no_wait parts

      by : (Member j nodes) ⊎ (Member j nodes → ⊥) → Way nodes after Now (after_fetch j m end bodies d v).writer
      by (inl mem) = inside (gives f k mem (no_wait j mem) (parts j mem)) mem
      by (inr not_in) = outside not_in d

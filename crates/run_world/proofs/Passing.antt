-- A round of a takeover that a majority served is done, and the same nodes are ready for the next
-- one.
use Rattle.std.proofs.Common.{◌≡◌, ◌≢◌, ℕ, zero, suc, ◌+◌, ◌-◌, ◌<◌, ◌≤◌, ◌&&◌, ◌⊎◌, inl, inr, List, [], ◌∷◌, Bool, true, false, cond, refl, sym, ap}
use Rattle.std.proofs.Common.{◌∙◌, subst, arith, length, Option, Some, None, nat_lt}
use Rattle.std.specs.Prelude.{slice_set, ◌*◌}
use Rattle.std.proofs.lemmas.Bool.{cond-true, ltb-true, ltb-false}
use Rattle.journal_core.specs.Laws.{IsStored}
use Rattle.journal_core.specs.Views.{BatchView, last_txid}
use Rattle.journal_core.specs.Limits.{max_number}
use Rattle.journal_core.specs.Reads.{told_of}
use Rattle.journal_core.specs.Segments.{find_segment, has_edit, any_body, end_of, info_of}
use Rattle.journal_core.specs.declared.segment.Segment.{Segment}
use Rattle.journal_core.specs.declared.segment_info.SegmentInfo.{SegmentInfo}
use Rattle.journal_core.specs.declared.node_state.NodeState.{NodeState}
use Rattle.journal_core.specs.declared.reply.Reply.{Reply}
use Rattle.journal_core.specs.declared.reply.Reply.TheVariants as reply
use Rattle.journal_core.specs.declared.heard.Heard.TheVariants.{Answer}
use Rattle.writer_core.specs.declared.round.Round.{Round}
use Rattle.writer_core.specs.declared.round.Round.TheVariants as round
use Rattle.writer_core.specs.declared.phase.Phase.TheVariants as phase
use Rattle.writer_core.specs.declared.phase.Aim.{Aim}
use Rattle.writer_core.specs.declared.phase.Aim.TheVariants as aim
use Rattle.writer_core.specs.declared.slot.Slot.{Slot}
use Rattle.writer_core.specs.declared.slot.Slot.TheVariants.{Waiting, Told}
use Rattle.writer_core.specs.Views.{WriterView}
use Rattle.writer_core.specs.Answers.{fits_round, fits_prepare, fits_state, is_ok, has_majority}
use Rattle.writer_core.specs.Best.{Best, best_of, segment_in, segment_told, newest_in, newest_told, greatest_newest, greatest_promise, promise_in, promise_told}
use Rattle.writer_core.specs.Rounds.{numbers_fit, Judgment, keep_going, next_serial, judgment_by, judgment, with_causes, after_round, after_propose}
use Rattle.writer_core.specs.Rounds.{begin_recovery, begin_start, asks_all, keep_piece, to_all}
use Rattle.run_safety.specs.Majority.{Member, IsMajority}
use Rattle.run_safety.specs.Actings.{CallMade}
use Rattle.journal_core.proofs.SegmentLists.{newest-above}
use Rattle.run_safety.proofs.Slots.{true≢false, At, best_told, TellsSegment, IsTop, RankLe, best_is_top, AtLeast, newest_told_least}
use Rattle.run_safety.proofs.Answers.{segment_slot, fits_info}
use Rattle.run_world.proofs.Heeding.{UpTo, Below, MayAccept}
use Rattle.run_world.proofs.Duties.{Off, AreOld, Tells, After, Part, waits, told, Voted}
use Rattle.run_world.proofs.Enough.{At-one, enough, all_wait, IsIn, others_wait, missed_in}

-- what a round of a takeover keeps beside its parts
abbrev pub AreIn : List ℕ → List Bool → Type 0
AreIn nodes left = (i : ℕ) → Member i nodes → IsIn 1 left i

pub record Fetching (v : WriterView) (node m end : ℕ) (bodies : List (List ℕ)) : Type 0 where
  pub info : SegmentInfo
  pub best : best_of m v.slots ≡ Some (record { node = node; info = info })
  pub end_is : info.end ≡ end
  pub within : m + length bodies ≤ end

abbrev pub NoneWait : List ℕ → WriterView → Type 0
NoneWait nodes v = (i : ℕ) → Member i nodes → At 1 v.slots i Waiting → ⊥

abbrev pub Facts : List ℕ → Round → WriterView → Type 0
Facts nodes round.State v = ⊥
Facts nodes round.Propose v = ⊥
Facts nodes (round.Prepare m) v = AreIn nodes v.left
Facts nodes (round.Fetch node m end bodies) v = AreIn nodes v.left × Fetching v node m end bodies × NoneWait nodes v
Facts nodes (round.Accept b) v = AreIn nodes v.left × (any_body b.bodies ≡ true)
Facts nodes (round.Finalize m l) v = m ≤ l
Facts nodes round.Start v = Unit {0}
Facts nodes round.Open v = Unit {0}
Facts nodes (round.Write bodies) v = ⊥
Facts nodes (round.Purge min) v = ⊥

-- the nodes' parts, and what has come of the takeover
pub data Way (nodes : List ℕ) (state : ℕ → NodeState) (calls : List CallMade) (v : WriterView) : Type 0 where
  goes : (r : Round) → v.phase ≡ phase.InRound r → v.aim ≡ aim.Takeover → 0 < v.serial → Facts nodes r v → ((i : ℕ) → Member i nodes → Part r v (state i) calls i) → Way nodes state calls v
  writes : v.phase ≡ phase.Writing → Way nodes state calls v

module _ (n : ℕ) (nodes : List ℕ) (majority : IsMajority n nodes) (state : ℕ → NodeState) (calls : List CallMade) where
  low_high : (left : List Bool) → length left ≡ n → (i : ℕ) → Member i nodes → (1 ≤ i) × (i < 1 + length left)
  low_high left size i m = let w = majority.within i m in (w.0, omega (arith, w.1, size))

  -- one node of the majority
  a_node : (i : ℕ) × Member i nodes
  a_node = by nodes majority.more
    where
      by : (xs : List ℕ) → n < 2 * length xs → (i : ℕ) × Member i xs
      by [] l = absurd (omega (arith, l))
      by (x ∷ xs) l = (x, inl refl)

  -- ## All have answered
  -- a part that doesn't wait
  pub record Spoken (r : Round) (v : WriterView) (i : ℕ) : Type 0 where
    pub reply : Reply
    pub at : At 1 v.slots i (Told (Answer reply))
    pub kind : fits_round r reply ≡ true
    pub numbers : numbers_fit v r ≡ true
    pub part : Off v.epoch (state i) ⊎ After r v (state i) calls i reply

  pub done_by : (r : Round) (v : WriterView) → length v.slots ≡ n → numbers_fit v r ≡ true
      → ((i : ℕ) → Member i nodes → (slot : Slot) × At 1 v.slots i slot × (is_ok r slot ≡ true)) → judgment r v ≡ after_round r (with_causes r v)
  unfolding judgment
  done_by r v size fit each =
      let e : (numbers_fit v r && has_majority r v.slots) ≡ true = ap (λ b. b && has_majority r v.slots) fit ∙ enough n r v.slots nodes size majority each in
      ap (λ b. judgment_by b r v) e

  spoken_done : (r : Round) (v : WriterView) → length v.slots ≡ n → ((i : ℕ) → Member i nodes → Spoken r v i) → judgment r v ≡ after_round r (with_causes r v)
  spoken_done r v size each = done_by r v size (each a_node.0 a_node.1).numbers (λ i m. let s = each i m in (Told (Answer s.reply), s.at, s.kind))

  -- a part that waits in the next round
  off_or : (A B : Type 0) (epoch : ℕ) (s : NodeState) → Off epoch s ⊎ A → (A → B) → Off epoch s ⊎ B
  off_or A B epoch s (inl x) f = inl x
  off_or A B epoch s (inr x) f = inr (f x)

  abbrev Passes : WriterView → Type 0
  Passes v = Way nodes state calls v

  -- ## The rounds before the first record
  start_next : (v : WriterView) (k : ℕ) → length v.left ≡ n → v.aim ≡ aim.Takeover → 0 < v.serial
      → ((i : ℕ) → Member i nodes → Off v.epoch (state i) ⊎ (((state i).promised ≡ v.epoch) × ((state i).serial < v.serial) × Below k (state i) × AreOld i v.epoch (state i).serial calls))
      → Passes (begin_start k v)
  start_next v k size is pos each = goes round.Start refl is pos tt (λ i m. waits (all_wait 1 v.left i (low_high v.left size i m).0 (low_high v.left size i m).1)
      (off_or _ _ v.epoch (state i) (each i m) (λ x. record { bound = x.0; serial = x.1; due = x.2; old = x.3 })))

  pub accepted : (v : WriterView) (b : BatchView) → length v.left ≡ n → length v.slots ≡ n → v.aim ≡ aim.Takeover → Facts nodes (round.Accept b) v
      → ((i : ℕ) → Member i nodes → Spoken (round.Accept b) v i)
      → Passes (judgment (round.Accept b) v).writer
  accepted v b size slots is f each =
      subst (λ (j : Judgment). Passes j.writer) (sym (spoken_done (round.Accept b) v slots each))
      (goes (round.Finalize b.first (last_txid b)) refl is (omega arith) (some b.bodies f.1) (λ i m. waits (others_wait 1 v.left i (f.0 i m))
      (off_or _ _ v.epoch (state i) (each i m).part (λ x. record { bound = x.bound; serial = (let l : (state i).serial ≤ v.serial = x.serial in omega (arith, l)); due = x.had; old = x.old }))))
    where
      some : (bodies : List (List ℕ)) → any_body bodies ≡ true → b.first ≤ b.first + length bodies - 1
      some [] e = true≢false (sym e)
      some (y ∷ ys) e = omega arith

  pub finalized : (v : WriterView) (m l : ℕ) → length v.left ≡ n → length v.slots ≡ n → v.aim ≡ aim.Takeover → Facts nodes (round.Finalize m l) v
      → ((i : ℕ) → Member i nodes → Spoken (round.Finalize m l) v i)
      → Passes (judgment (round.Finalize m l) v).writer
  finalized v m l size slots is f each =
      subst (λ (j : Judgment). Passes j.writer) (sym (spoken_done (round.Finalize m l) v slots each ∙ by v.aim is))
      (start_next (next_serial (with_causes (round.Finalize m l) v)) (l + 1) size is (omega arith) (λ i k.
      off_or _ _ v.epoch (state i) (each i k).part (λ x. (
        x.bound,
        (let le : (state i).serial ≤ v.serial = x.serial in omega (arith, le)),
        (λ t g found edit. let low : t ≤ m = x.had t g found edit in omega (arith, low, f)),
        x.old,
      ))))
    where
      by : (a : Aim) → a ≡ aim.Takeover → after_round (round.Finalize m l) (with_causes (round.Finalize m l) (record v { aim = a })) ≡ keep_going
          (begin_start (l + 1) (next_serial (with_causes (round.Finalize m l) (record v { aim = a }))))
      by aim.Takeover e = refl
      by aim.Log e = absurd (cc e)
      by aim.Roll e = absurd (cc e)
      by aim.Close e = absurd (cc e)
      by aim.Purge e = absurd (cc e)

  pub started : (v : WriterView) → length v.left ≡ n → length v.slots ≡ n → v.aim ≡ aim.Takeover → ((i : ℕ) → Member i nodes → Spoken round.Start v i) → Passes (judgment round.Start v).writer
  started v size slots is each =
      subst (λ (j : Judgment). Passes j.writer) (sym (spoken_done round.Start v slots each))
      (goes round.Open refl is (omega arith) tt (λ i m. waits (others_wait 1 _ i (missed_in round.Start 1 v.slots i (Told (Answer (each i m).reply)) (each i m).at (each i m).kind))
      (off_or _ _ v.epoch (state i) (each i m).part (λ x. record { bound = x.bound; serial = (let l : (state i).serial ≤ v.serial = x.serial in omega (arith, l)); due = x.had; old = x.old }))))

  pub opened : (v : WriterView) → length v.slots ≡ n → v.aim ≡ aim.Takeover → ((i : ℕ) → Member i nodes → Spoken round.Open v i) → Passes (judgment round.Open v).writer
  opened v slots is each = subst (λ (j : Judgment). Passes j.writer) (sym (spoken_done round.Open v slots each)) (writes (by v.aim is))
    where
      by : (a : Aim) → a ≡ aim.Takeover → (after_round round.Open (with_causes round.Open (record v { aim = a }))).writer.phase ≡ phase.Writing
      by aim.Takeover e = refl
      by aim.Log e = absurd (cc e)
      by aim.Roll e = absurd (cc e)
      by aim.Close e = absurd (cc e)
      by aim.Purge e = absurd (cc e)

  -- ## The best of the prepare answers
  -- a node whose answer tells what it has
  pub record Telling (m : ℕ) (v : WriterView) (i : ℕ) : Type 0 where
    pub reply : Reply
    pub at : At 1 v.slots i (Told (Answer reply))
    pub kind : fits_prepare m reply ≡ true
    pub part : Off v.epoch (state i) ⊎ (((state i).promised ≡ v.epoch) × ((state i).serial < v.serial) × UpTo m (state i) × Tells m (state i) reply × AreOld i v.epoch (state i).serial calls)

  segment_of : (m : ℕ) (writer known : ℕ) (o : Option SegmentInfo) → fits_prepare m (reply.Prepared writer known o) ≡ true → segment_in m (Told (Answer (reply.Prepared writer known o))) ≡ o
  segment_of m writer known o e = ap (λ b. segment_told b (reply.Prepared writer known o)) e

  -- none has the segment
  none_told : (m : ℕ) (v : WriterView) (i : ℕ) → best_of m v.slots ≡ None → IsStored (state i) → (t : Telling m v i) → UpTo m (state i) → Tells m (state i) t.reply → Below m (state i)
  none_told m v i none durable t up tells k g found edit = by (has_edit g) refl
    where
      low : k ≤ m
      low = up k g found edit

      at_m : k ≡ m → ⊥
      at_m same =
          let here : find_segment m (state i).segments ≡ Some g = subst (λ (j : ℕ). find_segment j (state i).segments ≡ Some g) same found in
          let told_it : told_of (find_segment m (state i).segments) ≡ Some (info_of g) = ap told_of here ∙ cond-true (has_edit g) (Some (info_of g)) None edit in
          let is : segment_in m (Told (Answer t.reply)) ≡ Some (info_of g) =
          ap (λ x. segment_in m (Told (Answer x))) tells.2 ∙ segment_of m tells.0 tells.1 (told_of (find_segment m (state i).segments))
          (subst (λ x. fits_prepare m x ≡ true) tells.2 t.kind) ∙ told_it in
          subst (λ o. IsTop (info_of g) o) none (best_is_top m 1 v.slots i (Told (Answer t.reply)) (info_of g) t.at is)

      by : (b : Bool) → has_edit g ≡ b → k < m
      by b e = let off : k ≢ m = λ (same : k ≡ m). absurd (at_m same) in omega (arith, low, off)

  none_waits : (v : WriterView) (m : ℕ) → ((i : ℕ) → Member i nodes → Telling m v i) → NoneWait nodes v
  none_waits v m each i k at = off (At-one 1 v.slots i Waiting (Told (Answer (each i k).reply)) at (each i k).at)
    where
      off : Waiting ≡ Told (Answer (each i k).reply) → ⊥
      off e = cc e

  recovers_by : (v : WriterView) (m : ℕ) (o : Option Best) → best_of m v.slots ≡ o → length v.left ≡ n → v.aim ≡ aim.Takeover → 0 < v.serial
      → AreIn nodes v.left → ((i : ℕ) → Member i nodes → IsStored (state i)) → ((i : ℕ) → Member i nodes → Telling m v i)
      → Passes (begin_recovery m o v)
  recovers_by v m None e size is pos left durable each = start_next (record v { committed = m - 1 }) m size is pos (λ i k. let t = each i k in
      off_or _ _ v.epoch (state i) t.part (λ x. (x.0, x.1, none_told m v i e (durable i k) t x.2 x.3, x.4)))
  recovers_by v m (Some b) e size is pos left durable each = goes (round.Fetch b.node m b.info.end []) refl is pos
      (left, record { info = b.info; best = e; end_is = refl; within = omega (arith, low) }, none_waits v m each)
      (λ i k. let t = each i k in told t.reply t.at t.kind tt (off_or _ _ v.epoch (state i) t.part (λ x. record { bound = x.0; serial = x.1; had = (x.2, x.3); old = x.4 })))
    where
      low : m ≤ b.info.end
      low =
          let t : TellsSegment m 1 v.slots b = best_told m 1 v.slots b e in
          let r = segment_slot m t.slot b.info t.tells in
          (fits_info m r.0 r.1 b.info r.3).1

  -- with the next serial, all is as it was
  telling_on : (v w : WriterView) (m i : ℕ) → w.slots ≡ v.slots → w.epoch ≡ v.epoch → v.serial ≤ w.serial → Telling m v i → Telling m w i
  telling_on v w m i slots epoch up t = record {
    reply = t.reply;
    at = subst (λ xs. At 1 xs i (Told (Answer t.reply))) (sym slots) t.at;
    kind = t.kind;
    part = subst (λ e. Off e (state i) ⊎ (((state i).promised ≡ e) × ((state i).serial < w.serial) × UpTo m (state i) × Tells m (state i) t.reply × AreOld i e (state i).serial calls)) (sym epoch)
        (off_or _ _ v.epoch (state i) t.part (λ x. (x.0, omega (arith, x.1, up), x.2, x.3, x.4)));
  }

  pub prepared : (v : WriterView) (m : ℕ) → length v.left ≡ n → length v.slots ≡ n → v.aim ≡ aim.Takeover → AreIn nodes v.left
      → ((i : ℕ) → Member i nodes → IsStored (state i)) → ((i : ℕ) → Member i nodes → Spoken (round.Prepare m) v i)
      → Passes (judgment (round.Prepare m) v).writer
  prepared v m size slots is left durable each =
      subst (λ (j : Judgment). Passes j.writer) (sym (spoken_done (round.Prepare m) v slots each))
      (recovers_by (next_serial (with_causes (round.Prepare m) v)) m (best_of m v.slots) refl size is (omega arith) left durable (λ i k. let s = each i k in record {
        reply = s.reply;
        at = s.at;
        kind = s.kind;
        part = off_or _ _ v.epoch (state i) s.part (λ x. (x.bound, (let l : (state i).serial ≤ v.serial = x.serial in omega (arith, l)), x.had.0, x.had.1, x.old));
      }))

  -- a node was taken out of the count; those of the majority are still there
  pub lost : (v : WriterView) (m : ℕ) → length v.left ≡ n → length v.slots ≡ n → v.aim ≡ aim.Takeover → AreIn nodes v.left
      → ((i : ℕ) → Member i nodes → IsStored (state i)) → ((i : ℕ) → Member i nodes → Telling m v i)
      → Passes (judgment_by (has_majority (round.Prepare m) v.slots) (round.Prepare m) v).writer
  lost v m size slots is left durable each =
      subst (λ (b : Bool). Passes (judgment_by b (round.Prepare m) v).writer)
      (sym (enough n (round.Prepare m) v.slots nodes slots majority (λ i k. let t = each i k in (Told (Answer t.reply), t.at, t.kind))))
      (recovers_by (next_serial (with_causes (round.Prepare m) v)) m (best_of m v.slots) refl size is (omega arith) left durable
      (λ i k. telling_on v (next_serial (with_causes (round.Prepare m) v)) m i refl refl (omega arith) (each i k)))

  -- ## A piece
  abbrev pub Agreed : ℕ → SegmentInfo → Type 0
  Agreed m info = (i : ℕ) → Member i nodes → (g : Segment) → find_segment m (state i).segments ≡ Some g → g.is_final ≡ true → info.is_final ≡ true → end_of g ≡ info.end

  may_accept : (v : WriterView) (m : ℕ) (b : Best) (bs : List (List ℕ)) (i : ℕ) → Member i nodes → best_of m v.slots ≡ Some b → Agreed m b.info
      → m + length bs ≡ b.info.end + 1 → IsStored (state i) → (t : Telling m v i) → Tells m (state i) t.reply
      → MayAccept (record { first = m; bodies = bs }) (find_segment m (state i).segments)
  may_accept v m b bs i k best agreed len durable t tells = by (find_segment m (state i).segments) refl
    where
      final : (g : Segment) → find_segment m (state i).segments ≡ Some g → g.is_final ≡ true → end_of g ≡ m + length bs - 1
      final g found f =
          let edit : has_edit g ≡ true = (durable.segments m g found).final_edit f in
          let told_it : told_of (find_segment m (state i).segments) ≡ Some (info_of g) = ap told_of found ∙ cond-true (has_edit g) (Some (info_of g)) None edit in
          let is : segment_in m (Told (Answer t.reply)) ≡ Some (info_of g) =
          ap (λ x. segment_in m (Told (Answer x))) tells.2 ∙ segment_of m tells.0 tells.1 (told_of (find_segment m (state i).segments))
          (subst (λ x. fits_prepare m x ≡ true) tells.2 t.kind) ∙ told_it in
          let top : RankLe (info_of g) b.info = subst (λ o. IsTop (info_of g) o) best (best_is_top m 1 v.slots i (Told (Answer t.reply)) (info_of g) t.at is) in
          let same : end_of g ≡ b.info.end = agreed i k g found f (top.final f) in
          omega (arith, same, len)

      by : (o : Option Segment) → find_segment m (state i).segments ≡ o → MayAccept (record { first = m; bodies = bs }) o
      by None e = tt
      by (Some g) e = final g e

  some_body : (bs : List (List ℕ)) → 1 ≤ length bs → any_body bs ≡ true
  some_body [] l = absurd (omega (arith, l))
  some_body (b ∷ bs) l = refl

  pub pieces : (v : WriterView) (m : ℕ) (b : Best) (bs : List (List ℕ)) → best_of m v.slots ≡ Some b → m ≤ b.info.end → m + length bs ≤ b.info.end + 1
      → length v.left ≡ n → v.aim ≡ aim.Takeover → 0 < v.serial → AreIn nodes v.left → Agreed m b.info
      → ((i : ℕ) → Member i nodes → IsStored (state i)) → ((i : ℕ) → Member i nodes → Telling m v i) → Passes (keep_piece b.node m b.info.end bs v)
  pieces v m b bs best low le size is pos left agreed durable each = by (nat_lt b.info.end (m + length bs)) refl
    where
      by : (x : Bool) → nat_lt b.info.end (m + length bs) ≡ x → Passes
          (cond x (asks_all (round.Accept (record { first = m; bodies = bs })) v)
          (record v { phase = phase.InRound (round.Fetch b.node m b.info.end bs) }))
      by true e =
          let lt : b.info.end < m + length bs = ltb-true b.info.end (m + length bs) e in
          let some : any_body bs ≡ true = some_body bs (omega (arith, lt, low)) in
          goes (round.Accept (record { first = m; bodies = bs })) refl is pos (left, some)
          (λ i k. let t = each i k in waits (all_wait 1 v.left i (low_high v.left size i k).0 (low_high v.left size i k).1)
          (off_or _ _ v.epoch (state i) t.part (λ x. record {
            bound = x.0;
            serial = x.1;
            due = (x.2, may_accept v m b bs i k best agreed (omega (arith, lt, le)) (durable i k) t x.3, some);
            old = x.4;
          })))
      by false e =
          let ge : m + length bs ≤ b.info.end = ltb-false b.info.end (m + length bs) e in
          goes (round.Fetch b.node m b.info.end bs) refl is pos (left, record { info = b.info; best = best; end_is = refl; within = ge }, none_waits v m each)
          (λ i k. let t = each i k in told t.reply t.at t.kind tt (off_or _ _ v.epoch (state i) t.part (λ x. record { bound = x.0; serial = x.1; had = (x.2, x.3); old = x.4 })))

  -- ## The proposal
  pub record Chosen (v : WriterView) (i : ℕ) : Type 0 where
    pub reply : Reply
    pub at : At 1 v.slots i (Told (Answer reply))
    pub kind : fits_round round.Propose reply ≡ true
    pub numbers : numbers_fit v round.Propose ≡ true
    pub part : Off v.epoch (state i) ⊎ (Voted v (state i) reply × AreOld i v.epoch (state i).serial calls)

  newest_least : (v : WriterView) (i t : ℕ) (g : Segment) (c : Chosen v i) → Voted v (state i) c.reply → find_segment t (state i).segments ≡ Some g
      → has_edit g ≡ true → (k : ℕ) × (t ≤ k) × AtLeast k (greatest_newest v.slots)
  newest_least v i t g c voted found edit =
      let a = newest-above t (state i).segments g found edit in
      let is : newest_in (Told (Answer c.reply)) ≡ Some a.0 = ap (λ b. newest_told b c.reply) c.kind ∙ ap (λ x. newest_told true x) voted.tells ∙ a.1 in
      (a.0, a.2, newest_told_least 1 v.slots i a.0 (Told (Answer c.reply)) c.at is)

  proposed_by : (v : WriterView) (o : Option ℕ) → greatest_newest v.slots ≡ o → length v.left ≡ n → v.aim ≡ aim.Takeover → v.serial ≡ 0 → AreIn nodes v.left → ((i : ℕ) → Member i nodes → Chosen v i)
      → Passes (after_propose o (next_serial (with_causes round.Propose v)))
  proposed_by v None e size is zero_serial left each = start_next (next_serial (with_causes round.Propose v)) 1 size is (omega arith) (λ i k. let c = each i k in
      off_or _ _ v.epoch (state i) c.part (λ x. (
        x.0.bound,
        (let s : (state i).serial ≡ 0 = x.0.serial in omega (arith, s)),
        (λ t g found edit. let w = newest_least v i t g c x.0 found edit in absurd (subst (AtLeast w.0) e w.2)),
        x.1,
      )))
  proposed_by v (Some m) e size is zero_serial left each = goes (round.Prepare m) refl is (omega arith) left
      (λ i k. let c = each i k in waits (all_wait 1 v.left i (low_high v.left size i k).0 (low_high v.left size i k).1)
      (off_or _ _ v.epoch (state i) c.part (λ x. record {
        bound = x.0.bound;
        serial = (let s : (state i).serial ≡ 0 = x.0.serial in omega (arith, s));
        due = λ t g found edit. let w = newest_least v i t g c x.0 found edit in let l : w.0 ≤ m = subst (AtLeast w.0) e w.2 in omega (arith, w.1, l);
        old = x.1;
      })))

  pub proposed : (v : WriterView) → length v.left ≡ n → length v.slots ≡ n → v.aim ≡ aim.Takeover → v.serial ≡ 0 → AreIn nodes v.left
      → ((i : ℕ) → Member i nodes → Chosen v i) → Passes (judgment round.Propose v).writer
  proposed v size slots is zero_serial left each =
      subst (λ (j : Judgment). Passes j.writer) (sym (done_by round.Propose v slots (each a_node.0 a_node.1).numbers (λ i k. let c = each i k in (Told (Answer c.reply), c.at, c.kind))))
      (proposed_by v (greatest_newest v.slots) refl size is zero_serial left each)

-- ## The promises
pub answer_low : (x : Reply) → ((p : ℕ) → x ≡ reply.State p → p < max_number) → promise_in (Told (Answer x)) < max_number
answer_low (reply.State p) low = by (fits_state (reply.State p))
  where
    by : (b : Bool) → promise_told b (reply.State p) < max_number
    by true = low p refl
    by false = omega arith
answer_low reply.Ok low = omega arith
answer_low (reply.NewEpoch o) low = omega arith
answer_low (reply.Prepared writer committed segment) low = omega arith
answer_low (reply.Edits batch) low = omega arith
answer_low (reply.Segments lines) low = omega arith
answer_low (reply.Refused f) low = omega arith

abbrev pub AreLow : List Slot → Type 0
AreLow [] = Unit {0}
AreLow (s ∷ slots) = (promise_in s < max_number) × AreLow slots

pub greatest_low : (slots : List Slot) → AreLow slots → greatest_promise slots < max_number
unfolding greatest_promise
greatest_low [] a = omega arith
greatest_low (s ∷ slots) a = let l : greatest_promise slots < max_number = greatest_low slots a.1 in omega (arith, a.0, l)

pub wait_low : (left : List Bool) → AreLow (to_all left)
wait_low [] = tt
wait_low (l ∷ left) = (omega arith, wait_low left)

pub set_low : (slots : List Slot) (i : ℕ) (y : Slot) → AreLow slots → promise_in y < max_number → AreLow (slice_set slots i y)
set_low [] i y a l = tt
set_low (s ∷ slots) zero y a l = (l, a.1)
set_low (s ∷ slots) (suc i) y a l = (a.0, set_low slots i y a.1 l)

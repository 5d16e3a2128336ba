-- A writer under an epoch, against the table of whole rounds of its takeover.
use Rattle.std.proofs.Common.{◌≡◌, ◌≢◌, ℕ, ◌<◌, ◌≤◌, ◌⊎◌, inl, inr, List, ◌∷◌, Bool, true, false, length, refl, sym, ap, ◌∙◌, subst, arith, Option, Some, None, replicate}
use Rattle.std.specs.List.{list_all}
use Rattle.journal_core.specs.declared.reply.Reply.{Reply}
use Rattle.writer_core.specs.declared.round.Round.{Round}
use Rattle.writer_core.specs.declared.round.Round.TheVariants as round
use Rattle.writer_core.specs.declared.phase.Phase.{Phase}
use Rattle.writer_core.specs.declared.phase.Phase.TheVariants as phase
use Rattle.writer_core.specs.declared.phase.Aim.TheVariants as aim
use Rattle.writer_core.specs.declared.slot.Slot.{Slot}
use Rattle.writer_core.specs.Views.{WriterView}
use Rattle.writer_core.specs.Whole.{Takeover, calls_in}
use Rattle.writer_core.proofs.Plain.{plain}
use Rattle.writer_core.proofs.PlainRounds.{IsWhole}
use Rattle.writer_core.proofs.Filling.{Fills}
use Rattle.writer_core.proofs.WholeLaws.{Reaches}
use Rattle.writer_core.proofs.WholeRounds.{unslotted}
use Rattle.journal_history.specs.Entries.{Entry, Earlier, now, before}
use Rattle.run_safety.specs.Run.{WasHeard, may_follow, IsInTurn}
use Rattle.run_safety.proofs.Tales.{Tale, place_below, IsLabelled}
use Rattle.run_safety.proofs.Fair.{IsFairEntry, IsTold, told_more}
use Rattle.run_safety.proofs.TaleSteps.{Continues, place_cases, heard_later, put_here, put_same, labelled, labelled_continues, grows_not}

abbrev pub IsSilent : (ℕ → Option Reply) → Type 0
IsSilent heard = (i : ℕ) → heard i ≡ None

-- The writer, against the writer of the table as the round began, or as it waits for its next task,
-- and what the table has heard in this round.
pub data Stands (v u : WriterView) (heard : ℕ → Option Reply) : Type 0 where
  calling : (r : Round) → IsWhole r → v.phase ≡ phase.InRound r → plain (unslotted v) ≡ plain (unslotted u) → Fills 1 heard v.slots u.slots → Stands v u heard
  fetching : (node start end : ℕ) (bodies : List (List ℕ)) → v.phase ≡ phase.InRound (round.Fetch node start end bodies) → plain v ≡ plain u → IsSilent heard → Stands v u heard
  writing : v.phase ≡ phase.Writing → plain v ≡ plain u → IsSilent heard → Stands v u heard

-- lower than all nodes that are still to be called
abbrev pub IsBefore : Phase → List Slot → ℕ → Type 0
IsBefore (phase.InRound r) slots j = (i : ℕ) → calls_in r slots i ≡ true → j < i
IsBefore _ slots j = ⊥

-- the takeover of this caller that is under way, and where its calls stand in the list
pub record Tracked (n : ℕ) (a : Tale) (past : List Entry) (c : ℕ) (v : WriterView) : Type 0 where
  pub k : ℕ
  pub known : k ≤ a.count
  pub by : (a.story.takeover k).caller ≡ c
  pub follow : list_all may_follow (a.story.takeover k).tasks ≡ true
  pub writer : WriterView
  pub reaches : Reaches n (a.story.takeover k) (a.top k) writer
  pub stands : Stands v writer ((a.story.takeover k).heard (a.top k))
  pub above : (x : ℕ) → a.top k < x → IsSilent ((a.story.takeover k).heard x)
  pub heard : (x i : ℕ) (reply : Reply) → (a.story.takeover k).heard x i ≡ Some reply → WasHeard a.story past k x i reply
  pub placed :
      (old : List Entry) (e : Entry) → Earlier (e ∷ old) past → a.story.whose (length old) ≡ k → IsInTurn e.move
      → (a.story.round (length old) < a.top k) ⊎ ((a.story.round (length old) ≡ a.top k) × IsBefore v.phase v.slots e.node)

abbrev pub is_free : Phase → Bool
is_free phase.Idle = true
is_free phase.Stopped = true
is_free _ = false

-- a writer without an epoch, one that asks for the promises, or one under an epoch
pub data Status (n : ℕ) (a : Tale) (past : List Entry) (c : ℕ) (v : WriterView) : Type 0 where
  free : is_free v.phase ≡ true → Status n a past c v
  asking : v.phase ≡ phase.InRound round.State → v.aim ≡ aim.Takeover → v.left ≡ replicate n false → Status n a past c v
  tracked : Tracked n a past c v → Status n a past c v

-- ## What leaves its takeover as it was leaves it
pub kept_on : (n c d : ℕ) (a b : Tale) (past next : List Entry) (v : WriterView) (h : Tracked n a past d v) → Continues c a past b next
    → b.story.takeover h.k ≡ a.story.takeover h.k → b.top h.k ≡ a.top h.k
    → ((old : List Entry) (e : Entry) → Earlier (e ∷ old) next → length past ≤ length old → IsInTurn e.move → b.story.whose (length old) ≡ h.k → ⊥) → Tracked n b next d v
kept_on n c d a b past next v h g same top fresh = record {
  k = h.k;
  known = omega (arith, h.known, g.tells.count);
  by = ap (λ (t : Takeover). t.caller) same ∙ h.by;
  follow = ap (λ (t : Takeover). list_all may_follow t.tasks) same ∙ h.follow;
  writer = h.writer;
  reaches = subst (λ (t : Takeover). Reaches n t (b.top h.k) h.writer) (sym same) (subst (λ (s : ℕ). Reaches n (a.story.takeover h.k) s h.writer) (sym top) h.reaches);
  stands = subst (λ (t : Takeover). Stands v h.writer (t.heard (b.top h.k))) (sym same) (subst (λ (s : ℕ). Stands v h.writer ((a.story.takeover h.k).heard s)) (sym top) h.stands);
  above = λ x l i. ap (λ (t : Takeover). t.heard x i) same ∙ h.above x (omega (arith, l, top)) i;
  heard = λ x i reply e. heard_later c a b past next h.k x i reply g (h.heard x i reply (ap (λ (t : Takeover). t.heard x i) (sym same) ∙ e));
  placed = λ old e p is turn. at old e p is turn (place_cases g.longer p);
}
  where
    at : (old : List Entry) (e : Entry) → Earlier (e ∷ old) next → b.story.whose (length old) ≡ h.k → IsInTurn e.move → (Earlier (e ∷ old) past) ⊎ (length past ≤ length old)
        → (b.story.round (length old) < b.top h.k) ⊎ ((b.story.round (length old) ≡ b.top h.k) × IsBefore v.phase v.slots e.node)
    at old e p is turn (inl q) =
        let lt : length old < length past = place_below e q in
        let r : b.story.round (length old) ≡ a.story.round (length old) = g.tells.round (length old) lt in
        elim (h.placed old e q (sym (g.tells.whose (length old) lt) ∙ is) turn) [
          | inl f ↦ inl (omega (arith, f, r, top))
          | inr f ↦ inr (r ∙ f.0 ∙ sym top, f.1)
        ]
    at old e p is turn (inr l) = absurd (fresh old e p l turn is)

beside : (n c d : ℕ) (a b : Tale) (past next : List Entry) (v : WriterView) → Continues c a past b next → d ≢ c → Tracked n a past d v → Tracked n b next d v
beside n c d a b past next v g off h = kept_on n c d a b past next v h g same (g.others h.k h.known not_his).1 fresh
  where
    not_his : (a.story.takeover h.k).caller ≢ c
    not_his e = off (sym h.by ∙ e)

    same : b.story.takeover h.k ≡ a.story.takeover h.k
    same = (g.others h.k h.known not_his).0

    fresh : (old : List Entry) (e : Entry) → Earlier (e ∷ old) next → length past ≤ length old → IsInTurn e.move → b.story.whose (length old) ≡ h.k → ⊥
    fresh old e p l turn is = not_his (sym (ap (λ (t : Takeover). t.caller) same) ∙ sym (ap (λ (k : ℕ). (b.story.takeover k).caller) is) ∙ g.fresh old e p l turn)

pub status_beside : (n c d : ℕ) (a b : Tale) (past next : List Entry) (v : WriterView) → Continues c a past b next → d ≢ c → Status n a past d v → Status n b next d v
status_beside n c d a b past next v g off (free e) = free e
status_beside n c d a b past next v g off (asking e f l) = asking e f l
status_beside n c d a b past next v g off (tracked h) = tracked (beside n c d a b past next v g off h)

-- ## An entry that is no call in its turn leaves all writers
unfoldable pub Quiet : ℕ → ℕ → Tale → List Entry → Entry → Type 0
Quiet n c a past e = (b : Tale) × IsTold n b (e ∷ past) × Continues c a past b (e ∷ past) × ((d : ℕ) (v : WriterView) → Status n a past d v → Status n b (e ∷ past) d v)

abbrev pub aside : Tale → List Entry → ℕ → ℕ → Tale
aside a past k s = labelled a (length past) k s (a.story.takeover k)

pub quiet_entry : (n c : ℕ) (a : Tale) (past : List Entry) (e : Entry) (k s : ℕ) → k ≤ a.count → s ≤ a.top k → (IsInTurn e.move → ⊥) → IsTold n a past
    → IsFairEntry n (aside a past k s).story past e → Quiet n c a past e
unfolding Quiet
quiet_entry n c a past e k s known within off told next = (aside a past k s, told_more n a (aside a past k s) past e goes.tells told label next, goes, stays)
  where
    goes : Continues c a past (aside a past k s) (e ∷ past)
    goes = labelled_continues c a past e k s (a.story.takeover k) (grows_not (a.top k) (a.story.takeover k)) (inr refl) (λ turn. absurd (off turn))

    whose_is : (aside a past k s).story.whose (length past) ≡ k
    whose_is = put_here a.story.whose (length past) k

    round_is : (aside a past k s).story.round (length past) ≡ s
    round_is = put_here a.story.round (length past) s

    label : IsLabelled (aside a past k s) past
    label = record { known = omega (arith, whose_is, known); within = subst (λ (j : ℕ). (aside a past k s).story.round (length past) ≤ a.top j) (sym whose_is) (omega (arith, round_is, within)) }

    fresh : (old : List Entry) (x : Entry) → Earlier (x ∷ old) (e ∷ past) → length past ≤ length old → IsInTurn x.move → ⊥
    fresh old x now l turn = off turn
    fresh old x (before p) l turn = omega (arith, place_below x p, l)

    stays : (d : ℕ) (v : WriterView) → Status n a past d v → Status n (aside a past k s) (e ∷ past) d v
    stays d v (free f) = free f
    stays d v (asking f g l) = asking f g l
    stays d v (tracked h) =
        tracked (kept_on n c d a (aside a past k s) past (e ∷ past) v h goes
        (put_same a.story.takeover k (a.story.takeover k) h.k (λ same. ap a.story.takeover (sym same))) refl
        (λ old x p l turn is. fresh old x p l turn))

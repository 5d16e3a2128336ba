-- A round is judged alike for writers that are alike but for what no round asks about.
use Rattle.std.proofs.Common.{◌≡◌, ℕ, ◌+◌, ◌-◌, ◌&&◌, List, [], ◌++◌, Bool, true, false, cond, refl, sym, ap, ◌∙◌, subst, length, map, set, take, nat_lt, Option, Some, None}
use Rattle.std.proofs.lemmas.List.{map-set}
use Rattle.journal_core.specs.Views.{BatchView}
use Rattle.journal_core.specs.declared.reply.Reply.TheVariants as reply
use Rattle.journal_core.specs.declared.heard.Heard.{Heard}
use Rattle.journal_core.specs.declared.heard.Heard.TheVariants.{Answer, Silent}
use Rattle.writer_core.specs.declared.round.Round.{Round}
use Rattle.writer_core.specs.declared.round.Round.TheVariants as round
use Rattle.writer_core.specs.declared.phase.Phase.{Phase}
use Rattle.writer_core.specs.declared.phase.Phase.TheVariants as phase
use Rattle.writer_core.specs.declared.phase.Aim.{Aim}
use Rattle.writer_core.specs.declared.phase.Aim.TheVariants as aim
use Rattle.writer_core.specs.declared.slot.Slot.{Slot}
use Rattle.writer_core.specs.declared.slot.Slot.TheVariants.{Waiting, LeftOut, Told}
use Rattle.writer_core.specs.declared.cause.Cause.{Cause}
use Rattle.writer_core.specs.Views.{WriterView}
use Rattle.writer_core.specs.Answers.{has_majority, fits_edits, cause_of}
use Rattle.writer_core.specs.Best.{Best, best_of, greatest_newest}
use Rattle.writer_core.specs.Rounds.{numbers_fit, left_out_after, Judgment, next_serial, with_causes, judgment_by, judgment, failure_of}
use Rattle.writer_core.specs.Rounds.{without_answer_of, after_edits, after_no_edits, after_fetch, after_propose, begin_recovery, after_finalize}
use Rattle.writer_core.specs.Rounds.{after_open, after_write}
use Rattle.writer_core.proofs.Plain.{plain_heard, plain_slot, plain_start, plain_next, plain, slots_twice, majority_plain, missed_plain, best_plain, newest_plain}

-- a round that is heard slot by slot, under an epoch
abbrev pub IsWhole : Round → Type 0
IsWhole round.State = ⊥
IsWhole (round.Fetch node start end bodies) = ⊥
IsWhole _ = Unit {0}

-- not the round before an epoch is proposed
abbrev pub IsUnderEpoch : Phase → Type 0
IsUnderEpoch (phase.InRound round.State) = ⊥
IsUnderEpoch _ = Unit {0}

-- alike in what rounds ask about, and under an epoch
abbrev pub IsAlike : WriterView → WriterView → Type 0
IsAlike v u = (plain v ≡ plain u) × IsUnderEpoch v.phase

abbrev at_phase : Phase → WriterView → WriterView
at_phase p w = record w { phase = p }

-- with other parts of nodes that are alike, and other numbers where they don't matter
abbrev pub parted : WriterView → ℕ → ℕ → List Cause → WriterView
parted w start next causes = record w { slots = map plain_slot w.slots; start = start; next = next; causes = causes }

-- ## What follows, case by case. What keeps the parts of the nodes keeps them plain.
kept : (w : WriterView) (xs ys : List Slot) → xs ≡ ys → record w { slots = xs } ≡ record w { slots = ys }
kept w xs ys e = ap (λ (l : List Slot). record w { slots = l }) e

proposed : (o : Option ℕ) (w : WriterView) (start next : ℕ) (causes : List Cause)
    → IsAlike (after_propose o (next_serial (with_causes round.Propose (parted w start next causes))))
    (after_propose o (next_serial (with_causes round.Propose w)))
proposed None w start next causes = (refl, tt)
proposed (Some at) w start next causes = (refl, tt)

recovered : (o : Option Best) (at : ℕ) (w : WriterView) (start next : ℕ) (causes : List Cause)
    → IsAlike (begin_recovery at o (next_serial (with_causes (round.Prepare at) (parted w start next causes))))
    (begin_recovery at o (next_serial (with_causes (round.Prepare at) w)))
recovered None at w start next causes = (refl, tt)
recovered (Some b) at w start next causes = (kept (plain (begin_recovery at (Some b) (next_serial (with_causes (round.Prepare at) w)))) _ _ (slots_twice w.slots), tt)

finalized : (a : Aim) (end : ℕ) (w : WriterView) (start next : ℕ) (causes : List Cause)
    → IsAlike (after_finalize a end (next_serial (parted w start next causes))).writer (after_finalize a end (next_serial w)).writer
finalized aim.Close end w start next causes = (kept (plain (after_finalize aim.Close end (next_serial w)).writer) _ _ (slots_twice w.slots), tt)
finalized aim.Takeover end w start next causes = (refl, tt)
finalized aim.Log end w start next causes = (refl, tt)
finalized aim.Roll end w start next causes = (refl, tt)
finalized aim.Purge end w start next causes = (refl, tt)

abbrev opened_with : WriterView → List Bool → WriterView
opened_with w left = record (next_serial w) { committed = w.start; next = w.start + 1; left = left }

opened : (a : Aim) (w : WriterView) (left : List Bool) (next : ℕ) (causes : List Cause)
    → IsAlike (after_open a (opened_with (parted w w.start next causes) left)).writer (after_open a (opened_with w left)).writer
opened aim.Close w left next causes = (kept (plain (after_open aim.Close (opened_with w left)).writer) _ _ (slots_twice w.slots), tt)
opened aim.Takeover w left next causes = (kept (plain (after_open aim.Takeover (opened_with w left)).writer) _ _ (slots_twice w.slots), tt)
opened aim.Log w left next causes = (kept (plain (after_open aim.Log (opened_with w left)).writer) _ _ (slots_twice w.slots), tt)
opened aim.Roll w left next causes = (kept (plain (after_open aim.Roll (opened_with w left)).writer) _ _ (slots_twice w.slots), tt)
opened aim.Purge w left next causes = (kept (plain (after_open aim.Purge (opened_with w left)).writer) _ _ (slots_twice w.slots), tt)

abbrev written_with : WriterView → ℕ → List Bool → WriterView
written_with w last left = record (next_serial w) { committed = last; next = last + 1; left = left }

written : (a : Aim) (first last : ℕ) (w : WriterView) (left : List Bool) (causes : List Cause)
    → IsAlike (after_write a first last (written_with (parted w w.start w.next causes) last left)).writer
    (after_write a first last (written_with w last left)).writer
written aim.Roll first last w left causes = (refl, tt)
written aim.Close first last w left causes = (refl, tt)
written aim.Takeover first last w left causes = (kept (plain (after_write aim.Takeover first last (written_with w last left)).writer) _ _ (slots_twice w.slots), tt)
written aim.Log first last w left causes = (kept (plain (after_write aim.Log first last (written_with w last left)).writer) _ _ (slots_twice w.slots), tt)
written aim.Purge first last w left causes = (kept (plain (after_write aim.Purge first last (written_with w last left)).writer) _ _ (slots_twice w.slots), tt)

-- ## A round that was judged
-- the first writer is another one, where this holds of what it is read for
swap : {A : Type 0} (f : A → WriterView) (v : WriterView) (x y : A) → x ≡ y → IsAlike (f y) v → IsAlike (f x) v
swap f v x y e h = subst (λ z. IsAlike (f z) v) (sym e) h

round_by : (b : Bool) (r : Round) (w : WriterView) → IsWhole r → IsAlike (judgment_by b r (plain (at_phase (phase.InRound r) w))).writer (judgment_by b r (at_phase (phase.InRound r) w)).writer
round_by false r w i = (kept (plain (judgment_by false r (at_phase (phase.InRound r) w)).writer) _ _ (slots_twice w.slots), tt)
round_by true round.State w i = absurd i
round_by true (round.Fetch node start end bodies) w i = absurd i
round_by true round.Propose w i =
    swap (λ (o : Option ℕ). after_propose o (next_serial (with_causes round.Propose (plain (at_phase (phase.InRound round.Propose) w)))))
    (after_propose (greatest_newest w.slots) (next_serial (with_causes round.Propose (at_phase (phase.InRound round.Propose) w)))) _ _
    (newest_plain w.slots)
    (proposed (greatest_newest w.slots) (at_phase (phase.InRound round.Propose) w) 0 0 [])
round_by true (round.Prepare start) w i =
    swap (λ (o : Option Best). begin_recovery start o (next_serial (with_causes (round.Prepare start)
    (plain (at_phase (phase.InRound (round.Prepare start)) w)))))
    (begin_recovery start (best_of start w.slots) (next_serial (with_causes (round.Prepare start)
    (at_phase (phase.InRound (round.Prepare start)) w)))) _ _ (best_plain start 1 w.slots)
    (recovered (best_of start w.slots) start (at_phase (phase.InRound (round.Prepare start)) w) 0 0 [])
round_by true (round.Accept batch) w i = (refl, tt)
round_by true (round.Finalize start end) w i =
    let r : Round = round.Finalize start end in
    finalized w.aim end (with_causes r (at_phase (phase.InRound r) w)) 0 0 (map (cause_of (numbers_fit (plain (at_phase (phase.InRound r) w)) r) r) (map plain_slot w.slots))
round_by true round.Start w i = (
  ap (λ (left : List Bool). plain (record (judgment_by true round.Start (at_phase (phase.InRound round.Start) w)).writer {
    left = left;
    slots = map (λ l. cond l LeftOut Waiting) left;
  })) (missed_plain round.Start w.slots),
  tt,
)
round_by true round.Open w i =
    let v : WriterView = with_causes round.Open (at_phase (phase.InRound round.Open) w) in
    let causes : List Cause = map (cause_of (numbers_fit (plain (at_phase (phase.InRound round.Open) w)) round.Open) round.Open) (map plain_slot w.slots) in
    swap (λ (left : List Bool). (after_open w.aim (opened_with (parted v w.start 0 causes) left)).writer)
    (after_open w.aim (opened_with v (left_out_after round.Open w.slots))).writer _ _ (missed_plain round.Open w.slots)
    (opened w.aim v (left_out_after round.Open w.slots) 0 causes)
round_by true (round.Write bodies) w i =
    let r : Round = round.Write bodies in
    let v : WriterView = with_causes r (at_phase (phase.InRound r) w) in
    let causes : List Cause = map (cause_of (numbers_fit (plain (at_phase (phase.InRound r) w)) r) r) (map plain_slot w.slots) in
    let last : ℕ = w.next + length bodies - 1 in
    swap (λ (left : List Bool). (after_write w.aim w.next last (written_with (parted v w.start w.next causes) last left)).writer)
    (after_write w.aim w.next last (written_with v last (left_out_after r w.slots))).writer _ _ (missed_plain r w.slots)
    (written w.aim w.next last v (left_out_after r w.slots) causes)
round_by true (round.Purge min) w i = (kept (plain (judgment_by true (round.Purge min) (at_phase (phase.InRound (round.Purge min)) w)).writer) _ _ (slots_twice w.slots), tt)

-- the test of a round reads the numbers and the parts that count
test_alike : (r : Round) (w : WriterView) → IsWhole r
    → (numbers_fit (plain (at_phase (phase.InRound r) w)) r && has_majority r (map plain_slot w.slots)) ≡ (numbers_fit (at_phase (phase.InRound r) w) r && has_majority r w.slots)
test_alike round.State w i = absurd i
test_alike (round.Fetch node start end bodies) w i = absurd i
test_alike round.Propose w i = ap (λ (b : Bool). numbers_fit (at_phase (phase.InRound round.Propose) w) round.Propose && b) (majority_plain round.Propose w.slots)
test_alike (round.Prepare start) w i = ap (λ (b : Bool). numbers_fit (at_phase (phase.InRound (round.Prepare start)) w) (round.Prepare start) && b) (majority_plain (round.Prepare start) w.slots)
test_alike (round.Accept batch) w i = ap (λ (b : Bool). numbers_fit (at_phase (phase.InRound (round.Accept batch)) w) (round.Accept batch) && b) (majority_plain (round.Accept batch) w.slots)
test_alike (round.Finalize start end) w i = ap (λ (b : Bool). numbers_fit (at_phase (phase.InRound (round.Finalize start end)) w)
    (round.Finalize start end) && b) (majority_plain (round.Finalize start end) w.slots)
test_alike round.Start w i = ap (λ (b : Bool). numbers_fit (at_phase (phase.InRound round.Start) w) round.Start && b) (majority_plain round.Start w.slots)
test_alike round.Open w i = ap (λ (b : Bool). numbers_fit (at_phase (phase.InRound round.Open) w) round.Open && b) (majority_plain round.Open w.slots)
test_alike (round.Write bodies) w i = ap (λ (b : Bool). numbers_fit (at_phase (phase.InRound (round.Write bodies)) w) (round.Write bodies) && b) (majority_plain (round.Write bodies) w.slots)
test_alike (round.Purge min) w i = ap (λ (b : Bool). numbers_fit (at_phase (phase.InRound (round.Purge min)) w) (round.Purge min) && b) (majority_plain (round.Purge min) w.slots)

judged_plain : (r : Round) (w : WriterView) → IsWhole r → IsAlike (judgment r (plain (at_phase (phase.InRound r) w))).writer (judgment r (at_phase (phase.InRound r) w)).writer
unfolding judgment
judged_plain r w i =
    swap (λ (b : Bool). (judgment_by b r (plain (at_phase (phase.InRound r) w))).writer)
    (judgment_by (numbers_fit (at_phase (phase.InRound r) w) r && has_majority r w.slots) r (at_phase (phase.InRound r) w)).writer _ _
    (test_alike r w i)
    (round_by (numbers_fit (at_phase (phase.InRound r) w) r && has_majority r w.slots) r w i)

-- ## For two writers that are alike
phase_same : (p : Phase) (w : WriterView) → w.phase ≡ p → w ≡ at_phase p w
phase_same p w e = ap (λ (q : Phase). record w { phase = q }) e

pub alike_phase : (v u : WriterView) → plain v ≡ plain u → v.phase ≡ u.phase
alike_phase v u e = ap (λ (w : WriterView). w.phase) e

alike_sym : (v u : WriterView) → IsAlike v u → IsAlike u v
alike_sym v u h = (sym h.0, subst IsUnderEpoch (alike_phase v u h.0) h.1)

alike_trans : (v u w : WriterView) → IsAlike v u → IsAlike u w → IsAlike v w
alike_trans v u w h g = (h.0 ∙ g.0, h.1)

-- what is alike at the plain writer is alike at both
pub by_plain : (f : WriterView → WriterView) (p : Phase) → ((w : WriterView) → IsAlike (f (plain (at_phase p w))) (f (at_phase p w)))
    → (v u : WriterView) → v.phase ≡ p → plain v ≡ plain u → IsAlike (f v) (f u)
by_plain f p h v u e same = alike_trans (f v) (f (plain v)) (f u) (alike_sym (f (plain v)) (f v) (one v e))
    (subst (λ (w : WriterView). IsAlike (f w) (f u)) (sym same) (one u (sym (alike_phase v u same) ∙ e)))
  where
    one : (w : WriterView) → w.phase ≡ p → IsAlike (f (plain w)) (f w)
    one w is = subst (λ (x : WriterView). IsAlike (f (plain x)) (f x)) (sym (phase_same p w is)) (h w)

pub judged_alike : (r : Round) (v u : WriterView) → IsWhole r → v.phase ≡ phase.InRound r → plain v ≡ plain u → IsAlike (judgment r v).writer (judgment r u).writer
judged_alike r v u i e same = by_plain (λ (w : WriterView). (judgment r w).writer) (phase.InRound r) (λ w. judged_plain r w i) v u e same

-- ## A piece that was heard
-- without edits, a node is taken out of the count, whatever it answered
lost_plain : (h : Heard) → plain_slot (Told (failure_of h)) ≡ Told Silent
lost_plain Silent = refl
lost_plain (Answer (reply.Refused f)) = refl
lost_plain (Answer _) = refl

abbrev prepared : ℕ → WriterView → Judgment
prepared start w = judgment_by (has_majority (round.Prepare start) w.slots) (round.Prepare start) w

prepared_by : (b : Bool) (start : ℕ) (p : Phase) (w : WriterView) → IsAlike (judgment_by b (round.Prepare start) (plain (at_phase p w))).writer
    (judgment_by b (round.Prepare start) (at_phase p w)).writer
prepared_by false start p w = (kept (plain (judgment_by false (round.Prepare start) (at_phase p w)).writer) _ _ (slots_twice w.slots), tt)
prepared_by true start p w =
    let r : Round = round.Prepare start in
    swap (λ (o : Option Best). begin_recovery start o (next_serial (with_causes r (plain (at_phase p w)))))
    (begin_recovery start (best_of start w.slots) (next_serial (with_causes r (at_phase p w)))) _ _ (best_plain start 1 w.slots)
    (recovered (best_of start w.slots) start (at_phase p w) (plain_start p w.start) (plain_next p w.next) [])

prepared_plain : (start : ℕ) (p : Phase) (w : WriterView) → IsAlike (prepared start (plain (at_phase p w))).writer (prepared start (at_phase p w)).writer
prepared_plain start p w =
    swap (λ (b : Bool). (judgment_by b (round.Prepare start) (plain (at_phase p w))).writer) (prepared start (at_phase p w)).writer _ _ (majority_plain (round.Prepare start) w.slots)
    (prepared_by (has_majority (round.Prepare start) w.slots) start p w)

prepared_alike : (start : ℕ) (v u : WriterView) → plain v ≡ plain u → IsAlike (prepared start v).writer (prepared start u).writer
prepared_alike start v u same = by_plain (λ (w : WriterView). (prepared start w).writer) v.phase (λ w. prepared_plain start v.phase w) v u refl same

told_alike : (xs : List Slot) (i : ℕ) (h : Heard) → map plain_slot (set xs i (Told (failure_of h))) ≡ set (map plain_slot xs) i (Told Silent)
told_alike xs i h = map-set plain_slot xs i (Told (failure_of h)) ∙ ap (λ (x : Slot). set (map plain_slot xs) i x) (lost_plain h)

taken_alike : (node : ℕ) (h g : Heard) (v u : WriterView) → plain v ≡ plain u → plain (without_answer_of node h v) ≡ plain (without_answer_of node g u)
taken_alike node h g v u same =
    ap (λ (l : List Slot). record (plain v) { slots = l }) (told_alike v.slots (node - 1) h)
    ∙ ap (λ (w : WriterView). record w { slots = set w.slots (node - 1) (Told Silent) }) same
    ∙ sym (ap (λ (l : List Slot). record (plain u) { slots = l }) (told_alike u.slots (node - 1) g))

pub lost_alike : (node start : ℕ) (h g : Heard) (v u : WriterView) → plain v ≡ plain u → IsAlike (after_no_edits node start h v).writer (after_no_edits node start g u).writer
lost_alike node start h g v u same = prepared_alike start (without_answer_of node h v) (without_answer_of node g u) (taken_alike node h g v u same)

abbrev get : ℕ → ℕ → ℕ → List (List ℕ) → Phase
get node start end bodies = phase.InRound (round.Fetch node start end bodies)

pieced_plain : (b : Bool) (node start end : ℕ) (bodies : List (List ℕ)) (p : Phase) (w : WriterView)
    → IsAlike (cond b (record (plain (at_phase p w)) {
      phase = phase.InRound (round.Accept (record { first = start; bodies = bodies }));
      slots = map (λ l. Waiting) w.left;
    }) (at_phase (get node start end bodies) (plain (at_phase p w))))
    (cond b (record (at_phase p w) { phase = phase.InRound (round.Accept (record { first = start; bodies = bodies })); slots = map (λ l. Waiting) w.left }) (at_phase (get node start end bodies) w))
pieced_plain true node start end bodies p w = (refl, tt)
pieced_plain false node start end bodies p w = (kept (plain (at_phase (get node start end bodies) w)) _ _ (slots_twice w.slots), tt)

edits_plain : (b : Bool) (node start end : ℕ) (bodies : List (List ℕ)) (batch : BatchView) (w : WriterView)
    → IsAlike (after_edits b node start end bodies batch (plain (at_phase (get node start end bodies) w))).writer
    (after_edits b node start end bodies batch (at_phase (get node start end bodies) w)).writer
edits_plain true node start end bodies batch w =
    let more : List (List ℕ) = bodies ++ take (end + 1 - (start + length bodies)) batch.bodies in
    pieced_plain (nat_lt end (start + length more)) node start end more (get node start end bodies) (next_serial w)
edits_plain false node start end bodies batch w =
    lost_alike node start Silent Silent (plain (at_phase (get node start end bodies) w)) (at_phase (get node start end bodies) w)
    (kept (plain (at_phase (get node start end bodies) w)) _ _ (slots_twice w.slots))

edits_alike : (node start end : ℕ) (bodies : List (List ℕ)) (batch : BatchView) (v u : WriterView) → v.phase ≡ get node start end bodies → plain v ≡ plain u
    → IsAlike (after_fetch node start end bodies (Answer (reply.Edits batch)) v).writer (after_fetch node start end bodies (Answer (reply.Edits batch)) u).writer
unfolding after_fetch
edits_alike node start end bodies batch v u e same =
    by_plain (λ (w : WriterView). (after_fetch node start end bodies (Answer (reply.Edits batch)) w).writer) (get node start end bodies)
    (λ w. edits_plain (numbers_fit w (round.Fetch node start end bodies) && fits_edits (start + length bodies) batch) node start end bodies batch w) v u e same

-- a piece is heard alike where both heard the same, or a refusal and nothing
pub fetched_alike : (node start end : ℕ) (bodies : List (List ℕ)) (h g : Heard) (v u : WriterView) → v.phase ≡ get node start end bodies → plain v ≡ plain u → plain_heard h ≡ plain_heard g
    → IsAlike (after_fetch node start end bodies h v).writer (after_fetch node start end bodies g u).writer
unfolding after_fetch
fetched_alike node start end bodies h g v u e same eq = go h g eq
  where
    lost : Heard → Heard → Type 0
    lost x y = IsAlike (after_no_edits node start x v).writer (after_no_edits node start y u).writer

    go : (x y : Heard) → plain_heard x ≡ plain_heard y → IsAlike (after_fetch node start end bodies x v).writer (after_fetch node start end bodies y u).writer
    go (Answer (reply.Edits a)) (Answer (reply.Edits b)) i =
        let one : a ≡ b = cc i in
        subst (λ (z : BatchView). IsAlike (after_fetch node start end bodies (Answer (reply.Edits a)) v).writer (after_fetch node start end bodies (Answer (reply.Edits z)) u).writer) one
        (edits_alike node start end bodies a v u e same)
    go (Answer (reply.Edits a)) Silent i = absurd (cc i)
    go (Answer (reply.Edits a)) (Answer (reply.Refused f)) i = absurd (cc i)
    go (Answer (reply.Edits a)) (Answer _) i = absurd (cc i)
    go Silent (Answer (reply.Edits b)) i = absurd (cc i)
    go (Answer (reply.Refused f)) (Answer (reply.Edits b)) i = absurd (cc i)
    go (Answer _) (Answer (reply.Edits b)) i = absurd (cc i)
    go Silent Silent i = lost_alike node start Silent Silent v u same
    go Silent (Answer y) i = lost_alike node start Silent (Answer y) v u same
    go (Answer x) Silent i = lost_alike node start (Answer x) Silent v u same
    go (Answer x) (Answer y) i = lost_alike node start (Answer x) (Answer y) v u same

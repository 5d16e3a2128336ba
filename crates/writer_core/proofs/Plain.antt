-- A writer without what no round asks about: why an answer doesn't count, the causes, and numbers
-- that are set anew before they are used.
use Rattle.std.proofs.Common.{◌≡◌, ℕ, ◌+◌, ◌*◌, List, [], ◌∷◌, Bool, false, cond, not, refl, sym, ap, ◌∙◌, length, map, nat_lt, Option}
use Rattle.std.specs.List.{count_by, fold}
use Rattle.std.proofs.lemmas.List.{length-map}
use Rattle.journal_core.specs.declared.segment_info.SegmentInfo.{SegmentInfo}
use Rattle.journal_core.specs.declared.refusal.Refusal.{Refusal}
use Rattle.journal_core.specs.declared.reply.Reply.TheVariants as reply
use Rattle.journal_core.specs.declared.heard.Heard.{Heard}
use Rattle.journal_core.specs.declared.heard.Heard.TheVariants.{Answer, Silent}
use Rattle.writer_core.specs.declared.round.Round.{Round}
use Rattle.writer_core.specs.declared.round.Round.TheVariants as round
use Rattle.writer_core.specs.declared.phase.Phase.{Phase}
use Rattle.writer_core.specs.declared.phase.Phase.TheVariants as phase
use Rattle.writer_core.specs.declared.slot.Slot.{Slot}
use Rattle.writer_core.specs.declared.slot.Slot.TheVariants.{Waiting, LeftOut, Told}
use Rattle.writer_core.specs.Views.{WriterView}
use Rattle.writer_core.specs.Answers.{fits_round, is_ok, has_majority}
use Rattle.writer_core.specs.Best.{Best, better, told_by, segment_in, best_from, newest_in, greater, greatest_newest}
use Rattle.writer_core.specs.Rounds.{left_out_after}

-- a refusal counts as hearing nothing
abbrev pub plain_heard : Heard → Heard
plain_heard (Answer (reply.Refused f)) = Silent
plain_heard h = h

abbrev pub plain_slot : Slot → Slot
plain_slot (Told h) = Told (plain_heard h)
plain_slot Waiting = Waiting
plain_slot LeftOut = LeftOut

-- The segment's start is read from the `start` round on, and the next txid while the writer writes.
abbrev pub plain_start : Phase → ℕ → ℕ
plain_start phase.Writing start = start
plain_start (phase.InRound round.Start) start = start
plain_start (phase.InRound round.Open) start = start
plain_start (phase.InRound (round.Write bodies)) start = start
plain_start (phase.InRound (round.Purge min)) start = start
plain_start _ start = 0

abbrev pub plain_next : Phase → ℕ → ℕ
plain_next phase.Writing next = next
plain_next (phase.InRound (round.Write bodies)) next = next
plain_next (phase.InRound (round.Purge min)) next = next
plain_next _ next = 0

abbrev pub plain : WriterView → WriterView
plain w = record w { start = plain_start w.phase w.start; next = plain_next w.phase w.next; slots = map plain_slot w.slots; causes = [] }

-- ## Twice plain is plain
heard_twice : (h : Heard) → plain_heard (plain_heard h) ≡ plain_heard h
heard_twice Silent = refl
heard_twice (Answer (reply.Refused f)) = refl
heard_twice (Answer _) = refl

slot_twice : (x : Slot) → plain_slot (plain_slot x) ≡ plain_slot x
slot_twice (Told h) = ap Told (heard_twice h)
slot_twice Waiting = refl
slot_twice LeftOut = refl

pub cons_same : {A : Type 0} (x y : A) (xs ys : List A) → x ≡ y → xs ≡ ys → ◌≡◌ {A = List A} (x ∷ xs) (y ∷ ys)
cons_same x y xs ys e f = cc

pub slots_twice : (xs : List Slot) → map plain_slot (map plain_slot xs) ≡ map plain_slot xs
slots_twice [] = refl
slots_twice (x ∷ xs) = cons_same (plain_slot (plain_slot x)) (plain_slot x) (map plain_slot (map plain_slot xs)) (map plain_slot xs) (slot_twice x) (slots_twice xs)

-- ## Plain parts count alike
refused_unfit : (r : Round) (f : Refusal) → fits_round r (reply.Refused f) ≡ false
refused_unfit round.State f = refl
refused_unfit round.Propose f = refl
refused_unfit (round.Prepare start) f = refl
refused_unfit (round.Fetch node start end bodies) f = refl
refused_unfit (round.Accept batch) f = refl
refused_unfit (round.Finalize start end) f = refl
refused_unfit round.Start f = refl
refused_unfit round.Open f = refl
refused_unfit (round.Write bodies) f = refl
refused_unfit (round.Purge min) f = refl

ok_plain : (r : Round) (x : Slot) → is_ok r (plain_slot x) ≡ is_ok r x
ok_plain r Waiting = refl
ok_plain r LeftOut = refl
ok_plain r (Told Silent) = refl
ok_plain r (Told (Answer (reply.Refused f))) = sym (refused_unfit r f)
ok_plain r (Told (Answer _)) = refl

folded : (r : Round) (n : ℕ) (xs : List Slot) → fold (λ m x. m + cond (is_ok r x) 1 0) n (map plain_slot xs) ≡ fold (λ m x. m + cond (is_ok r x) 1 0) n xs
folded r n [] = refl
folded r n (x ∷ xs) =
    ap (λ (b : Bool). fold (λ m y. m + cond (is_ok r y) 1 0) (n + cond b 1 0) (map plain_slot xs)) (ok_plain r x)
    ∙ folded r (n + cond (is_ok r x) 1 0) xs

pub count_plain : (r : Round) (xs : List Slot) → count_by (is_ok r) (map plain_slot xs) ≡ count_by (is_ok r) xs
count_plain r xs = folded r 0 xs

pub majority_plain : (r : Round) (xs : List Slot) → has_majority r (map plain_slot xs) ≡ has_majority r xs
majority_plain r xs = by (count_by (is_ok r) (map plain_slot xs)) (length (map plain_slot xs)) (count_plain r xs) (length-map xs plain_slot)
  where
    by : (a b : ℕ) → a ≡ count_by (is_ok r) xs → b ≡ length xs → nat_lt b (2 * a) ≡ nat_lt (length xs) (2 * count_by (is_ok r) xs)
    by a b e f = ap (λ (x : ℕ). nat_lt x (2 * a)) f ∙ ap (λ (x : ℕ). nat_lt (length xs) (2 * x)) e

pub missed_plain : (r : Round) (xs : List Slot) → left_out_after r (map plain_slot xs) ≡ left_out_after r xs
missed_plain r [] = refl
missed_plain r (x ∷ xs) = cons_same (not (is_ok r (plain_slot x))) (not (is_ok r x)) (left_out_after r (map plain_slot xs)) (left_out_after r xs) (ap not (ok_plain r x)) (missed_plain r xs)

segment_plain : (start : ℕ) (x : Slot) → segment_in start (plain_slot x) ≡ segment_in start x
segment_plain start Waiting = refl
segment_plain start LeftOut = refl
segment_plain start (Told Silent) = refl
segment_plain start (Told (Answer (reply.Refused f))) = refl
segment_plain start (Told (Answer _)) = refl

pub best_plain : (start node : ℕ) (xs : List Slot) → best_from start node (map plain_slot xs) ≡ best_from start node xs
unfolding best_from
best_plain start node [] = refl
best_plain start node (x ∷ xs) =
    ap (λ (o : Option SegmentInfo). better (told_by node o) (best_from start (node + 1) (map plain_slot xs))) (segment_plain start x)
    ∙ ap (λ (o : Option Best). better (told_by node (segment_in start x)) o) (best_plain start (node + 1) xs)

newest_one : (x : Slot) → newest_in (plain_slot x) ≡ newest_in x
newest_one Waiting = refl
newest_one LeftOut = refl
newest_one (Told Silent) = refl
newest_one (Told (Answer (reply.Refused f))) = refl
newest_one (Told (Answer _)) = refl

pub newest_plain : (xs : List Slot) → greatest_newest (map plain_slot xs) ≡ greatest_newest xs
unfolding greatest_newest
newest_plain [] = refl
newest_plain (x ∷ xs) =
    ap (λ (o : Option ℕ). greater o (greatest_newest (map plain_slot xs))) (newest_one x)
    ∙ ap (λ (o : Option ℕ). greater (newest_in x) o) (newest_plain xs)

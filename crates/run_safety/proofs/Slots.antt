-- The nodes' parts in a round: what was heard from whom, who answered with the Ok kind, and what
-- the best and the newest told are.
use Rattle.std.proofs.Common.{◌≡◌, ℕ, zero, suc, ◌+◌, ◌-◌, ◌*◌, ◌<◌, ◌≤◌, max, ◌⊎◌, ◌==◌, ◌&&◌, ◌||◌, Bool, true, false, not, List, [], ◌∷◌, length}
use Rattle.std.proofs.Common.{Option, Some, None, refl, inl, inr, arith, subst, sym, ap, ◌∙◌, cond, nat_lt}
use Rattle.std.specs.Prelude.{get_or, replicate, slice_set}
use Rattle.std.specs.List.{filter, count_by}
use Rattle.std.proofs.lemmas.Bool.{cond_both, cases_Bool, cases_lt, cases_eq, cond-true, cond-false, eqb-true, eqb-false, ltb-true, ltb-false, and_parts, or_parts, or_cases, and_cases}
use Rattle.std.proofs.lemmas.List.Sums.{length-filter}
use Rattle.journal_core.specs.declared.segment_info.SegmentInfo.{SegmentInfo}
use Rattle.journal_core.specs.declared.reply.Reply.{Reply}
use Rattle.journal_core.specs.declared.reply.Reply.TheVariants.{NewEpoch as EpochTaken}
use Rattle.journal_core.specs.declared.heard.Heard.TheVariants.{Answer, Silent}
use Rattle.writer_core.specs.declared.round.Round.{Round}
use Rattle.writer_core.specs.declared.slot.Slot.{Slot}
use Rattle.writer_core.specs.declared.slot.Slot.TheVariants.{Waiting, LeftOut, Told}
use Rattle.writer_core.specs.Answers.{is_ok, fits_round, has_majority}
use Rattle.writer_core.specs.Best.{outranks, Best, better, told_by, segment_in, best_from, greater, newest_in, greatest_newest}
use Rattle.writer_core.specs.Rounds.{to_all, to_others}
use Rattle.writer_core.specs.Whole.{heard_of, fill_slots}
use Rattle.run_safety.specs.Majority.{Member, Distinct, IsMajority}

pub none≢some : {A : Type 0} {P : Type 0} (x : A) → ◌≡◌ {A = Option A} None (Some x) → P
none≢some x e = cc

pub some_same : {A : Type 0} {x y : A} → ◌≡◌ {A = Option A} (Some x) (Some y) → x ≡ y
some_same e = cc

pub true≢false : {P : Type 0} → true ≡ false → P
true≢false e = cc

-- ## Which node has which part
-- of the nodes from this one on, that node has that part
abbrev pub At : ℕ → List Slot → ℕ → Slot → Type 0
At first [] node slot = ⊥
At first (x ∷ xs) node slot = ((first ≡ node) × (x ≡ slot)) ⊎ At (first + 1) xs node slot

pub At-range : (first : ℕ) (xs : List Slot) (node : ℕ) (slot : Slot) → At first xs node slot → (first ≤ node) × (node < first + length xs)
At-range first [] node slot a = absurd a
At-range first (x ∷ xs) node slot (inl a) = (omega (arith, a.0), omega (arith, a.0))
At-range first (x ∷ xs) node slot (inr a) = let r = At-range (first + 1) xs node slot a in (omega (arith, r.0), omega (arith, r.1))

pub At-set : (first place node : ℕ) (xs : List Slot) (y slot : Slot) → At first (slice_set xs place y) node slot → ((node ≡ first + place) × (slot ≡ y)) ⊎ At first xs node slot
At-set first place node [] y slot a = absurd a
At-set first zero node (x ∷ xs) y slot (inl a) = inl (omega (arith, a.0), sym a.1)
At-set first zero node (x ∷ xs) y slot (inr a) = inr (inr a)
At-set first (suc place) node (x ∷ xs) y slot (inl a) = inr (inl a)
At-set first (suc place) node (x ∷ xs) y slot (inr a) = elim (At-set (first + 1) place node xs y slot a) [
  | inl b ↦ inl (omega (arith, b.0), b.1)
  | inr b ↦ inr (inr b)
]

-- a part that was replaced
pub At-replaced : (at node : ℕ) (xs : List Slot) (y slot : Slot) → At 1 (slice_set xs (at - 1) y) node slot → (slot ≡ y) ⊎ At 1 xs node slot
At-replaced at node xs y slot a = elim (At-set 1 (at - 1) node xs y slot a) [ inl b ↦ inl b.1 | inr b ↦ inr b ]

-- ## A round that was heard
-- no part has an answer yet
abbrev pub IsFresh : List Slot → Type 0
IsFresh [] = Unit {0}
IsFresh (Waiting ∷ xs) = IsFresh xs
IsFresh (LeftOut ∷ xs) = IsFresh xs
IsFresh (Told h ∷ xs) = ⊥

-- all nodes are to be called
abbrev pub AllWait : List Slot → Type 0
AllWait [] = Unit {0}
AllWait (Waiting ∷ xs) = AllWait xs
AllWait (LeftOut ∷ xs) = ⊥
AllWait (Told h ∷ xs) = ⊥

pub all_fresh : (xs : List Slot) → AllWait xs → IsFresh xs
all_fresh [] a = tt
all_fresh (Waiting ∷ xs) a = all_fresh xs a
all_fresh (LeftOut ∷ xs) a = absurd a
all_fresh (Told h ∷ xs) a = absurd a

pub to_all_wait : (left : List Bool) → AllWait (to_all left)
to_all_wait [] = tt
to_all_wait (l ∷ left) = to_all_wait left

pub to_others_fresh : (left : List Bool) → IsFresh (to_others left)
to_others_fresh [] = tt
to_others_fresh (true ∷ left) = to_others_fresh left
to_others_fresh (false ∷ left) = to_others_fresh left

pub filled_length : (first : ℕ) (heard : ℕ → Option Reply) (xs : List Slot) → length (fill_slots first heard xs) ≡ length xs
unfolding fill_slots
filled_length first heard [] = refl
filled_length first heard (Waiting ∷ xs) = let r = filled_length (first + 1) heard xs in omega (arith, r)
filled_length first heard (LeftOut ∷ xs) = let r = filled_length (first + 1) heard xs in omega (arith, r)
filled_length first heard (Told h ∷ xs) = let r = filled_length (first + 1) heard xs in omega (arith, r)

told_answer : (o : Option Reply) (reply : Reply) → ◌≡◌ {A = Slot} (Told (heard_of o)) (Told (Answer reply)) → o ≡ Some reply
told_answer None reply e = let h : Silent ≡ Answer reply = cc in cc
told_answer (Some x) reply e = let h : Answer x ≡ Answer reply = cc in cc

-- an answer in a round that was heard is what was heard
pub filled_heard : (first : ℕ) (heard : ℕ → Option Reply) (xs : List Slot) → IsFresh xs → (node : ℕ) (reply : Reply)
    → At first (fill_slots first heard xs) node (Told (Answer reply)) → heard node ≡ Some reply
unfolding fill_slots
filled_heard first heard [] f node reply a = absurd a
filled_heard first heard (Waiting ∷ xs) f node reply (inl a) = ap heard (sym a.0) ∙ told_answer (heard first) reply a.1
filled_heard first heard (Waiting ∷ xs) f node reply (inr a) = filled_heard (first + 1) heard xs f node reply a
filled_heard first heard (LeftOut ∷ xs) f node reply (inl a) = let no : LeftOut ≡ Told (Answer reply) = a.1 in cc
filled_heard first heard (LeftOut ∷ xs) f node reply (inr a) = filled_heard (first + 1) heard xs f node reply a
filled_heard first heard (Told h ∷ xs) f node reply a = absurd f

-- what was heard in a round to all stands in it
pub filled_all : (first : ℕ) (heard : ℕ → Option Reply) (xs : List Slot) → AllWait xs → (node : ℕ) (reply : Reply) → first ≤ node
    → node < first + length xs → heard node ≡ Some reply → At first (fill_slots first heard xs) node (Told (Answer reply))
unfolding fill_slots
filled_all first heard [] f node reply le lt h = absurd (omega arith)
filled_all first heard (Waiting ∷ xs) f node reply le lt h = elim (cases_eq first node) [
  | inl same ↦ inl (same, ap (λ o. Told (heard_of o)) (ap heard same ∙ h))
  | inr other ↦ inr (filled_all (first + 1) heard xs f node reply (omega arith) (omega arith) h)
]
filled_all first heard (LeftOut ∷ xs) f node reply le lt h = absurd f
filled_all first heard (Told x ∷ xs) f node reply le lt h = absurd f

-- ## Who answered with the Ok kind
abbrev pub ok_from : Round → ℕ → List Slot → List ℕ
ok_from r first [] = []
ok_from r first (x ∷ xs) = cond (is_ok r x) (first ∷ ok_from r (first + 1) xs) (ok_from r (first + 1) xs)

pub in_ok : (r : Round) (first : ℕ) (xs : List Slot) (node : ℕ) → Member node (ok_from r first xs) → (slot : Slot) × At first xs node slot × (is_ok r slot ≡ true)
in_ok r first [] node m = absurd m
in_ok r first (x ∷ xs) node m =
    cond_both (is_ok r x) (first ∷ ok_from r (first + 1) xs) (ok_from r (first + 1) xs) (λ ns. Member node ns → (slot : Slot) × At first (x ∷ xs) node slot × (is_ok r slot ≡ true))
    (λ t. elim [ inl same ↦ (x, inl (same, refl), t) | inr k ↦ later (in_ok r (first + 1) xs node k) ]) (λ f k. later (in_ok r (first + 1) xs node k)) m
  where
    later : (slot : Slot) × At (first + 1) xs node slot × (is_ok r slot ≡ true) → (slot : Slot) × At first (x ∷ xs) node slot × (is_ok r slot ≡ true)
    later y = (y.0, inr y.1, y.2)

ok_distinct : (r : Round) (first : ℕ) (xs : List Slot) → Distinct (ok_from r first xs)
ok_distinct r first [] = tt
ok_distinct r first (x ∷ xs) =
    cond_both (is_ok r x) (first ∷ ok_from r (first + 1) xs) (ok_from r (first + 1) xs) (λ ns. Distinct ns)
    (λ t. (not_first, ok_distinct r (first + 1) xs)) (λ f. ok_distinct r (first + 1) xs)
  where
    not_first : Member first (ok_from r (first + 1) xs) → ⊥
    not_first k = let y = in_ok r (first + 1) xs first k in let range = At-range (first + 1) xs first y.0 y.1 in omega (arith, range.0)

pub ok_count : (r : Round) (first : ℕ) (xs : List Slot) → length (ok_from r first xs) ≡ length (filter (is_ok r) xs)
ok_count r first [] = refl
ok_count r first (x ∷ xs) = elim (cases_Bool (is_ok r x)) [
  | inl t ↦ ap length (cond-true (is_ok r x) (first ∷ ok_from r (first + 1) xs) (ok_from r (first + 1) xs) t)
      ∙ (let again : length (ok_from r (first + 1) xs) ≡ length (filter (is_ok r) xs) = ok_count r (first + 1) xs in
      let one : length (first ∷ ok_from r (first + 1) xs) ≡ length (x ∷ filter (is_ok r) xs) = omega arith in one)
      ∙ sym (ap length (cond-true (is_ok r x) (x ∷ filter (is_ok r) xs) (filter (is_ok r) xs) t))
  | inr f ↦ ap length (cond-false (is_ok r x) (first ∷ ok_from r (first + 1) xs) (ok_from r (first + 1) xs) f)
      ∙ (ok_count r (first + 1) xs ∙ sym (ap length (cond-false (is_ok r x) (x ∷ filter (is_ok r) xs) (filter (is_ok r) xs) f)))
]

pub ok_majority : (n : ℕ) (r : Round) (xs : List Slot) → length xs ≡ n → has_majority r xs ≡ true → IsMajority n (ok_from r 1 xs)
ok_majority n r xs len h = record {
  distinct = ok_distinct r 1 xs;
  within = λ node m. (let y = in_ok r 1 xs node m in let range = At-range 1 xs node y.0 y.1 in (range.0, omega (arith, range.1)));
  more = (let lt : length xs < 2 * count_by (is_ok r) xs = ltb-true (length xs) (2 * count_by (is_ok r) xs) h in
      let count : length (filter (is_ok r) xs) ≡ count_by (is_ok r) xs = length-filter (is_ok r) xs in
      let own : length (ok_from r 1 xs) ≡ length (filter (is_ok r) xs) = ok_count r 1 xs in omega arith);
}

pub ok_slot : (r : Round) (slot : Slot) → is_ok r slot ≡ true → (reply : Reply) × (slot ≡ Told (Answer reply)) × (fits_round r reply ≡ true)
ok_slot r (Told (Answer reply)) e = (reply, refl, e)
ok_slot r (Told Silent) e = true≢false (sym e)
ok_slot r Waiting e = true≢false (sym e)
ok_slot r LeftOut e = true≢false (sym e)

-- ## The best segment
-- the second ranks at least as high
pub record RankLe (a b : SegmentInfo) : Type 0 where
  pub final : a.is_final ≡ true → b.is_final ≡ true
  pub header : b.is_final ≡ a.is_final → a.epoch ≤ b.epoch
  pub ends : b.is_final ≡ a.is_final → a.epoch ≡ b.epoch → a.end ≤ b.end

pub RankLe-refl : (a : SegmentInfo) → RankLe a a
RankLe-refl a = record { final = λ e. e; header = λ e. omega arith; ends = λ e f. omega arith }

bool_or : (b : Bool) → (b ≡ true) ⊎ (b ≡ false)
bool_or true = inl refl
bool_or false = inr refl

pub RankLe-trans : (a b c : SegmentInfo) → RankLe a b → RankLe b c → RankLe a c
RankLe-trans a b c p q = record {
  final = λ e. q.final (p.final e);
  header = λ e. (let two = finals e in omega (arith, p.header two.0, q.header two.1));
  ends = λ e f. (let two = finals e in
      let h1 : a.epoch ≤ b.epoch = p.header two.0 in let h2 : b.epoch ≤ c.epoch = q.header two.1 in
      let e1 : a.epoch ≡ b.epoch = omega arith in let e2 : b.epoch ≡ c.epoch = omega arith in omega (arith, p.ends two.0 e1, q.ends two.1 e2));
}
  where
    finals : c.is_final ≡ a.is_final → (b.is_final ≡ a.is_final) × (c.is_final ≡ b.is_final)
    finals e = elim (bool_or b.is_final) [
      | inl bt ↦ (let ct : c.is_final ≡ true = q.final bt in (bt ∙ (sym ct ∙ e), ct ∙ sym bt))
      | inr bf ↦ (elim (bool_or a.is_final) [
        | inl at ↦ true≢false (sym (p.final at) ∙ bf)
        | inr af ↦ (bf ∙ sym af, e ∙ (af ∙ sym bf))
      ])
    ]

-- the test over the two finals, the two epochs and the two ends
abbrev test : Bool → Bool → ℕ → ℕ → ℕ → ℕ → Bool
test fb fa eb ea lb la = (fb && not fa) || ((fb || not fa) && (nat_lt ea eb || ((ea == eb) && nat_lt la lb)))

record Ranks (fa fb : Bool) (ea eb la lb : ℕ) : Type 0 where
  final : fa ≡ true → fb ≡ true
  header : fb ≡ fa → ea ≤ eb
  ends : fb ≡ fa → ea ≡ eb → la ≤ lb

numbers_up : (eb ea lb la : ℕ) → (nat_lt ea eb || ((ea == eb) && nat_lt la lb)) ≡ true → (ea ≤ eb) × (ea ≡ eb → la ≤ lb)
numbers_up eb ea lb la e = elim (or_cases (nat_lt ea eb) ((ea == eb) && nat_lt la lb) e) [
  | inl t ↦ (let h : ea < eb = ltb-true ea eb t in (omega arith, λ f. omega arith))
  | inr t ↦ (let p = and_parts (ea == eb) (nat_lt la lb) t in let same : ea ≡ eb = eqb-true ea eb p.0 in let h : la < lb = ltb-true la lb p.1 in (omega arith, λ f. omega arith))
]

numbers_down : (eb ea lb la : ℕ) → (nat_lt ea eb || ((ea == eb) && nat_lt la lb)) ≡ false → (eb ≤ ea) × (eb ≡ ea → lb ≤ la)
numbers_down eb ea lb la e =
    let p = or_parts (nat_lt ea eb) ((ea == eb) && nat_lt la lb) e in
    let le : eb ≤ ea = ltb-false ea eb p.0 in (
      le,
      λ f. elim (and_cases (ea == eb) (nat_lt la lb) p.1) [
        | inl t ↦ absurd (eqb-false ea eb t (sym f))
        | inr t ↦ ltb-false la lb t
      ],
    )

up_ranks : (fb fa : Bool) (eb ea lb la : ℕ) → test fb fa eb ea lb la ≡ true → Ranks fa fb ea eb la lb
up_ranks true true eb ea lb la e = let p = numbers_up eb ea lb la e in record { final = λ f. refl; header = λ f. p.0; ends = λ f. p.1 }
up_ranks true false eb ea lb la e = record { final = λ f. refl; header = λ f. true≢false f; ends = λ f. true≢false f }
up_ranks false true eb ea lb la e = true≢false (sym e)
up_ranks false false eb ea lb la e = let p = numbers_up eb ea lb la e in record { final = λ f. f; header = λ f. p.0; ends = λ f. p.1 }

down_ranks : (fb fa : Bool) (eb ea lb la : ℕ) → test fb fa eb ea lb la ≡ false → Ranks fb fa eb ea lb la
down_ranks true true eb ea lb la e = let p = numbers_down eb ea lb la e in record { final = λ f. refl; header = λ f. p.0; ends = λ f. p.1 }
down_ranks true false eb ea lb la e = true≢false e
down_ranks false true eb ea lb la e = record { final = λ f. refl; header = λ f. true≢false f; ends = λ f. true≢false f }
down_ranks false false eb ea lb la e = let p = numbers_down eb ea lb la e in record { final = λ f. f; header = λ f. p.0; ends = λ f. p.1 }

outranked : (a b : SegmentInfo) → outranks b a ≡ true → RankLe a b
outranked a b e = let r = up_ranks b.is_final a.is_final b.epoch a.epoch b.end a.end e in record { final = r.final; header = r.header; ends = r.ends }

not_outranked : (a b : SegmentInfo) → outranks b a ≡ false → RankLe b a
not_outranked a b e = let r = down_ranks b.is_final a.is_final b.epoch a.epoch b.end a.end e in record { final = r.final; header = r.header; ends = r.ends }

-- what ranks no higher doesn't outrank
pub not_above : (a b : SegmentInfo) → RankLe a b → outranks a b ≡ false
not_above a b r = by (outranks a b) refl
  where
    clash : (fa fb : Bool) → fa ≡ a.is_final → fb ≡ b.is_final → test fa fb a.epoch b.epoch a.end b.end ≡ true → ⊥
    clash true true p q e = (let same : b.is_final ≡ a.is_final = sym q ∙ p in numbers same e)
      where
        numbers : b.is_final ≡ a.is_final → (nat_lt b.epoch a.epoch || ((b.epoch == a.epoch) && nat_lt b.end a.end)) ≡ true → ⊥
        numbers same e = elim (or_cases (nat_lt b.epoch a.epoch) ((b.epoch == a.epoch) && nat_lt b.end a.end) e) [
          | inl t ↦ (let lt : b.epoch < a.epoch = ltb-true b.epoch a.epoch t in omega (arith, r.header same))
          | inr t ↦ (let two = and_parts (b.epoch == a.epoch) (nat_lt b.end a.end) t in let eq : b.epoch ≡ a.epoch =
              eqb-true b.epoch a.epoch two.0 in let lt : b.end < a.end = ltb-true b.end a.end two.1 in omega (arith, r.ends same (sym eq)))
        ]
    clash true false p q e = (let bt : b.is_final ≡ true = r.final (sym p) in true≢false (sym bt ∙ sym q))
    clash false true p q e = true≢false (sym e)
    clash false false p q e = (let same : b.is_final ≡ a.is_final = sym q ∙ p in numbers same e)
      where
        numbers : b.is_final ≡ a.is_final → (nat_lt b.epoch a.epoch || ((b.epoch == a.epoch) && nat_lt b.end a.end)) ≡ true → ⊥
        numbers same e = elim (or_cases (nat_lt b.epoch a.epoch) ((b.epoch == a.epoch) && nat_lt b.end a.end) e) [
          | inl t ↦ (let lt : b.epoch < a.epoch = ltb-true b.epoch a.epoch t in omega (arith, r.header same))
          | inr t ↦ (let two = and_parts (b.epoch == a.epoch) (nat_lt b.end a.end) t in let eq : b.epoch ≡ a.epoch =
              eqb-true b.epoch a.epoch two.0 in let lt : b.end < a.end = ltb-true b.end a.end two.1 in omega (arith, r.ends same (sym eq)))
        ]

    by : (z : Bool) → outranks a b ≡ z → outranks a b ≡ false
    by true e = absurd (clash a.is_final b.is_final refl refl e)
    by false e = e

-- that node's part tells this segment
pub record TellsSegment (start first : ℕ) (xs : List Slot) (b : Best) : Type 0 where
  pub slot : Slot
  pub at : At first xs b.node slot
  pub tells : segment_in start slot ≡ Some b.info

segment_first : (start first : ℕ) (x : Slot) (xs : List Slot) (b : Best) → (o : Option SegmentInfo) → segment_in start x ≡ o → told_by first o ≡ Some b → TellsSegment start first (x ∷ xs) b
segment_first start first x xs b None is e = none≢some b e
segment_first start first x xs b (Some info) is e =
    let same : record { node = first; info = info } ≡ b = some_same e in
    record { slot = x; at = inl (ap (λ z. z.node) same, refl); tells = is ∙ ap (λ z. Some z.info) same }

segment_later : (start first : ℕ) (x : Slot) (xs : List Slot) (b : Best) → TellsSegment start (first + 1) xs b → TellsSegment start first (x ∷ xs) b
segment_later start first x xs b t = record { slot = t.slot; at = inr t.at; tells = t.tells }

best_one : (start first : ℕ) (x : Slot) (xs : List Slot) (b : Best) → (y z : Option Best) → told_by first (segment_in start x) ≡ y
    → (z ≡ Some b → TellsSegment start (first + 1) xs b) → better y z ≡ Some b → TellsSegment start first (x ∷ xs) b
best_one start first x xs b None z p ih f = segment_later start first x xs b (ih f)
best_one start first x xs b (Some a) None p ih f = segment_first start first x xs b (segment_in start x) refl (p ∙ f)
best_one start first x xs b (Some a) (Some c) p ih f =
    cond_both (outranks c.info a.info) (Some c) (Some a) (λ o. o ≡ Some b → TellsSegment start first (x ∷ xs) b)
    (λ t u. segment_later start first x xs b (ih u)) (λ n u. segment_first start first x xs b (segment_in start x) refl (p ∙ u)) f

pub best_told : (start first : ℕ) (xs : List Slot) (b : Best) → best_from start first xs ≡ Some b → TellsSegment start first xs b
unfolding best_from
best_told start first [] b e = none≢some b e
best_told start first (x ∷ xs) b e = best_one start first x xs b (told_by first (segment_in start x)) (best_from start (first + 1) xs) refl (λ f. best_told start (first + 1) xs b f) e

-- no told segment ranks above the best
abbrev pub IsTop : SegmentInfo → Option Best → Type 0
IsTop g None = ⊥
IsTop g (Some b) = RankLe g b.info

told_top : (first : ℕ) (g : SegmentInfo) (o : Option SegmentInfo) (z : Option Best) → o ≡ Some g → IsTop g (better (told_by first o) z)
told_top first g None z e = none≢some g e
told_top first g (Some a) None e = subst (λ y. RankLe g y) (sym (some_same e)) (RankLe-refl g)
told_top first g (Some a) (Some b) e = cond_both (outranks b.info a) (Some b) (Some (record { node = first; info = a })) (λ o. IsTop g o)
    (λ t. subst (λ z. RankLe z b.info) (some_same e) (outranked a b.info t)) (λ f. subst (λ z. RankLe g z) (sym (some_same e)) (RankLe-refl g))

top_rest : (g : SegmentInfo) (x y : Option Best) → IsTop g y → IsTop g (better x y)
top_rest g None y l = l
top_rest g (Some a) None l = absurd l
top_rest g (Some a) (Some b) l = cond_both (outranks b.info a.info) (Some b) (Some a) (λ o. IsTop g o)
    (λ t. l) (λ f. RankLe-trans g b.info a.info l (not_outranked a.info b.info f))

pub best_is_top : (start first : ℕ) (xs : List Slot) (node : ℕ) (slot : Slot) (g : SegmentInfo) → At first xs node slot → segment_in start slot ≡ Some g → IsTop g (best_from start first xs)
unfolding best_from
best_is_top start first [] node slot g a e = absurd a
best_is_top start first (x ∷ xs) node slot g (inl a) e = told_top first g (segment_in start x) (best_from start (first + 1) xs) (ap (λ z. segment_in start z) a.1 ∙ e)
best_is_top start first (x ∷ xs) node slot g (inr a) e = top_rest g (told_by first (segment_in start x)) (best_from start (first + 1) xs) (best_is_top start (first + 1) xs node slot g a e)

-- ## The newest start
-- what an answer to a proposal tells
abbrev pub told_newest : Reply → Option ℕ
told_newest (EpochTaken newest) = newest
told_newest _ = None

pub record TellsNewest (first : ℕ) (xs : List Slot) (m : ℕ) : Type 0 where
  pub node : ℕ
  pub slot : Slot
  pub at : At first xs node slot
  pub tells : newest_in slot ≡ Some m

newest_later : (first : ℕ) (x : Slot) (xs : List Slot) (m : ℕ) → TellsNewest (first + 1) xs m → TellsNewest first (x ∷ xs) m
newest_later first x xs m t = record { node = t.node; slot = t.slot; at = inr t.at; tells = t.tells }

newest_one : (first : ℕ) (x : Slot) (xs : List Slot) (m : ℕ) → (y z : Option ℕ) → newest_in x ≡ y → (z ≡ Some m → TellsNewest (first + 1) xs m) → greater y z ≡ Some m → TellsNewest first (x ∷ xs) m
newest_one first x xs m None z p ih f = newest_later first x xs m (ih f)
newest_one first x xs m (Some a) None p ih f = record { node = first; slot = x; at = inl (refl, refl); tells = p ∙ f }
newest_one first x xs m (Some a) (Some b) p ih f = elim (cases_lt a b) [
  | inl lt ↦ (let is : max a b ≡ m = some_same f in let same : b ≡ m = omega arith in newest_later first x xs m (ih (ap (λ z. Some z) same)))
  | inr ge ↦ (let is : max a b ≡ m = some_same f in let same : a ≡ m = omega arith in record { node = first; slot = x; at = inl (refl, refl); tells = p ∙ ap (λ z. Some z) same })
]

pub newest_told_by : (first : ℕ) (xs : List Slot) (m : ℕ) → greatest_newest xs ≡ Some m → TellsNewest first xs m
unfolding greatest_newest
newest_told_by first [] m e = none≢some m e
newest_told_by first (x ∷ xs) m e = newest_one first x xs m (newest_in x) (greatest_newest xs) refl (λ f. newest_told_by (first + 1) xs m f) e

-- and none told a greater one
abbrev pub AtLeast : ℕ → Option ℕ → Type 0
AtLeast k None = ⊥
AtLeast k (Some m) = k ≤ m

newest_least : (k : ℕ) (x y : Option ℕ) → x ≡ Some k → AtLeast k (greater x y)
newest_least k None y e = none≢some k e
newest_least k (Some a) None e = let is : a ≡ k = some_same e in omega arith
newest_least k (Some a) (Some b) e = let is : a ≡ k = some_same e in omega arith

newest_rest : (k : ℕ) (x y : Option ℕ) → AtLeast k y → AtLeast k (greater x y)
newest_rest k None y l = l
newest_rest k (Some a) None l = absurd l
newest_rest k (Some a) (Some b) l = omega arith

pub newest_told_least : (first : ℕ) (xs : List Slot) (node k : ℕ) (slot : Slot) → At first xs node slot → newest_in slot ≡ Some k → AtLeast k (greatest_newest xs)
unfolding greatest_newest
newest_told_least first [] node k slot a e = absurd a
newest_told_least first (x ∷ xs) node k slot (inl a) e = newest_least k (newest_in x) (greatest_newest xs) (ap newest_in a.1 ∙ e)
newest_told_least first (x ∷ xs) node k slot (inr a) e = newest_rest k (newest_in x) (greatest_newest xs) (newest_told_least (first + 1) xs node k slot a e)

pub get_replicate : {A : Type 0} (m i : ℕ) (x : A) → get_or (replicate m x) i x ≡ x
get_replicate zero i x = refl
get_replicate (suc m) zero x = refl
get_replicate (suc m) (suc i) x = get_replicate m i x

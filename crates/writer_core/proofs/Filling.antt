-- The parts of the nodes while a round is heard, against the parts that it began with and the table
-- of what was heard.
use Rattle.std.proofs.Common.{◌≡◌, ◌≢◌, ℕ, zero, suc, ◌+◌, ◌≤◌, List, [], ◌∷◌, false, refl, sym, ap, ◌∙◌, subst, arith, map, set, slice_get, Option, Some, None}
use Rattle.std.specs.List.{list_any}
use Rattle.journal_core.specs.declared.reply.Reply.{Reply}
use Rattle.journal_core.specs.declared.heard.Heard.{Heard}
use Rattle.writer_core.specs.declared.slot.Slot.{Slot}
use Rattle.writer_core.specs.declared.slot.Slot.TheVariants.{Waiting, LeftOut, Told}
use Rattle.writer_core.specs.Answers.{is_waiting}
use Rattle.writer_core.specs.Whole.{heard_of, fill_slots}
use Rattle.writer_core.proofs.Plain.{plain_heard, plain_slot, cons_same}

abbrev pub fill : Option Reply → Slot → Slot
fill o Waiting = Told (heard_of o)
fill o LeftOut = LeftOut
fill o (Told h) = Told h

-- A part that waits did so from the beginning, and the table has no answer of that node yet; any
-- other is what the table makes of it.
abbrev pub FillsOne : Slot → Option Reply → Slot → Type 0
FillsOne Waiting o y = (y ≡ Waiting) × (o ≡ None)
FillsOne LeftOut o y = plain_slot (fill o y) ≡ LeftOut
FillsOne (Told h) o y = plain_slot (fill o y) ≡ Told (plain_heard h)

-- of the nodes from this one on
abbrev pub Fills : ℕ → (ℕ → Option Reply) → List Slot → List Slot → Type 0
Fills node heard [] [] = Unit {0}
Fills node heard [] (y ∷ ys) = ⊥
Fills node heard (x ∷ xs) [] = ⊥
Fills node heard (x ∷ xs) (y ∷ ys) = FillsOne x (heard node) y × Fills (node + 1) heard xs ys

-- ## A round that begins
first_one : (x y : Slot) → plain_slot x ≡ plain_slot y → FillsOne x None y
first_one Waiting Waiting e = (refl, refl)
first_one Waiting LeftOut e = absurd (cc e)
first_one Waiting (Told h) e = absurd (cc e)
first_one LeftOut Waiting e = absurd (cc e)
first_one LeftOut LeftOut e = refl
first_one LeftOut (Told h) e = sym e
first_one (Told g) Waiting e = absurd (cc e)
first_one (Told g) LeftOut e = sym e
first_one (Told g) (Told h) e = sym e

pub fills_first : (node : ℕ) (heard : ℕ → Option Reply) (xs ys : List Slot) → ((i : ℕ) → heard i ≡ None) → map plain_slot xs ≡ map plain_slot ys → Fills node heard xs ys
fills_first node heard [] [] none e = tt
fills_first node heard [] (y ∷ ys) none e = absurd (cc e)
fills_first node heard (x ∷ xs) [] none e = absurd (cc e)
fills_first node heard (x ∷ xs) (y ∷ ys) none e =
    let one : plain_slot x ≡ plain_slot y = cc e in
    let rest : map plain_slot xs ≡ map plain_slot ys = cc e in
    (subst (λ (o : Option Reply). FillsOne x o y) (sym (none node)) (first_one x y one), fills_first (node + 1) heard xs ys none rest)

-- ## One more answer
agree : (node : ℕ) (heard more : ℕ → Option Reply) (xs ys : List Slot) → ((j : ℕ) → node ≤ j → more j ≡ heard j) → Fills node heard xs ys → Fills node more xs ys
agree node heard more [] [] e f = tt
agree node heard more [] (y ∷ ys) e f = f
agree node heard more (x ∷ xs) [] e f = f
agree node heard more (x ∷ xs) (y ∷ ys) e f =
    (subst (λ (o : Option Reply). FillsOne x o y) (sym (e node (omega arith))) f.0, agree (node + 1) heard more xs ys (λ j l. e j (omega arith)) f.1)

told_one : (h : Heard) (o : Option Reply) (y : Slot) → y ≡ Waiting → plain_heard (heard_of o) ≡ plain_heard h → FillsOne (Told h) o y
told_one h o Waiting w e = ap Told e
told_one h o LeftOut w e = absurd (cc w)
told_one h o (Told g) w e = absurd (cc w)

waits_one : (x : Slot) (o : Option Reply) (y : Slot) → Some x ≡ Some Waiting → FillsOne x o y → (y ≡ Waiting) × (o ≡ None)
waits_one Waiting o y e f = f
waits_one LeftOut o y e f = absurd (cc e)
waits_one (Told h) o y e f = absurd (cc e)

pub fills_waits : (node i : ℕ) (heard : ℕ → Option Reply) (xs ys : List Slot) → slice_get xs i ≡ Some Waiting → Fills node heard xs ys
    → (slice_get ys i ≡ Some Waiting) × (heard (node + i) ≡ None)
fills_waits node i heard [] ys e f = absurd (cc e)
fills_waits node i heard (x ∷ xs) [] e f = absurd f
fills_waits node zero heard (x ∷ xs) (y ∷ ys) e f =
    let w : (y ≡ Waiting) × (heard node ≡ None) = waits_one x (heard node) y e f.0 in
    let at : node + 0 ≡ node = omega arith in
    (ap Some w.0, ap heard at ∙ w.1)
fills_waits node (suc i) heard (x ∷ xs) (y ∷ ys) e f =
    let w : (slice_get ys i ≡ Some Waiting) × (heard (node + 1 + i) ≡ None) = fills_waits (node + 1) i heard xs ys e f.1 in
    let at : node + suc i ≡ node + 1 + i = omega arith in
    (w.0, ap heard at ∙ w.1)

pub fills_more : (node i : ℕ) (heard more : ℕ → Option Reply) (h : Heard) (xs ys : List Slot) → slice_get xs i ≡ Some Waiting
    → plain_heard (heard_of (more (node + i))) ≡ plain_heard h → ((j : ℕ) → j ≢ node + i → more j ≡ heard j) → Fills node heard xs ys → Fills node more (set xs i (Told h)) ys
fills_more node i heard more h [] ys e is off f = absurd (cc e)
fills_more node i heard more h (x ∷ xs) [] e is off f = absurd f
fills_more node zero heard more h (x ∷ xs) (y ∷ ys) e is off f =
    let at : node + 0 ≡ node = omega arith in (
      told_one h (more node) y (waits_one x (heard node) y e f.0).0 (ap (λ (j : ℕ). plain_heard (heard_of (more j))) (sym at) ∙ is),
      agree (node + 1) heard more xs ys (λ j l. off j (λ same. absurd (omega arith))) f.1,
    )
fills_more node (suc i) heard more h (x ∷ xs) (y ∷ ys) e is off f =
    let at : node + 1 + i ≡ node + suc i = omega arith in (
      subst (λ (o : Option Reply). FillsOne x o y) (sym (off node (λ same. absurd (omega arith)))) f.0,
      fills_more (node + 1) i heard more h xs ys e (ap (λ (j : ℕ). plain_heard (heard_of (more j))) at ∙ is) (λ j l. off j (λ same. l (same ∙ sym at))) f.1,
    )

-- ## A round that was heard whole
filled_cons : (node : ℕ) (heard : ℕ → Option Reply) (y : Slot) (ys : List Slot) → fill_slots node heard (y ∷ ys) ≡ fill (heard node) y ∷ fill_slots (node + 1) heard ys
unfolding fill_slots
filled_cons node heard Waiting ys = refl
filled_cons node heard LeftOut ys = refl
filled_cons node heard (Told h) ys = refl

whole_one : (x : Slot) (o : Option Reply) (y : Slot) → is_waiting x ≡ false → FillsOne x o y → plain_slot x ≡ plain_slot (fill o y)
whole_one Waiting o y w f = absurd (cc w)
whole_one LeftOut o y w f = sym f
whole_one (Told h) o y w f = sym f

none_waits : (x : Slot) (xs : List Slot) → list_any is_waiting (x ∷ xs) ≡ false → (is_waiting x ≡ false) × (list_any is_waiting xs ≡ false)
none_waits Waiting xs e = absurd (cc e)
none_waits LeftOut xs e = (refl, e)
none_waits (Told h) xs e = (refl, e)

pub fills_whole : (node : ℕ) (heard : ℕ → Option Reply) (xs ys : List Slot) → list_any is_waiting xs ≡ false → Fills node heard xs ys
    → map plain_slot xs ≡ map plain_slot (fill_slots node heard ys)
fills_whole node heard [] [] none f = unfold fill_slots in refl
fills_whole node heard [] (y ∷ ys) none f = absurd f
fills_whole node heard (x ∷ xs) [] none f = absurd f
fills_whole node heard (x ∷ xs) (y ∷ ys) none f =
    let w : (is_waiting x ≡ false) × (list_any is_waiting xs ≡ false) = none_waits x xs none in
    cons_same (plain_slot x) (plain_slot (fill (heard node) y)) (map plain_slot xs) (map plain_slot (fill_slots (node + 1) heard ys))
    (whole_one x (heard node) y w.0 f.0) (fills_whole (node + 1) heard xs ys w.1 f.1)
    ∙ ap (λ (l : List Slot). map plain_slot l) (sym (filled_cons node heard y ys))

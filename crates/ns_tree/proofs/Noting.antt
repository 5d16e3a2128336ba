-- The retry list stays sound: 1,024 calls at most, each once, with rising txids.
use Rattle.std.proofs.Common.{◌≡◌, ℕ, zero, suc, ◌+◌, ◌-◌, ◌<◌, ◌≤◌, List, [], ◌∷◌, ◌++◌, length, length-append, length-drop, drop, Some, None, Bool}
use Rattle.std.proofs.Common.{true, false, cond, refl, sym, ap, ◌∙◌, subst, arith, ◌==◌, ◌&&◌}
use Rattle.std.proofs.lemmas.Bool.Decides.{nat_tests}
use Rattle.std.specs.Prelude.{◌^◌}
use Rattle.edit_ops.specs.declared.call.Call.{Call}
use Rattle.ns_tree.specs.declared.inode.Noted.{Noted}
use Rattle.ns_tree.specs.Path.{same_text}
use Rattle.ns_tree.specs.Space.{Space, same_call, txid_of, last_calls, noted, AreRising, AreOtherCalls, AreDistinct}
use Rattle.ns_tree.specs.Places.{IsTree}
use Rattle.ns_tree.proofs.Order.{same_text_is, same_text_self}

pub call_itself : (c : Call) → same_call c c ≡ true
call_itself c = let here : (c.number == c.number) ≡ true = grind (arith, nat_tests) in rw here (same_text_self c.client)

-- ## Rising
rising_lower : (low above to : ℕ) (ns : List Noted) → low ≤ above → AreRising above to ns → AreRising low to ns
rising_lower low above to [] le h = omega (arith, le, h)
rising_lower low above to (n ∷ ns) le h = (omega (arith, le, h.0), h.1)

pub rising_later : (above to later : ℕ) (ns : List Noted) → to ≤ later → AreRising above to ns → AreRising above later ns
rising_later above to later [] le h = omega (arith, le, h)
rising_later above to later (n ∷ ns) le h = (h.0, rising_later n.txid to later ns le h.1)

pub rising_drop : (k above to : ℕ) (ns : List Noted) → AreRising above to ns → AreRising above to (drop k ns)
rising_drop zero above to [] h = h
rising_drop (suc k) above to [] h = h
rising_drop zero above to (n ∷ ns) h = h
rising_drop (suc k) above to (n ∷ ns) h = rising_drop k above to ns (rising_lower above n.txid to ns (omega (arith, h.0)) h.1)

pub rising_snoc : (above to : ℕ) (ns : List Noted) (call : Call) → AreRising above to ns → AreRising above (to + 1) (ns ++ record { call = call; txid = to + 1 } ∷ [])
rising_snoc above to [] call h = (omega (arith, h), omega arith)
rising_snoc above to (n ∷ ns) call h = (h.0, rising_snoc n.txid to ns call h.1)

-- ## Distinct

pub distinct_drop : (k : ℕ) (ns : List Noted) → AreDistinct ns → AreDistinct (drop k ns)
distinct_drop zero [] h = tt
distinct_drop (suc k) [] h = tt
distinct_drop zero (n ∷ ns) h = h
distinct_drop (suc k) (n ∷ ns) h = distinct_drop k ns h.1

others_snoc : (call other : Call) (txid : ℕ) (ns : List Noted) → same_call other call ≡ false → AreOtherCalls call ns → AreOtherCalls call (ns ++ record { call = other; txid = txid } ∷ [])
others_snoc call other txid [] e h = (e, tt)
others_snoc call other txid (n ∷ ns) e h = (h.0, others_snoc call other txid ns e h.1)

pub same_swapped : (a b : Call) → same_call a b ≡ false → same_call b a ≡ false
same_swapped a b e = by (same_call b a) refl
  where
    numbers : (x y : ℕ) (c : Bool) → ((x == y) && c) ≡ true → (x ≡ y) × (c ≡ true)
    numbers x y true e = (grind (arith, nat_tests, e), refl)
    numbers x y false e = absurd (off (x == y) e)
      where
        off : (b : Bool) → (b && false) ≡ true → ⊥
        off true e = cc e
        off false e = cc e

    by : (t : Bool) → same_call b a ≡ t → same_call b a ≡ false
    by false is = is
    by true is =
        let parts : (b.number ≡ a.number) × (same_text b.client a.client ≡ true) = numbers b.number a.number (same_text b.client a.client) is in
        let client : b.client ≡ a.client = same_text_is b.client a.client parts.1 in
        let same : b ≡ a = (λ i. record { client = client i; number = parts.0 i }) in
        absurd (cc (sym (call_itself b) ∙ ap (λ (x : Call). same_call x b) same ∙ e))

-- a call that isn't found stands nowhere in the list
new_here : (call : Call) (n : Noted) (ns : List Noted) → txid_of call (n ∷ ns) ≡ None → (same_call n.call call ≡ false) × (txid_of call ns ≡ None)
new_here call n ns e = by (same_call n.call call) refl e
  where
    by : (b : Bool) → same_call n.call call ≡ b → cond b (Some n.txid) (txid_of call ns) ≡ None → (same_call n.call call ≡ false) × (txid_of call ns ≡ None)
    by true is e = absurd (cc (sym e))
    by false is e = (is, e)

pub distinct_snoc : (call : Call) (txid : ℕ) (ns : List Noted) → txid_of call ns ≡ None → AreDistinct ns → AreDistinct (ns ++ record { call = call; txid = txid } ∷ [])
distinct_snoc call txid [] e h = (tt, tt)
distinct_snoc call txid (n ∷ ns) e h =
    let new : (same_call n.call call ≡ false) × (txid_of call ns ≡ None) = new_here call n ns e in
    (others_snoc n.call call txid ns (same_swapped n.call call new.0) h.0, distinct_snoc call txid ns new.1 h.1)

-- ## A call that is noted
pub last_few : (ns : List Noted) → length (last_calls ns) ≤ 1024
last_few ns = let len : length (last_calls ns) ≡ length ns - (length ns - 1024) = length-drop (length ns - 1024) ns in omega (arith, len)

one_longer : (ns : List Noted) (n : Noted) → length (ns ++ n ∷ []) ≡ length ns + 1
one_longer ns n = length-append ns (n ∷ [])

pub last_room : (ns : List Noted) (n : Noted) → length ns < 1024 → last_calls (ns ++ n ∷ []) ≡ ns ++ n ∷ []
last_room ns n h =
    let len = one_longer ns n in
    let none : length (ns ++ n ∷ []) - 1024 ≡ 0 = omega (arith, len) in
    ap (λ (k : ℕ). drop k (ns ++ n ∷ [])) none

-- the txids rise up to the last one that was noted
pub rising_noted : (call : Call) (txid : ℕ) (ns : List Noted) → 1 ≤ txid → AreRising 0 (txid - 1) ns → AreRising 0 txid (noted call txid ns)
rising_noted call txid ns positive later =
    let step : txid - 1 + 1 ≡ txid = omega arith in
    let all : AreRising 0 txid (ns ++ record { call = call; txid = txid } ∷ []) =
    subst (λ (k : ℕ). AreRising 0 k (ns ++ record { call = call; txid = k } ∷ [])) step (rising_snoc 0 (txid - 1) ns call later) in
    rising_drop (length (ns ++ record { call = call; txid = txid } ∷ []) - 1024) 0 txid (ns ++ record { call = call; txid = txid } ∷ []) all

pub sound_noted : (s : Space) (call : Call) (txid : ℕ) → IsTree s → txid_of call s.calls ≡ None → 1 ≤ txid → txid ≤ 2 ^ 64 - 1
    → AreRising 0 (txid - 1) s.calls → IsTree (record s { calls = noted call txid s.calls })
sound_noted s call txid h new positive most later =
    record {
      ordered = h.ordered;
      pairs = h.pairs;
      root = h.root;
      few = last_few (s.calls ++ record { call = call; txid = txid } ∷ []);
      rising = rising_later 0 txid (2 ^ 64 - 1) (noted call txid s.calls) most (rising_noted call txid s.calls positive later);
      distinct = distinct_drop (length (s.calls ++ record { call = call; txid = txid } ∷ []) - 1024)
          (s.calls ++ record { call = call; txid = txid } ∷ []) (distinct_snoc call txid s.calls new h.distinct);
    }

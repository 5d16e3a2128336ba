-- The marks of calls, and a list of calls of which the first ones have gone.
use Rattle.std.proofs.Common.{◌≡◌, ◌≢◌, ℕ, zero, suc, ◌+◌, ◌-◌, ◌<◌, ◌≤◌, List, [], ◌∷◌, ◌++◌, length, length-append, length-drop, drop, set, get_or}
use Rattle.std.proofs.Common.{None, Bool, true, false, refl, sym, ◌∙◌, subst, arith, ◌==◌, ◌&&◌}
use Rattle.std.specs.Prelude.{nat_le}
use Rattle.std.proofs.lemmas.List.{drop-append-le, get_or-set_other}
use Rattle.std.proofs.lemmas.Grind.{get_or-set_at}
use Rattle.std.proofs.lemmas.Bool.Decides.{nat_tests}
use Rattle.edit_ops.specs.declared.call.Call.{Call}
use Rattle.ns_tree.specs.declared.inode.Noted.{Noted}
use Rattle.ns_tree.specs.Path.{same_text}
use Rattle.ns_tree.specs.Space.{same_call, txid_of, noted, AreRising}
use Rattle.ns_tree.specs.Marks.{mark_of, AreMarked}
use Rattle.ns_tree.proofs.Order.{same_text_is}

-- one call has one mark
pub same_mark : (a b : Call) → same_call a b ≡ true → mark_of a ≡ mark_of b
same_mark a b e =
    let parts = both (a.number == b.number) (same_text a.client b.client) e in
    let number : a.number ≡ b.number = grind (arith, nat_tests, parts.0) in
    let client : a.client ≡ b.client = same_text_is a.client b.client parts.1 in
    rw (number, client) refl
  where
    both : (x y : Bool) → (x && y) ≡ true → (x ≡ true) × (y ≡ true)
    both true true e = (refl, refl)
    both true false e = absurd (cc e)
    both false y e = absurd (cc e)

-- a call whose mark tells no txid of the list isn't there
pub unmarked : (call : Call) (marks : List ℕ) (above to : ℕ) (ns : List Noted) → AreMarked marks ns → AreRising above to ns → get_or marks (mark_of call) 0 ≤ above → txid_of call ns ≡ None
unmarked call marks above to [] m r low = refl
unmarked call marks above to (n ∷ ns) m r low = by (same_call n.call call) refl (unmarked call marks n.txid to ns m.1 r.1 (omega (arith, low, r.0)))
  where
    by : (b : Bool) → same_call n.call call ≡ b → txid_of call ns ≡ None → txid_of call (n ∷ ns) ≡ None
    by true e rest =
        let here : n.txid ≤ get_or marks (mark_of call) 0 = subst (λ (k : ℕ). n.txid ≤ get_or marks k 0) (same_mark n.call call e) m.0 in
        absurd (omega (arith, here, low, r.0))
    by false e rest = rw e rest

-- a later txid at one mark
pub marked_set : (marks : List ℕ) (k t above to : ℕ) (ns : List Noted) → k < length marks → AreMarked marks ns → AreRising above to ns → to ≤ t → AreMarked (set marks k t) ns
marked_set marks k t above to [] h m r le = tt
marked_set marks k t above to (n ∷ ns) h m r le = (by (mark_of n.call == k) refl, marked_set marks k t n.txid to ns h m.1 r.1 le)
  where
    below : (above : ℕ) (ms : List Noted) → AreRising above to ms → above ≤ to
    below above [] r = r
    below above (m ∷ ms) r = let rest : m.txid ≤ to = below m.txid ms r.1 in omega (arith, rest, r.0)

    last : n.txid ≤ to
    last = below n.txid ns r.1

    by : (b : Bool) → (mark_of n.call == k) ≡ b → n.txid ≤ get_or (set marks k t) (mark_of n.call) 0
    by true e =
        let at : mark_of n.call ≡ k = grind (arith, nat_tests, e) in
        rw (get_or-set_at marks k (mark_of n.call) t 0 at h) (omega (arith, last, le))
    by false e =
        let other : mark_of n.call ≢ k = (λ same. absurd (let yes : (mark_of n.call == k) ≡ true = grind (arith, nat_tests, same) in cc (sym e ∙ yes))) in
        rw (get_or-set_other marks k (mark_of n.call) t 0 other) m.0

pub marked_drop : (k : ℕ) (marks : List ℕ) (ns : List Noted) → AreMarked marks ns → AreMarked marks (drop k ns)
marked_drop zero marks [] m = tt
marked_drop (suc k) marks [] m = tt
marked_drop zero marks (n ∷ ns) m = m
marked_drop (suc k) marks (n ∷ ns) m = marked_drop k marks ns m.1

marked_snoc : (marks : List ℕ) (ns : List Noted) (n : Noted) → AreMarked marks ns → n.txid ≤ get_or marks (mark_of n.call) 0 → AreMarked marks (ns ++ n ∷ [])
marked_snoc marks [] n m le = (le, tt)
marked_snoc marks (x ∷ xs) n m le = (m.0, marked_snoc marks xs n m.1 le)

-- a call that is noted under its mark
pub marked_noted : (marks : List ℕ) (call : Call) (txid : ℕ) (ns : List Noted) → mark_of call < length marks → AreMarked marks ns
    → AreRising 0 (txid - 1) ns → AreMarked (set marks (mark_of call) txid) (noted call txid ns)
marked_noted marks call txid ns h m r =
    let there : txid ≤ get_or (set marks (mark_of call) txid) (mark_of call) 0 = rw (get_or-set_at marks (mark_of call) (mark_of call) txid 0 refl h) (omega arith) in
    marked_drop _ (set marks (mark_of call) txid) _ (marked_snoc (set marks (mark_of call) txid) ns _ (marked_set marks (mark_of call) txid 0 (txid - 1) ns h m r (omega arith)) there)

-- ## Calls that have gone
kept : (gone : ℕ) (xs : List Noted) (n : Noted) → gone ≤ length xs → drop gone (xs ++ n ∷ []) ≡ drop gone xs ++ n ∷ []
kept gone xs n h = drop-append-le gone xs (n ∷ []) h

longer : (gone : ℕ) (xs : List Noted) (n : Noted) → gone ≤ length xs → length (drop gone xs ++ n ∷ []) ≡ length xs - gone + 1
longer gone xs n h = let all = length-append (drop gone xs) (n ∷ []) in let left = length-drop gone xs in omega (arith, all, left, h)

-- a call whose mark tells a txid before the first of the list
pub none_marked : (call : Call) (marks : List ℕ) (mark to : ℕ) (ns : List Noted) (d : Noted) → AreMarked marks ns → AreRising 0 to ns
    → mark_of call < length marks → mark ≡ get_or marks (mark_of call) mark → nat_le (get_or ns 0 d).txid mark ≡ false → txid_of call ns ≡ None
none_marked call marks mark to [] d m r h is before = refl
none_marked call marks mark to (n ∷ ns) d m r h is before =
    let less : mark < n.txid = grind (arith, nat_tests, before) in
    let same : get_or marks (mark_of call) 0 ≡ mark = any_default marks (mark_of call) 0 mark h ∙ sym is in
    unmarked call marks (n.txid - 1) to (n ∷ ns) m (omega (arith, less), r.1) (rw same (omega (arith, less)))
  where
    any_default : (xs : List ℕ) (i a b : ℕ) → i < length xs → get_or xs i a ≡ get_or xs i b
    any_default [] i a b h = absurd (omega arith)
    any_default (x ∷ xs) zero a b h = refl
    any_default (x ∷ xs) (suc i) a b h = any_default xs i a b (omega arith)

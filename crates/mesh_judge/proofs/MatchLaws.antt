-- A node's lines beside its callers', one more line at a time: what was matched so far, and what is
-- left.
use Rattle.std.proofs.Common.{◌≡◌, Decides, ℕ, zero, suc, ◌+◌, ◌-◌, ◌<◌, ◌≤◌, ◌==◌, List, [], ◌∷◌, Bool, true, false, cond, length, refl, sym, ap}
use Rattle.std.proofs.Common.{◌++◌, ◌∙◌, subst, arith, add-one, get_or, set, take, drop, filter, replicate, length-append, Option, Some, None, inl, inr}
use Rattle.std.specs.Prelude.{slice_get, MatchOption}
use Rattle.std.proofs.lemmas.Option.{slice_get_read, slice_get_past}
use Rattle.std.proofs.lemmas.List.{get_or_default, take_more, take_all, drop_all, get_or-set_same, get_or-set_other, length-set, length-replicate}
use Rattle.journal_history.specs.declared.history_line.HistoryLine.{HistoryLine}
use Rattle.journal_history.specs.declared.record.Record.{Record}
use Rattle.mesh.specs.declared.whole.Mesh.{Mesh}
use Rattle.mesh.specs.Agree.{operator_of, history_at, record_of}
use Rattle.mesh.specs.Matches.{reaches, reached, lines_of, IsSame, AreSame, CallersWithin}
use Rattle.mesh.specs.Order.{is_muted, place_of}
use Rattle.mesh.proofs.Lists.{Alike, alike, same_test, filter_snoc}
use Rattle.mesh_judge.specs.declared.reached.Reach.{Reach}
use Rattle.mesh_judge.specs.Reaches.{places}
use Rattle.mesh_judge.proofs.ReachLaws.{reach, places_length, place_at}
use Rattle.mesh_judge.specs.declared.matching.ReachTable.{ReachTable}
use Rattle.mesh_judge.specs.declared.matching.Unlike.{Unlike}
use Rattle.mesh_judge.specs.declared.matching.Unlike.TheVariants as unlike
use Rattle.mesh_judge.specs.Matching.{IsNext, KnowsPlaces, KnowsAllPlaces, AreSameAt, AreListed, IsUnlikeIn, AreTaken, IsLeft}
use Rattle.mesh_judge.specs.Fronts.{KeepsUpTo}
use Rattle.mesh_judge.specs.Parts.{IsSized}
use Rattle.mesh_judge.proofs.Deciding.{front, no}

-- ## The line at a place of those that reached a node
pub record IsPlace (rs : List Record) (found : List Record) (p number : ℕ) (x : Reach) : Type 0 where
  pub low : p ≤ x.place
  pub high : x.place < p + length rs
  pub line : (e : Record) → slice_get found number ≡ Some (get_or rs (x.place - p) e)

place_later : (r : Record) (rs found : List Record) (p number : ℕ) (x : Reach) → IsPlace rs found (p + 1) number x → IsPlace (r ∷ rs) found p number x
place_later r rs found p number x h = record {
  low = omega (arith, h.low);
  high = omega (arith, h.high);
  line = λ e. h.line e ∙ ap Some (ap (λ n. get_or (r ∷ rs) n e) (let f : suc (x.place - (p + 1)) ≡ x.place - p = omega (arith, h.low) in f));
}

pub place_line : (node p : ℕ) (rs : List Record) (number : ℕ) (x : Reach) → slice_get (places node p rs) number ≡ Some x → IsPlace rs (reached node rs) p number x
unfolding places reached
place_line node p [] number x e = absurd (cc e)
place_line node p (r ∷ rs) zero x e = by (reaches node r) e (λ g. place_line node (p + 1) rs zero x g)
  where
    by : (b : Bool) → slice_get (cond b (reach p r ∷ places node (p + 1) rs) (places node (p + 1) rs)) zero ≡ Some x
        → (slice_get (places node (p + 1) rs) zero ≡ Some x → IsPlace rs (filter (reaches node) rs) (p + 1) zero x)
        → IsPlace (r ∷ rs) (cond b (r ∷ filter (reaches node) rs) (filter (reaches node) rs)) p zero x
    by true g later =
        let y : reach p r ≡ x = cc g in let h : p ≡ x.place = ap (λ (z : Reach). z.place) y in
        record { low = omega (arith, h); high = omega (arith, h); line = λ e. ap Some (ap (λ n. get_or (r ∷ rs) n e) (let f : 0 ≡ x.place - p = omega (arith, h) in f)) }
    by false g later = place_later r rs (filter (reaches node) rs) p zero x (later g)
place_line node p (r ∷ rs) (suc number) x e = by (reaches node r) e (λ g. place_line node (p + 1) rs number x g) (λ g. place_line node (p + 1) rs (suc number) x g)
  where
    by : (b : Bool) → slice_get (cond b (reach p r ∷ places node (p + 1) rs) (places node (p + 1) rs)) (suc number) ≡ Some x
        → (slice_get (places node (p + 1) rs) number ≡ Some x → IsPlace rs (filter (reaches node) rs) (p + 1) number x)
        → (slice_get (places node (p + 1) rs) (suc number) ≡ Some x → IsPlace rs (filter (reaches node) rs) (p + 1) (suc number) x)
        → IsPlace (r ∷ rs) (cond b (r ∷ filter (reaches node) rs) (filter (reaches node) rs)) p (suc number) x
    by true g one later = let h = one g in place_later r rs (r ∷ filter (reaches node) rs) p (suc number) x (record { low = h.low; high = h.high; line = h.line })
    by false g one later = place_later r rs (filter (reaches node) rs) p (suc number) x (later g)

-- the places that are known of a node, and the line at one of them
pub known_at : (rs : List Record) (t : ReachTable) (i : ℕ) (l : List Reach) → i < length t.by_node.items → KnowsPlaces rs t → l ≡ get_or t.by_node.items i l → l ≡ places (i + 1) 1 rs
known_at rs t i l low k is = is ∙ get_or_default t.by_node.items i l [] low ∙ k.each i low

pub next_place : (rs : List Record) (i number : ℕ) (l : List Reach) (x : Reach) → l ≡ places (i + 1) 1 rs → number < length l → x ≡ get_or l number x → IsPlace rs (reached (i + 1) rs) 1 number x
next_place rs i number l x e low is = place_line (i + 1) 1 rs number x (ap (λ ps. slice_get ps number) (sym e) ∙ slice_get_read l (length l) number x refl low is)

pub next_decided : (rs : List Record) (number : ℕ) (h : HistoryLine) (b : Bool) (r : Record) → slice_get rs number ≡ Some r → Decides b (IsSame r h) → Decides b (IsNext rs number h)
next_decided rs number h b r e d = subst (λ o. Decides b (MatchOption o ⊥ (λ x. IsSame x h))) (sym e) d

pub none_next : (rs : List Record) (i number : ℕ) (h : HistoryLine) (l : List Reach) → l ≡ places (i + 1) 1 rs → length l ≤ number → Decides false (IsNext (reached (i + 1) rs) number h)
none_next rs i number h l e past =
    let size : length l ≡ length (reached (i + 1) rs) = ap length e ∙ places_length (i + 1) 1 rs in
    let off : length (reached (i + 1) rs) ≤ number = omega (arith, past, size) in
    no (IsNext (reached (i + 1) rs) number h) (λ n. subst (λ o. MatchOption o ⊥ (λ r. IsSame r h)) (slice_get_past (reached (i + 1) rs) number off) n)

-- ## One line of each
next_there : (rs : List Record) (n : ℕ) (h : HistoryLine) → IsNext rs n h → (r : Record) × (drop n rs ≡ r ∷ drop (n + 1) rs) × IsSame r h
next_there [] zero h s = absurd s
next_there [] (suc n) h s = absurd s
next_there (r ∷ rs) zero h s = (r, refl, s)
next_there (r ∷ rs) (suc n) h s = let g = next_there rs n h s in let e : suc n + 1 ≡ suc (n + 1) = omega arith in (g.0, rw e g.1, g.2)

none_there : (rs : List Record) (n : ℕ) (h : HistoryLine) (hs : List HistoryLine) → (IsNext rs n h → ⊥) → AreSame (drop n rs) (h ∷ hs) → ⊥
unfolding AreSame
none_there [] zero h hs off s = s
none_there [] (suc n) h hs off s = s
none_there (r ∷ rs) zero h hs off s = off s.0
none_there (r ∷ rs) (suc n) h hs off s = none_there rs n h hs off s

mine : (c : ℕ) (h : HistoryLine) (hs : List HistoryLine) → (h.caller == c) ≡ true → lines_of c (h ∷ hs) ≡ h ∷ lines_of c hs
unfolding lines_of
mine c h hs e = ap (λ b. cond b (h ∷ filter (λ x. x.caller == c) hs) (filter (λ x. x.caller == c) hs)) e

others : (c : ℕ) (h : HistoryLine) (hs : List HistoryLine) → (h.caller == c) ≡ false → lines_of c (h ∷ hs) ≡ lines_of c hs
unfolding lines_of
others c h hs e = ap (λ b. cond b (h ∷ filter (λ x. x.caller == c) hs) (filter (λ x. x.caller == c) hs)) e

-- ## What is left of both, where so many of the caller's lines are taken and so many of the node's
pub record Left (rs : List Record) (c : ℕ) (hs : List HistoryLine) (n k : ℕ) : Type 0 where
  pub on : AreSame rs (lines_of c hs) → AreSame (drop n rs) (lines_of c (drop k hs))
  pub back : AreSame (drop n rs) (lines_of c (drop k hs)) → AreSame rs (lines_of c hs)

left_mine : (rs : List Record) (c : ℕ) (hs : List HistoryLine) (n k : ℕ) (h : HistoryLine) → k < length hs → h ≡ get_or hs k h → (h.caller == c) ≡ true → IsNext rs n h
    → Left rs c hs n k → Left rs c hs (n + 1) (k + 1)
unfolding AreSame
left_mine rs c hs n k h l is e s f =
    let g = next_there rs n h s in
    let lines : lines_of c (drop k hs) ≡ h ∷ lines_of c (drop (k + 1) hs) = ap (lines_of c) (front k hs h l is) ∙ mine c h (drop (k + 1) hs) e in
    record {
      on = λ x. (subst (λ z. AreSame z (h ∷ lines_of c (drop (k + 1) hs))) g.1 (subst (AreSame (drop n rs)) lines (f.on x))).1;
      back = λ x. f.back (subst (AreSame (drop n rs)) (sym lines) (subst (λ z. AreSame z (h ∷ lines_of c (drop (k + 1) hs))) (sym g.1) (g.2, x)));
    }

left_others : (rs : List Record) (c : ℕ) (hs : List HistoryLine) (n k : ℕ) (h : HistoryLine) → k < length hs → h ≡ get_or hs k h → (h.caller == c) ≡ false → Left rs c hs n k → Left rs c hs n (k + 1)
left_others rs c hs n k h l is e f =
    let lines : lines_of c (drop k hs) ≡ lines_of c (drop (k + 1) hs) = ap (lines_of c) (front k hs h l is) ∙ others c h (drop (k + 1) hs) e in
    record { on = λ x. subst (AreSame (drop n rs)) lines (f.on x); back = λ x. f.back (subst (AreSame (drop n rs)) (sym lines) x) }

left_fails : (rs : List Record) (c : ℕ) (hs : List HistoryLine) (n k : ℕ) (h : HistoryLine) → k < length hs → h ≡ get_or hs k h → (h.caller == c) ≡ true → (IsNext rs n h → ⊥)
    → Left rs c hs n k → AreSame rs (lines_of c hs) → ⊥
left_fails rs c hs n k h l is e off f x =
    none_there rs n h (lines_of c (drop (k + 1) hs)) off (subst (AreSame (drop n rs)) (ap (lines_of c) (front k hs h l is) ∙ mine c h (drop (k + 1) hs) e) (f.on x))

-- ## What was matched of both, where so many of the caller's lines are taken and so many of the node's
pub record Listed (rs : List Record) (c : ℕ) (hs : List HistoryLine) (n k : ℕ) : Type 0 where
  pub many : n ≡ length (lines_of c (take k hs))
  pub same : AreSame (take n rs) (lines_of c (take k hs))

same_more : (n : ℕ) (rs : List Record) (xs : List HistoryLine) (h : HistoryLine) → n ≡ length xs → AreSame (take n rs) xs → IsNext rs n h → AreSame (take (suc n) rs) (xs ++ h ∷ [])
unfolding AreSame
same_more zero [] xs h e s x = absurd x
same_more zero (r ∷ rs) [] h e s x = (x, tt)
same_more zero (r ∷ rs) (y ∷ xs) h e s x = absurd (omega (arith, e))
same_more (suc n) [] xs h e s x = absurd x
same_more (suc n) (r ∷ rs) [] h e s x = absurd (omega (arith, e))
same_more (suc n) (r ∷ rs) (y ∷ xs) h e s x = (s.0, same_more n rs xs h (omega (arith, e)) s.1 x)

next_of : (n : ℕ) (rs : List Record) (xs : List HistoryLine) (h : HistoryLine) → n ≡ length xs → AreSame (take (suc n) rs) (xs ++ h ∷ []) → IsNext rs n h
unfolding AreSame
next_of zero [] [] h e s = s
next_of zero [] (y ∷ xs) h e s = absurd (omega (arith, e))
next_of zero (r ∷ rs) [] h e s = s.0
next_of zero (r ∷ rs) (y ∷ xs) h e s = absurd (omega (arith, e))
next_of (suc n) [] [] h e s = absurd (omega (arith, e))
next_of (suc n) [] (y ∷ xs) h e s = s
next_of (suc n) (r ∷ rs) [] h e s = absurd (omega (arith, e))
next_of (suc n) (r ∷ rs) (y ∷ xs) h e s = next_of n rs xs h (omega (arith, e)) s.1

lines_more : (c k : ℕ) (hs : List HistoryLine) (h : HistoryLine) → k < length hs → h ≡ get_or hs k h
    → lines_of c (take (k + 1) hs) ≡ cond (h.caller == c) (lines_of c (take k hs) ++ h ∷ []) (lines_of c (take k hs))
unfolding lines_of
lines_more c k hs h l is =
    ap (filter (λ x. x.caller == c)) (take_more hs k h l ∙ ap (λ x. take k hs ++ x ∷ []) (sym is)) ∙ filter_snoc (λ (x : HistoryLine). x.caller == c) (take k hs) h

own_more : (c k : ℕ) (hs : List HistoryLine) (h : HistoryLine) → k < length hs → h ≡ get_or hs k h → (h.caller == c) ≡ true → lines_of c (take (k + 1) hs) ≡ lines_of c (take k hs) ++ h ∷ []
own_more c k hs h l is e = lines_more c k hs h l is ∙ ap (λ b. cond b (lines_of c (take k hs) ++ h ∷ []) (lines_of c (take k hs))) e

other_more : (c k : ℕ) (hs : List HistoryLine) (h : HistoryLine) → k < length hs → h ≡ get_or hs k h → (h.caller == c) ≡ false → lines_of c (take (k + 1) hs) ≡ lines_of c (take k hs)
other_more c k hs h l is e = lines_more c k hs h l is ∙ ap (λ b. cond b (lines_of c (take k hs) ++ h ∷ []) (lines_of c (take k hs))) e

one_longer : (n : ℕ) (xs : List HistoryLine) (h : HistoryLine) → n ≡ length xs → n + 1 ≡ length (xs ++ h ∷ [])
one_longer n xs h e = let f = length-append xs (h ∷ []) in omega (arith, e, f)

listed_mine : (rs : List Record) (c : ℕ) (hs : List HistoryLine) (n k : ℕ) (h : HistoryLine) → k < length hs → h ≡ get_or hs k h → (h.caller == c) ≡ true → IsNext rs n h
    → Listed rs c hs n k → Listed rs c hs (n + 1) (k + 1)
listed_mine rs c hs n k h l is e x f =
    let lines = own_more c k hs h l is e in record {
      many = one_longer n (lines_of c (take k hs)) h f.many ∙ sym (ap length lines);
      same = subst (AreSame (take (n + 1) rs)) (sym lines) (rw add-one (same_more n rs (lines_of c (take k hs)) h f.many f.same x));
    }

listed_others : (rs : List Record) (c : ℕ) (hs : List HistoryLine) (n k : ℕ) (h : HistoryLine) → k < length hs → h ≡ get_or hs k h → (h.caller == c) ≡ false
    → Listed rs c hs n k → Listed rs c hs n (k + 1)
listed_others rs c hs n k h l is e f =
    let lines = other_more c k hs h l is e in record { many = f.many ∙ sym (ap length lines); same = subst (AreSame (take n rs)) (sym lines) f.same }

-- ## The walk along a node's history
pub record Walk (m : Mesh) (i : ℕ) (taken : List ℕ) (k : ℕ) : Type 0 where
  pub size : length taken ≡ operator_of m + 1
  pub few : (c : ℕ) → get_or taken c 0 ≤ k
  pub left : (c : ℕ) → c ≤ operator_of m → Left (reached (i + 1) (record_of m c)) c (history_at m i) (get_or taken c 0) k
  pub listed : (c : ℕ) → c ≤ operator_of m → Listed (reached (i + 1) (record_of m c)) c (history_at m i) (get_or taken c 0) k

zero_at : (n c : ℕ) → (let z : ℕ = 0 in get_or (replicate n z) c z ≡ z)
zero_at zero c = refl
zero_at (suc n) zero = refl
zero_at (suc n) (suc c) = zero_at n c

begun : (rs : List Record) (c : ℕ) (hs : List HistoryLine) → Listed rs c hs 0 0
unfolding AreSame lines_of
begun rs c hs = record { many = refl; same = tt }

pub walk_begins : (m : Mesh) (i n : ℕ) (taken : List ℕ) → n ≡ operator_of m + 1 → taken ≡ replicate n 0 → Walk m i taken 0
walk_begins m i n taken size e = record {
  size = ap length e ∙ length-replicate n 0 ∙ size;
  few = λ c. let z : get_or taken c 0 ≡ 0 = ap (λ t. get_or t c 0) e ∙ zero_at n c in omega (arith, z);
  left = λ c l. let z : get_or taken c 0 ≡ 0 = ap (λ t. get_or t c 0) e ∙ zero_at n c in
      record {
        on = λ x. subst (λ n. AreSame (drop n (reached (i + 1) (record_of m c))) (lines_of c (history_at m i))) (sym z) x;
        back = λ x. subst (λ n. AreSame (drop n (reached (i + 1) (record_of m c))) (lines_of c (history_at m i))) z x;
      };
  listed = λ c l. (let z : get_or taken c 0 ≡ 0 = ap (λ t. get_or t c 0) e ∙ zero_at n c in
      subst (λ n. Listed (reached (i + 1) (record_of m c)) c (history_at m i) n 0) (sym z) (begun (reached (i + 1) (record_of m c)) c (history_at m i)));
}

pub walk_more : (m : Mesh) (i : ℕ) (taken : List ℕ) (k : ℕ) (h : HistoryLine) → k < length (history_at m i) → h ≡ get_or (history_at m i) k h → h.caller ≤ operator_of m
    → IsNext (reached (i + 1) (record_of m h.caller)) (get_or taken h.caller 0) h → Walk m i taken k → Walk m i (set taken h.caller (get_or taken h.caller 0 + 1)) (k + 1)
unfolding Alike
walk_more m i taken k h l is known next w = record {
  size = length-set taken h.caller (get_or taken h.caller 0 + 1) ∙ w.size;
  few = λ c. few_by c (alike h.caller c);
  left = λ c low. left_by c low (alike h.caller c);
  listed = λ c low. listed_by c low (alike h.caller c);
}
  where
    n : ℕ
    n = get_or taken h.caller 0

    there : h.caller < length taken
    there = omega (arith, known, w.size)

    same : (c : ℕ) → h.caller ≡ c → get_or (set taken h.caller (n + 1)) c 0 ≡ n + 1
    same c e = subst (λ x. get_or (set taken h.caller (n + 1)) x 0 ≡ n + 1) e (get_or-set_same taken h.caller (n + 1) 0 there)

    few_by : (c : ℕ) → Alike h.caller c → get_or (set taken h.caller (n + 1)) c 0 ≤ k + 1
    few_by c (inl e) = let f = same c e.1 in let g = w.few h.caller in omega (arith, f, g)
    few_by c (inr e) = let f : get_or (set taken h.caller (n + 1)) c 0 ≡ get_or taken c 0 = get_or-set_other taken h.caller c (n + 1) 0 (λ g. e.1 (sym g)) in let g = w.few c in omega (arith, f, g)

    left_by : (c : ℕ) → c ≤ operator_of m → Alike h.caller c → Left (reached (i + 1) (record_of m c)) c (history_at m i) (get_or (set taken h.caller (n + 1)) c 0) (k + 1)
    left_by c low (inl e) =
        subst (λ x. Left (reached (i + 1) (record_of m c)) c (history_at m i) x (k + 1)) (sym (same c e.1))
        (left_mine (reached (i + 1) (record_of m c)) c (history_at m i) n k h l is e.0
        (subst (λ x. IsNext (reached (i + 1) (record_of m x)) n h) e.1 next)
        (subst (λ x. Left (reached (i + 1) (record_of m c)) c (history_at m i) (get_or taken x 0) k) (sym e.1) (w.left c low)))
    left_by c low (inr e) =
        subst (λ x. Left (reached (i + 1) (record_of m c)) c (history_at m i) x (k + 1)) (sym (get_or-set_other taken h.caller c (n + 1) 0 (λ g. e.1 (sym g))))
        (left_others (reached (i + 1) (record_of m c)) c (history_at m i) (get_or taken c 0) k h l is e.0 (w.left c low))

    listed_by : (c : ℕ) → c ≤ operator_of m → Alike h.caller c → Listed (reached (i + 1) (record_of m c)) c (history_at m i) (get_or (set taken h.caller (n + 1)) c 0) (k + 1)
    listed_by c low (inl e) =
        subst (λ x. Listed (reached (i + 1) (record_of m c)) c (history_at m i) x (k + 1)) (sym (same c e.1))
        (listed_mine (reached (i + 1) (record_of m c)) c (history_at m i) n k h l is e.0
        (subst (λ x. IsNext (reached (i + 1) (record_of m x)) n h) e.1 next)
        (subst (λ x. Listed (reached (i + 1) (record_of m c)) c (history_at m i) (get_or taken x 0) k) (sym e.1) (w.listed c low)))
    listed_by c low (inr e) =
        subst (λ x. Listed (reached (i + 1) (record_of m c)) c (history_at m i) x (k + 1)) (sym (get_or-set_other taken h.caller c (n + 1) 0 (λ g. e.1 (sym g))))
        (listed_others (reached (i + 1) (record_of m c)) c (history_at m i) (get_or taken c 0) k h l is e.0 (w.listed c low))

pub walk_fails : (m : Mesh) (i : ℕ) (taken : List ℕ) (k : ℕ) (h : HistoryLine) → k < length (history_at m i) → h ≡ get_or (history_at m i) k h → h.caller ≤ operator_of m
    → (IsNext (reached (i + 1) (record_of m h.caller)) (get_or taken h.caller 0) h → ⊥) → Walk m i taken k → AreSameAt m i → ⊥
walk_fails m i taken k h l is known off w same =
    left_fails (reached (i + 1) (record_of m h.caller)) h.caller (history_at m i) (get_or taken h.caller 0) k h l is
    (same_test h.caller h.caller refl) off (w.left h.caller known) (same h.caller known)

-- so many of the node's lines are listed, and with this one they aren't
pub node_unlike : (m : Mesh) (i : ℕ) (taken : List ℕ) (k : ℕ) (h : HistoryLine) → k < length (history_at m i) → h ≡ get_or (history_at m i) k h → h.caller ≤ operator_of m
    → (IsNext (reached (i + 1) (record_of m h.caller)) (get_or taken h.caller 0) h → ⊥) → Walk m i taken k → KeepsUpTo (AreListed m i) (history_at m i) k
node_unlike m i taken k h l is known off w = record {
  within = l;
  front = λ c low. subst (λ n. AreSame (take n (reached (i + 1) (record_of m c))) (lines_of c (take k (history_at m i)))) (w.listed c low).many (w.listed c low).same;
  broken = λ all. off (next_of n rs xs h many (subst (λ z. AreSame (take z rs) (xs ++ h ∷ [])) longer (subst (λ ys. AreSame (take (length ys) rs) ys) lines (all h.caller known))));
}
  where
    n : ℕ
    n = get_or taken h.caller 0

    rs : List Record
    rs = reached (i + 1) (record_of m h.caller)

    xs : List HistoryLine
    xs = lines_of h.caller (take k (history_at m i))

    many : n ≡ length xs
    many = (w.listed h.caller known).many

    lines : lines_of h.caller (take (k + 1) (history_at m i)) ≡ xs ++ h ∷ []
    lines = own_more h.caller k (history_at m i) h l is (same_test h.caller h.caller refl)

    longer : length (xs ++ h ∷ []) ≡ suc n
    longer = let e = one_longer n xs h many in omega (arith, e)

-- at the history's end each caller's lines are all taken, or there is one more than the node lists
nothing_left : (rs : List Record) (n : ℕ) → AreSame (drop n rs) [] → length rs ≤ n
unfolding AreSame
nothing_left [] n h = omega arith
nothing_left (r ∷ rs) zero h = absurd h
nothing_left (r ∷ rs) (suc n) h = let g = nothing_left rs n h in omega (arith, g)

all_taken : (rs : List Record) (n : ℕ) → length rs ≤ n → AreSame (drop n rs) []
unfolding AreSame
all_taken rs n l = subst (λ x. AreSame x []) (sym (drop_all n rs l)) tt

lines_end : (c k : ℕ) (hs : List HistoryLine) → length hs ≤ k → lines_of c (drop k hs) ≡ []
unfolding lines_of
lines_end c k hs l = ap (filter (λ h. h.caller == c)) (drop_all k hs l)

caller_ends : (m : Mesh) (i : ℕ) (taken : List ℕ) (k c : ℕ) → length (history_at m i) ≤ k → Walk m i taken k → c ≤ operator_of m
    → length (reached (i + 1) (record_of m c)) ≤ get_or taken c 0 → AreSame (reached (i + 1) (record_of m c)) (lines_of c (history_at m i))
caller_ends m i taken k c l w low all =
    (w.left c low).back (subst (AreSame (drop (get_or taken c 0) (reached (i + 1) (record_of m c)))) (sym (lines_end c k (history_at m i) l))
    (all_taken (reached (i + 1) (record_of m c)) (get_or taken c 0) all))

pub walk_ends : (m : Mesh) (i : ℕ) (taken : List ℕ) (k : ℕ) → length (history_at m i) ≤ k → Walk m i taken k
    → ((c : ℕ) → c ≤ operator_of m → length (reached (i + 1) (record_of m c)) ≤ get_or taken c 0) → AreSameAt m i
walk_ends m i taken k l w all c low = caller_ends m i taken k c l w low (all c low)

pub walk_ended : (m : Mesh) (i : ℕ) (taken : List ℕ) (k : ℕ) → length (history_at m i) ≤ k → Walk m i taken k → AreSameAt m i
    → (c : ℕ) → c ≤ operator_of m → length (reached (i + 1) (record_of m c)) ≤ get_or taken c 0
walk_ended m i taken k l w same c low =
    nothing_left (reached (i + 1) (record_of m c)) (get_or taken c 0)
    (subst (AreSame (drop (get_or taken c 0) (reached (i + 1) (record_of m c)))) (lines_end c k (history_at m i) l) ((w.left c low).on (same c low)))

-- ## The lists of a mesh
pub caller_within : (callers k : ℕ) (hs : List HistoryLine) (h : HistoryLine) → CallersWithin callers hs → k < length hs → h ≡ get_or hs k h → h.caller ≤ callers
unfolding CallersWithin
caller_within callers k [] h w l is = absurd (omega (arith, l))
caller_within callers zero (x ∷ hs) h w l is = subst (λ z. z.caller ≤ callers) (sym is) w.0
caller_within callers (suc k) (x ∷ hs) h w l is = caller_within callers k hs h w.1 (omega (arith, l)) is

pub record_is : (m : Mesh) (c : ℕ) (tables : List (List Record)) (d lines : List Record) → c < length m.records → tables ≡ m.records → d ≡ get_or tables c d → lines ≡ d → lines ≡ record_of m c
record_is m c tables d lines low whole at is = is ∙ at ∙ ap (λ (t : List (List Record)). get_or t c d) whole ∙ get_or_default m.records c d [] low

pub table_known : (m : Mesh) (c : ℕ) (tables : List ReachTable) (t : ReachTable) (rs : List Record) → KnowsAllPlaces m tables → c < length m.records
    → t ≡ get_or tables c t → rs ≡ record_of m c → KnowsPlaces rs t
table_known m c tables t rs k low is e = subst (λ x. KnowsPlaces x t) (sym e) (subst (KnowsPlaces (record_of m c)) (sym is) (k.known c t low))

pub table_size : (m : Mesh) (c : ℕ) (tables : List ReachTable) (t : ReachTable) → KnowsAllPlaces m tables → c < length m.records → t ≡ get_or tables c t → length t.by_node.items ≡ m.nodes
table_size m c tables t k low is = ap (λ (x : ReachTable). length x.by_node.items) is ∙ k.size c t low

-- ## The end of a walk
some_item : {A : Type 0} (xs : List A) → 0 < length xs → A
some_item [] l = absurd (omega (arith, l))
some_item (x ∷ xs) l = x

reached_size : (m : Mesh) (i c : ℕ) (tables : List ReachTable) (d : ReachTable) → KnowsAllPlaces m tables → i < m.nodes → c < length m.records
    → length (get_or (get_or tables c d).by_node.items i []) ≡ length (reached (i + 1) (record_of m c))
reached_size m i c tables d k node low =
    let in_ : i < length (get_or tables c d).by_node.items = omega (arith, node, k.size c d low) in
    ap length ((k.known c d low).each i in_) ∙ places_length (i + 1) 1 (record_of m c)

pub all_taken_same : (m : Mesh) (i k : ℕ) (taken : List ℕ) (tables : List ReachTable) → KnowsAllPlaces m tables → IsSized m → i < m.nodes → length (history_at m i) ≤ k → Walk m i taken k
    → AreTaken tables i taken (length tables) → AreSameAt m i
all_taken_same m i k taken tables known sized node l w all =
    walk_ends m i taken k l w (λ c low.
    (let t = some_item tables (omega (arith, known.count, sized.records)) in
    let in_ : c < length tables = omega (arith, low, known.count, sized.records) in
    let few = all c t in_ in
    let size = reached_size m i c tables t known node (omega (arith, low, sized.records)) in
    omega (arith, few, size)))

-- a line is left
pub caller_unlike : (m : Mesh) (i k : ℕ) (taken : List ℕ) (tables : List ReachTable) (c line : ℕ) → KnowsAllPlaces m tables → IsSized m → i < m.nodes → length (history_at m i) ≤ k → Walk m i taken k
    → IsLeft tables i taken c line → IsUnlikeIn m i (unlike.AtCaller c line) × (AreSameAt m i → ⊥)
caller_unlike m i k taken tables c line known sized node l w left = (
  (
    low,
    λ d down. subst (λ hs. AreSame (take (length (lines_of d hs)) (reached (i + 1) (record_of m d))) (lines_of d hs)) whole
        (subst (λ n. AreSame (take n (reached (i + 1) (record_of m d))) (lines_of d (take k (history_at m i)))) (w.listed d down).many (w.listed d down).same),
    λ d less. caller_ends m i taken k d l w (omega (arith, less, low)) (few d less),
    omega (arith, more, many),
    at,
  ),
  λ same. (let end = walk_ended m i taken k l w same c low in omega (arith, end, more)),
)
  where
    low : c ≤ operator_of m
    low = let x = left.within in omega (arith, x, known.count, sized.records)

    inside : c < length m.records
    inside = omega (arith, low, sized.records)

    t : ReachTable
    t = some_item tables (omega (arith, known.count, sized.records))

    whole : take k (history_at m i) ≡ history_at m i
    whole = take_all k (history_at m i) l

    many : get_or taken c 0 ≡ length (lines_of c (history_at m i))
    many = (w.listed c low).many ∙ ap (λ hs. length (lines_of c hs)) whole

    few : (d : ℕ) → d < c → length (reached (i + 1) (record_of m d)) ≤ get_or taken d 0
    few d less = let a = left.before d t less in let b = reached_size m i d tables t known node (omega (arith, less, inside)) in omega (arith, a, b)

    more : get_or taken c 0 < length (reached (i + 1) (record_of m c))
    more = let a = left.left t in let b = reached_size m i c tables t known node inside in omega (arith, a, b)

    table : get_or (get_or tables c t).by_node.items i [] ≡ places (i + 1) 1 (record_of m c)
    table = (known.known c t inside).each i (omega (arith, node, known.size c t inside))

    x : Reach
    x = get_or (places (i + 1) 1 (record_of m c)) (get_or taken c 0) (record { place = 0; is_muted = false })

    x_is : x ≡ record { place = place_of (i + 1) (get_or taken c 0) 1 (record_of m c); is_muted = is_muted (slice_get (reached (i + 1) (record_of m c)) (get_or taken c 0)) }
    x_is = place_at (i + 1) (get_or taken c 0) 1 (record_of m c) (record { place = 0; is_muted = false }) more

    at : line + 1 ≡ place_of (i + 1) (length (lines_of c (history_at m i))) 1 (record_of m c)
    at =
        let size : length (places (i + 1) 1 (record_of m c)) ≡ length (reached (i + 1) (record_of m c)) = places_length (i + 1) 1 (record_of m c) in
        let place = next_place (record_of m c) i (get_or taken c 0) (places (i + 1) 1 (record_of m c)) x refl (omega (arith, size, more))
        (get_or_default (places (i + 1) 1 (record_of m c)) (get_or taken c 0) (record { place = 0; is_muted = false }) x (omega (arith, size, more))) in
        let a = left.at t (record { place = 0; is_muted = false }) in
        let b : (get_or (get_or (get_or tables c t).by_node.items i []) (get_or taken c 0) (record { place = 0; is_muted = false })).place ≡ x.place =
        ap (λ (ps : List Reach). (get_or ps (get_or taken c 0) (record { place = 0; is_muted = false })).place) table in
        let c1 : x.place ≡ place_of (i + 1) (get_or taken c 0) 1 (record_of m c) = ap (λ (y : Reach). y.place) x_is in
        let d1 : place_of (i + 1) (get_or taken c 0) 1 (record_of m c) ≡ place_of (i + 1) (length (lines_of c (history_at m i))) 1 (record_of m c) =
        ap (λ (n : ℕ). place_of (i + 1) n 1 (record_of m c)) many in
        omega (arith, a, b, c1, d1, place.low)

-- what is found at the end
abbrev pub Found : List ReachTable → ℕ → List ℕ → Option Unlike → Type 0
Found tables i taken found = MatchOption found (AreTaken tables i taken (length tables)) (λ u. (caller : ℕ) × (line : ℕ) × (u ≡ unlike.AtCaller caller line) × IsLeft tables i taken caller line)

pub left_or_same : (m : Mesh) (i k : ℕ) (taken : List ℕ) (tables : List ReachTable) (found : Option Unlike) → KnowsAllPlaces m tables → IsSized m → i < m.nodes → length (history_at m i) ≤ k
    → Walk m i taken k → Found tables i taken found → MatchOption found (AreSameAt m i) (λ u. IsUnlikeIn m i u × (AreSameAt m i → ⊥))
left_or_same m i k taken tables None known sized node l w all = all_taken_same m i k taken tables known sized node l w all
left_or_same m i k taken tables (Some u) known sized node l w f =
    subst (λ (x : Unlike). IsUnlikeIn m i x × (AreSameAt m i → ⊥)) (sym f.2) (caller_unlike m i k taken tables f.0 f.1 known sized node l w f.3)

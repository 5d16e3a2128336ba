-- A request is put into several pipes, and answered.
use Rattle.std.proofs.Common.{◌≡◌, ◌≢◌, ◌⊎◌, ⊎_elim, inl, inr, ℕ, zero, suc, ◌+◌, ◌-◌, ◌<◌, ◌≤◌, List, [], ◌∷◌, ◌++◌, length, map, set, get_or, refl, sym, ap, ◌∙◌, subst, arith, length-append}
use Rattle.std.specs.List.{All}
use Rattle.std.proofs.lemmas.List.{length-set, get_or-set_same, get_or-set_other, get_or-map, map-set}
use lib.Seq.{map-set_same}
use Rattle.journal_core.specs.declared.request.Request.{Request}
use Rattle.play_pipes.specs.Calls.{Calls, Answer, call_of, gained}
use Rattle.play_pipes.specs.Ends.{EndView, put_one, told_one}
use Rattle.play_pipes.specs.Desks.{AreNodes, no_end, HasPut, HasHeard}

last_or : (m k : ℕ) → m < k + 1 → (m < k) ⊎ (m ≡ k)
last_or zero zero lt = inr refl
last_or zero (suc k) lt = inl (omega arith)
last_or (suc m) zero lt = absurd (omega (arith, lt))
last_or (suc m) (suc k) lt = ⊎_elim (λ (x : m < k). inl (omega (arith, x))) (λ (x : m ≡ k). inr (ap suc x)) (last_or m k (omega (arith, lt)))

pub same_or : (j i : ℕ) → (j ≡ i) ⊎ (j ≢ i)
same_or zero zero = inl refl
same_or zero (suc i) = inr (λ e. absurd (omega (arith, e)))
same_or (suc j) zero = inr (λ e. absurd (omega (arith, e)))
same_or (suc j) (suc i) = ⊎_elim (λ (x : j ≡ i). inl (ap suc x)) (λ (x : j ≢ i). inr (λ e. x (omega (arith, e)))) (same_or j i)

pub nothing : (nodes : List ℕ) (r : Request) (lists : List Calls) → lists ≡ gained nodes r [] lists
nothing [] r lists = refl
nothing (n ∷ nodes) r lists = refl

any_default : (es : List EndView) (k : ℕ) (d f : EndView) → k < length es → get_or es k d ≡ get_or es k f
any_default [] k d f lt = absurd (omega (arith, lt))
any_default (e ∷ es) zero d f lt = refl
any_default (e ∷ es) (suc k) d f lt = any_default es k d f (omega (arith, lt))

-- one answer more
gained_more : (nodes : List ℕ) (r : Request) (answers : List Answer) (a : Answer) (lists : List Calls) → length answers < length nodes
    → gained nodes r (answers ++ a ∷ []) lists
    ≡ set (gained nodes r answers lists) (get_or nodes (length answers) 0 - 1) (get_or (gained nodes r answers lists) (get_or nodes (length answers) 0 - 1) [] ++ call_of r a)
gained_more [] r answers a lists lt = absurd (omega (arith, lt))
gained_more (n ∷ []) r [] a lists lt = refl
gained_more (n ∷ m ∷ nodes) r [] a lists lt = refl
gained_more (n ∷ nodes) r (b ∷ answers) a lists lt = gained_more nodes r answers a (set lists (n - 1) (get_or lists (n - 1) [] ++ call_of r b)) (omega (arith, lt))

pub put_none : (nodes : List ℕ) (r : Request) (old : List EndView) → All (λ e. e.waiting ≡ []) old → HasPut nodes r 0 old old
put_none nodes r old all = record { starts = refl; lists = refl; long = refl; ready = λ m lt. absurd (omega (arith, lt)); rest = λ i lt. inl (all i no_end lt) }

-- a node isn't that of a place before it
unlike : (count : ℕ) (nodes : List ℕ) (j k i : ℕ) → AreNodes count nodes → j < k → k < length nodes → i + 1 ≡ get_or nodes k 0 → get_or nodes j 0 ≢ i + 1
unlike count nodes j k i ok lt within e f = let x = ok.rising j k lt within in absurd (omega (arith, x, e, f))

pub put_rests : (nodes : List ℕ) (r : Request) (k : ℕ) (old new : List EndView) (e : EndView) → AreNodes (length old) nodes → k < length nodes → HasPut nodes r k old new
    → e ≡ get_or new (get_or nodes k 0 - 1) e → e.waiting ≡ []
put_rests nodes r k old new e ok lt h it =
    let low = ok.low k lt in
    let high = ok.high k lt in
    let long = h.long in
    let i = get_or nodes k 0 - 1 in
    let ie : i + 1 ≡ get_or nodes k 0 = omega (arith, low) in
    let is : e ≡ get_or new i no_end = it ∙ any_default new i e no_end (omega (arith, low, high, long)) in
    let w : e.waiting ≡ (get_or new i no_end).waiting = ap (λ x. x.waiting) is in
    ⊎_elim (λ (x : (get_or new i no_end).waiting ≡ []). w ∙ x) (λ (x : (m : ℕ) × (0 ≤ m) × (m < k) × (get_or nodes m 0 ≡ i + 1)). absurd (unlike (length old) nodes x.0 k i ok x.2 lt ie x.3))
    (h.rest i (omega (arith, low, high, long)))

pub put_more : (nodes : List ℕ) (r : Request) (k : ℕ) (old mid new : List EndView) (e : EndView) → AreNodes (length old) nodes → k < length nodes → HasPut nodes r k old mid
    → e ≡ get_or mid (get_or nodes k 0 - 1) e → new ≡ set mid (get_or nodes k 0 - 1) (put_one r e) → HasPut nodes r (k + 1) old new
put_more nodes r k old mid new e ok lt h it to =
    let low = ok.low k lt in
    let high = ok.high k lt in
    let long = h.long in
    let i = get_or nodes k 0 - 1 in
    let ie : i + 1 ≡ get_or nodes k 0 = omega (arith, low) in
    let n = length-set mid i (put_one r e) in
    let nl : length new ≡ length mid = ap length to ∙ n in
    let within : i < length mid = omega (arith, low, high, long) in
    let is : e ≡ get_or mid i no_end = it ∙ any_default mid i e no_end within in
    let here : get_or new i no_end ≡ put_one r e = ap (λ l. get_or l i no_end) to ∙ get_or-set_same mid i (put_one r e) no_end within in
    let else : (j : ℕ) → j ≢ i → get_or new j no_end ≡ get_or mid j no_end = λ j ne. ap (λ l. get_or l j no_end) to ∙ get_or-set_other mid i j (put_one r e) no_end ne in
    record {
      starts = ap (map (λ x. x.start)) to ∙ map-set_same (λ (x : EndView). x.start) mid i (put_one r e) no_end (ap (λ x. x.start) is) ∙ h.starts;
      lists = ap (map (λ x. x.told)) to ∙ map-set_same (λ (x : EndView). x.told) mid i (put_one r e) no_end (ap (λ x. x.told) is) ∙ h.lists;
      long = nl ∙ long;
      ready = λ m ltm.
          ⊎_elim
          (λ (x : m < k).
          let mlow = ok.low m (omega (arith, x, lt)) in
          let rise = ok.rising m k x lt in
          ap (λ y. y.waiting) (else (get_or nodes m 0 - 1) (λ eq. absurd (omega (arith, eq, mlow, low, rise)))) ∙ h.ready m x)
          (λ (x : m ≡ k). ap (λ j. (get_or new (get_or nodes j 0 - 1) no_end).waiting) x ∙ ap (λ y. y.waiting) here) (last_or m k ltm);
      rest = λ j ltj.
          ⊎_elim (λ (x : j ≡ i). inr (k, omega arith, omega arith, sym ie ∙ ap (λ y. y + 1) (sym x)))
          (λ (x : j ≢ i).
          ⊎_elim (λ (y : (get_or mid j no_end).waiting ≡ []). inl (ap (λ z. z.waiting) (else j x) ∙ y))
          (λ (y : (m : ℕ) × (0 ≤ m) × (m < k) × (get_or nodes m 0 ≡ j + 1)). inr (y.0, y.1, (let l = y.2 in omega (arith, l)), y.3)) (h.rest j (omega (arith, ltj, nl)))) (same_or j i);
    }

-- all that were asked are still to answer
pub heard_none : (nodes : List ℕ) (r : Request) (count : ℕ) (old new : List EndView) → HasPut nodes r count old new → HasHeard nodes r count [] new new
heard_none nodes r count old new h = record { starts = refl; lists = nothing nodes r (map (λ e. e.told) new); long = refl; ready = λ m le lt. h.ready m lt; rest = h.rest }

pub hear_waits : (nodes : List ℕ) (r : Request) (count k : ℕ) (answers : List Answer) (old new : List EndView) (e : EndView) → AreNodes (length old) nodes → count ≤ length nodes
    → HasHeard nodes r count answers old new
    → length answers ≡ k → k < count → e ≡ get_or new (get_or nodes k 0 - 1) e → e.waiting ≡ r ∷ []
hear_waits nodes r count k answers old new e ok few h n lt it =
    let within_nodes : k < length nodes = omega (arith, few, lt) in
    let low = ok.low k within_nodes in
    let high = ok.high k within_nodes in
    let long = h.long in
    ap (λ x. x.waiting) (it ∙ any_default new (get_or nodes k 0 - 1) e no_end (omega (arith, low, high, long))) ∙ h.ready k (omega (arith, n)) lt

pub heard_more : (nodes : List ℕ) (r : Request) (count k : ℕ) (answers : List Answer) (a : Answer) (old mid new : List EndView) (e : EndView)
    → AreNodes (length old) nodes → count ≤ length nodes → length answers ≡ k → k < count → HasHeard nodes r count answers old mid
    → e ≡ get_or mid (get_or nodes k 0 - 1) e → new ≡ set mid (get_or nodes k 0 - 1) (told_one r a e) → HasHeard nodes r count (answers ++ a ∷ []) old new
heard_more nodes r count k answers a old mid new e ok few n lt h it to =
    let within_nodes : k < length nodes = omega (arith, few, lt) in
    let low = ok.low k within_nodes in
    let high = ok.high k within_nodes in
    let long = h.long in
    let i = get_or nodes k 0 - 1 in
    let ie : i + 1 ≡ get_or nodes k 0 = omega (arith, low) in
    let nl : length new ≡ length mid = ap length to ∙ length-set mid i (told_one r a e) in
    let within : i < length mid = omega (arith, low, high, long) in
    let is : e ≡ get_or mid i no_end = it ∙ any_default mid i e no_end within in
    let here : get_or new i no_end ≡ told_one r a e = ap (λ l. get_or l i no_end) to ∙ get_or-set_same mid i (told_one r a e) no_end within in
    let else : (j : ℕ) → j ≢ i → get_or new j no_end ≡ get_or mid j no_end = λ j ne. ap (λ l. get_or l j no_end) to ∙ get_or-set_other mid i j (told_one r a e) no_end ne in
    let la = length-append answers (a ∷ []) in
    let more : gained nodes r (answers ++ a ∷ []) (map (λ x. x.told) old)
    ≡ set (gained nodes r answers (map (λ x. x.told) old)) i (get_or (gained nodes r answers (map (λ x. x.told) old)) i [] ++ call_of r a) =
    subst (λ q. gained nodes r (answers ++ a ∷ []) (map (λ x. x.told) old)
    ≡ set (gained nodes r answers (map (λ x. x.told) old)) (get_or nodes q 0 - 1) (get_or (gained nodes r answers (map (λ x. x.told) old)) (get_or nodes q 0 - 1) [] ++ call_of r a)) n
    (gained_more nodes r answers a (map (λ x. x.told) old) (omega (arith, n, within_nodes))) in
    let told : get_or (map (λ (x : EndView). x.told) mid) i [] ≡ e.told = get_or-map (λ (x : EndView). x.told) mid i no_end [] within ∙ sym (ap (λ x. x.told) is) in
    record {
      starts = ap (map (λ x. x.start)) to ∙ map-set_same (λ (x : EndView). x.start) mid i (told_one r a e) no_end (ap (λ x. x.start) is) ∙ h.starts;
      lists =
          ap (map (λ x. x.told)) to ∙ map-set (λ (x : EndView). x.told) mid i (told_one r a e) ∙ ap (λ l. set (map (λ (x : EndView). x.told) mid) i (l ++ call_of r a)) (sym told)
          ∙ ap (λ l. set l i (get_or l i [] ++ call_of r a)) h.lists ∙ sym more;
      long = nl ∙ long;
      ready = λ m lem ltm.
          let mw : m < length nodes = omega (arith, ltm, few) in
          let km : k < m = omega (arith, lem, la, n) in
          let rise = ok.rising k m km mw in
          ap (λ y. y.waiting) (else (get_or nodes m 0 - 1) (λ eq. absurd (omega (arith, eq, low, rise)))) ∙ h.ready m (omega (arith, n, km)) ltm;
      rest = λ j ltj.
          ⊎_elim (λ (x : j ≡ i). inl (ap (λ q. (get_or new q no_end).waiting) x ∙ ap (λ y. y.waiting) here))
          (λ (x : j ≢ i).
          ⊎_elim (λ (y : (get_or mid j no_end).waiting ≡ []). inl (ap (λ z. z.waiting) (else j x) ∙ y))
          (λ (y : (m : ℕ) × (length answers ≤ m) × (m < count) × (get_or nodes m 0 ≡ j + 1)).
          ⊎_elim (λ (z : k ≡ y.0). absurd (x (let f = y.3 in let g : get_or nodes k 0 ≡ j + 1 = ap (λ q. get_or nodes q 0) z ∙ f in omega (arith, g, ie))))
          (λ (z : k ≢ y.0). inr (y.0, (let l = y.1 in omega (arith, l, la, n, z)), y.2, y.3)) (same_or k y.0)) (h.rest j (omega (arith, ltj, nl)))) (same_or j i);
    }

-- once all were answered nothing is asked anywhere
pub heard_all : (nodes : List ℕ) (r : Request) (count : ℕ) (answers : List Answer) (old new : List EndView) → length answers ≡ count → HasHeard nodes r count answers old new
    → All (λ e. e.waiting ≡ []) new
heard_all nodes r count answers old new n h k d lt =
    ⊎_elim (λ (x : (get_or new k no_end).waiting ≡ []). ap (λ e. e.waiting) (any_default new k d no_end lt) ∙ x)
    (λ (x : (m : ℕ) × (length answers ≤ m) × (m < count) × (get_or nodes m 0 ≡ k + 1)). absurd (let a = x.1 in let b = x.2 in omega (arith, a, b, n))) (h.rest k lt)

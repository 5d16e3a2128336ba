-- Bodies in runs of places, and the steps of a ring.
use Rattle.std.proofs.Common.{◌≡◌, ℕ, zero, suc, ◌+◌, ◌*◌, ◌/◌, ◌%◌, ◌^◌, ◌<◌, ◌≤◌, List, [], ◌∷◌, ◌++◌, length, take, drop, refl, ap, sym, subst}
use Rattle.std.proofs.Common.{◌∙◌, append_assoc, arith, length-append, length-drop, length-take}
use Rattle.std.specs.Prelude.{Bool, true, false, ◌==◌, if◌then◌else◌, map, Option, Some}
use Rattle.std.proofs.lemmas.List.{take_at, drop_at, drop-drop, map-append, length-map, append-nil}
use Rattle.std.proofs.lemmas.Bool.Decides.{nat_tests}
use Rattle.disk_recent.proofs.Windows.{length-put, window_at, window_before, window_after}
use Rattle.std.proofs.Math.Seq.{take-add}
use Rattle.disk_recent.specs.Edits.{with_length, stored_bytes}
use Rattle.disk_recent.specs.Places.{put_at, values, length_at, parse_bodies, begins, every_sixteenth}
use Rattle.disk_recent.specs.Ring.{Holds, Laid, IsRing, HasWay, held_bodies, bodies_in}
use Rattle.disk_recent.specs.declared.run.Run.{Run}
use Rattle.disk_recent.specs.declared.ring.Ring.{Ring}

pub values-map : (xs : List ℕ) → values (map Some xs) ≡ xs
values-map [] = refl
values-map (x ∷ xs) = ap (λ l. x ∷ l) (values-map xs)

pub length_at-framed : (b rest : List ℕ) → length_at (with_length b ++ rest) ≡ length b
length_at-framed b rest = omega arith

pub parsed-stored : (bs : List (List ℕ)) → parse_bodies (length bs) (stored_bytes bs) ≡ bs
parsed-stored [] = refl
parsed-stored (b ∷ bs) =
    let n : length_at (stored_bytes (b ∷ bs)) ≡ length b = length_at-framed b (stored_bytes bs) in
    let e : 2 + length b ≡ suc (suc (length b)) = omega arith in
    rw n (rw (take_at b (stored_bytes bs) (length b) refl) (ap (λ l. b ∷ l)
    (ap (λ k. parse_bodies (length bs) (drop k (stored_bytes (b ∷ bs)))) e
    ∙ (ap (λ l. parse_bodies (length bs) l) (drop_at b (stored_bytes bs) (length b) refl) ∙ parsed-stored bs))))

pub stored-append : (xs ys : List (List ℕ)) → stored_bytes (xs ++ ys) ≡ stored_bytes xs ++ stored_bytes ys
stored-append [] ys = refl
stored-append (x ∷ xs) ys = rw (stored-append xs ys) (sym (append_assoc (with_length x) (stored_bytes xs) (stored_bytes ys)))

pub bodies-held : (cs : List (Option ℕ)) (r : Run) (bs : List (List ℕ)) → Holds cs r bs → bodies_in cs r ≡ bs
bodies-held cs r bs h = rw (h.lies, values-map (stored_bytes bs), h.counted) (parsed-stored bs)

pub sized : (cs : List (Option ℕ)) (r : Run) (bs : List (List ℕ)) → Holds cs r bs → r.size ≡ length (stored_bytes bs)
sized cs r bs h = omega (arith, h.within, ap length h.lies, length-map (stored_bytes bs) (λ (x : ℕ). Some x), length-take r.size (drop r.begin cs), length-drop r.begin cs)

pub is_ring : (r : Ring) (os ns : List (List ℕ)) → Laid r os ns → IsRing r
is_ring r os ns l = subst (λ (p : List (List ℕ) × List (List ℕ)). Laid r p.0 p.1) (λ i. (sym (bodies-held r.block r.older os l.older) i, sym (bodies-held r.block r.newer ns l.newer) i)) l

pub held_is : (r : Ring) (os ns : List (List ℕ)) → Laid r os ns → held_bodies r ≡ os ++ ns
held_is r os ns l = rw (bodies-held r.block r.older os l.older, bodies-held r.block r.newer ns l.newer) refl

pub length-stored : (bs : List (List ℕ)) → length bs * 2 ≤ length (stored_bytes bs)
length-stored [] = omega arith
length-stored (b ∷ bs) = omega (arith, length-stored bs, length-append b (stored_bytes bs))

stored_none : (bs : List (List ℕ)) → length bs ≡ 0 → length (stored_bytes bs) ≡ 0
stored_none [] e = refl
stored_none (b ∷ bs) e = absurd (omega arith)

-- a run of no entries takes no bytes
pub none_sized : (cs : List (Option ℕ)) (r : Run) (bs : List (List ℕ)) → Holds cs r bs → r.count ≡ 0 → r.size ≡ 0
none_sized cs r bs h e = sized cs r bs h ∙ stored_none bs (sym h.counted ∙ e)

-- what both runs take
pub all_sizes : (r : Ring) (os ns : List (List ℕ)) → Laid r os ns → r.older.size + r.newer.size ≤ length r.block
all_sizes r os ns l = by_count r.older.count refl
  where
    by_count : (n : ℕ) → r.older.count ≡ n → r.older.size + r.newer.size ≤ length r.block
    by_count zero e = omega (arith, none_sized r.block r.older os l.older e, l.newer.within)
    by_count (suc n) e = omega (arith, l.apart, l.older.within)

module _ where
  pub begins-append : (at : ℕ) (xs ys : List (List ℕ)) → begins at (xs ++ ys) ≡ begins at xs ++ begins (at + length (stored_bytes xs)) ys
  begins-append at [] ys = let e : at + 0 ≡ at = omega arith in rw e refl
  begins-append at (x ∷ xs) ys =
      let e : at + (length x + 2) + length (stored_bytes xs) ≡ at + length (stored_bytes (x ∷ xs)) = omega (arith, length-append x (stored_bytes xs)) in
      ap (λ l. at ∷ l) (begins-append (at + (length x + 2)) xs ys ∙ ap (λ k. begins (at + (length x + 2)) xs ++ begins k ys) e)

  pub length-begins : (at : ℕ) (xs : List (List ℕ)) → length (begins at xs) ≡ length xs
  length-begins at [] = refl
  length-begins at (x ∷ xs) = ap suc (length-begins (at + (length x + 2)) xs)

  chosen : (c : Bool) (p : ℕ) (xs ys : List ℕ) → (if c then p ∷ (xs ++ ys) else (xs ++ ys)) ≡ (if c then p ∷ xs else xs) ++ ys
  chosen true p xs ys = refl
  chosen false p xs ys = refl

  pub marked-append : (t : ℕ) (ps qs : List ℕ) → every_sixteenth t (ps ++ qs) ≡ every_sixteenth t ps ++ every_sixteenth (t + length ps) qs
  marked-append t [] qs = let e : t + 0 ≡ t = omega arith in rw e refl
  marked-append t (p ∷ ps) qs =
      let e : t + 1 + length ps ≡ t + suc (length ps) = omega arith in
      let on : every_sixteenth (t + 1) (ps ++ qs) ≡ every_sixteenth (t + 1) ps ++ every_sixteenth (t + suc (length ps)) qs =
      marked-append (t + 1) ps qs ∙ ap (λ k. every_sixteenth (t + 1) ps ++ every_sixteenth k qs) e in
      ap (λ (l : List ℕ). if (t % 16) == 0 then p ∷ l else l) on ∙ chosen ((t % 16) == 0) p (every_sixteenth (t + 1) ps) (every_sixteenth (t + suc (length ps)) qs)

  counted_one : (t p : ℕ) (xs : List ℕ) (c : Bool) → c ≡ ((t % 16) == 0) → length (if c then p ∷ xs else xs) + (t + 15) / 16 ≡ length xs + (t + 16) / 16
  counted_one t p xs true e = grind (arith, nat_tests)
  counted_one t p xs false e = grind (arith, nat_tests)

  pub length-marked : (t : ℕ) (ps : List ℕ) → length (every_sixteenth t ps) + (t + 15) / 16 ≡ (t + length ps + 15) / 16
  length-marked t [] = omega arith
  length-marked t (p ∷ ps) = omega (arith, counted_one t p (every_sixteenth (t + 1) ps) ((t % 16) == 0) refl, length-marked (t + 1) ps)

-- how many entries there are at most
pub all_counts : (r : Ring) (os ns : List (List ℕ)) → Laid r os ns → (length os + length ns) * 2 ≤ length r.block
all_counts r os ns l =
    omega (arith, all_sizes r os ns l, sized r.block r.older os l.older, sized r.block r.newer ns l.newer, length-stored os, length-stored ns)

-- how many marks there are
pub mark_count : (r : Ring) (os ns : List (List ℕ)) → Laid r os ns → length r.marks.items * 16 ≤ length os + length ns + 15
mark_count r os ns l =
    let ps : List ℕ = begins r.older.begin os ++ begins r.newer.begin ns in
    let n : length ps ≡ length os + length ns = omega (arith, length-append (begins r.older.begin os) (begins r.newer.begin ns), length-begins r.older.begin os, length-begins r.newer.begin ns) in
    omega (arith, ap length l.marks, length-marked r.first ps)

-- what a write beside a run leaves of it
holds_same : (cs ds : List (Option ℕ)) (r : Run) (bs : List (List ℕ)) → Holds cs r bs → length ds ≡ length cs → take r.size (drop r.begin ds) ≡ take r.size (drop r.begin cs) → Holds ds r bs
holds_same cs ds r bs h n e = record { counted = h.counted; within = omega arith; lies = e ∙ h.lies }

module _ (r : Ring) (os ns : List (List ℕ)) (l : Laid r os ns) (b : List ℕ) (short : length b ≤ 4096) (way : HasWay r (length b + 2)) where
  abbrev place : ℕ
  place = r.newer.begin + r.newer.size

  abbrev written : List (Option ℕ)
  written = put_at r.block place (with_length b)

  abbrev longer : Run
  longer = record { begin = r.newer.begin; size = r.newer.size + (length b + 2); count = r.newer.count + 1 }

  length-framed : length (with_length b) ≡ length b + 2
  length-framed = omega arith

  fits : place + length (with_length b) ≤ length r.block
  fits = omega (arith, length-framed)

  older_stays : Holds written r.older os
  older_stays = holds_same r.block written r.older os l.older (length-put r.block place (with_length b) fits) (by_count r.older.count refl)
    where
      by_count : (n : ℕ) → r.older.count ≡ n → take r.older.size (drop r.older.begin written) ≡ take r.older.size (drop r.older.begin r.block)
      by_count zero e = let none : r.older.size ≡ 0 = none_sized r.block r.older os l.older e in rw none refl
      by_count (suc n) e = window_after r.block place (with_length b) fits r.older.begin r.older.size (omega (arith, l.start, way.1, length-framed))

  newer_holds : Holds written longer (ns ++ b ∷ [])
  newer_holds = record {
    counted = omega (arith, l.newer.counted, length-append ns (b ∷ []));
    within = omega (arith, length-put r.block place (with_length b) fits);
    lies =
        let m : ℕ = length b + 2 in let X : List (Option ℕ) = drop r.newer.begin written in
        let left : take r.newer.size X ≡ map Some (stored_bytes ns) = window_before r.block place (with_length b) fits r.newer.begin r.newer.size (omega arith) ∙ l.newer.lies in
        let right : take m (drop r.newer.size X) ≡ map Some (with_length b) =
        ap (λ (k : ℕ). take k (drop r.newer.size X)) (sym length-framed)
        ∙ (ap (λ (xs : List (Option ℕ)). take (length (with_length b)) xs) (drop-drop r.newer.size r.newer.begin written)
        ∙ window_at r.block place (with_length b) fits) in
        let all : map Some (stored_bytes ns) ++ map Some (with_length b) ≡ map Some (stored_bytes (ns ++ b ∷ [])) =
        sym (map-append (λ (x : ℕ). Some x) (stored_bytes ns) (with_length b))
        ∙ ap (λ (xs : List ℕ). map Some xs) (ap (λ (xs : List ℕ). stored_bytes ns ++ xs) (sym (append-nil (with_length b)))
        ∙ sym (stored-append ns (b ∷ []))) in
        take-add r.newer.size m X ∙ (ap (λ (xs : List (Option ℕ)). xs ++ take m (drop r.newer.size X)) left ∙ (ap (λ (xs : List (Option ℕ)). map Some (stored_bytes ns) ++ xs) right ∙ all));
  }

  more_marks : r.marks.items ++ every_sixteenth (r.first + (length os + length ns)) (place ∷ []) ≡ every_sixteenth r.first (begins r.older.begin os ++ begins r.newer.begin (ns ++ b ∷ []))
  more_marks =
      let first : List ℕ = begins r.older.begin os in let second : List ℕ = begins r.newer.begin ns in
      let count : length (first ++ second) ≡ length os + length ns = omega (arith, length-append first second, length-begins r.older.begin os, length-begins r.newer.begin ns) in
      let at : r.newer.begin + length (stored_bytes ns) ≡ place = omega (arith, sized r.block r.newer ns l.newer) in
      let last : begins r.newer.begin (ns ++ b ∷ []) ≡ second ++ place ∷ [] = begins-append r.newer.begin ns (b ∷ []) ∙ ap (λ (k : ℕ). second ++ k ∷ []) at in
      let all : (first ++ second) ++ place ∷ [] ≡ first ++ begins r.newer.begin (ns ++ b ∷ []) = append_assoc first second (place ∷ []) ∙ ap (λ (ps : List ℕ). first ++ ps) (sym last) in
      ap (λ (ms : List ℕ). ms ++ every_sixteenth (r.first + (length os + length ns)) (place ∷ [])) l.marks ∙
      (ap (λ (k : ℕ). every_sixteenth r.first (first ++ second) ++ every_sixteenth (r.first + k) (place ∷ [])) (sym count) ∙
      (sym (marked-append r.first (first ++ second) (place ∷ [])) ∙ ap (λ (ps : List ℕ). every_sixteenth r.first ps) all))

  -- one more entry
  pub laid_put : (s : Ring) → s.block ≡ written → s.older ≡ r.older → s.newer ≡ longer → s.first ≡ r.first → s.marks.capacity ≡ r.marks.capacity
      → s.marks.items ≡ r.marks.items ++ every_sixteenth (r.first + (length os + length ns)) (place ∷ []) → r.first + length os + length ns < 2 ^ 64 → Laid s os (ns ++ b ∷ [])
  laid_put s eb eo en ef ec em number =
      let n : length s.block ≡ length r.block = ap length eb ∙ length-put r.block place (with_length b) fits in
      let older : Holds s.block s.older os = subst (λ (p : List (Option ℕ) × Run). Holds p.0 p.1 os) (λ i. (sym eb i, sym eo i)) older_stays in
      let newer : Holds s.block s.newer (ns ++ b ∷ []) = subst (λ (p : List (Option ℕ) × Run). Holds p.0 p.1 (ns ++ b ∷ [])) (λ i. (sym eb i, sym en i)) newer_holds in
      let co : s.older.count ≡ r.older.count = ap (λ (q : Run). q.count) eo in
      let bo : s.older.begin ≡ r.older.begin = ap (λ (q : Run). q.begin) eo in
      let so : s.older.size ≡ r.older.size = ap (λ (q : Run). q.size) eo in
      let bn : s.newer.begin ≡ r.newer.begin = ap (λ (q : Run). q.begin) en in
      let sn : s.newer.size ≡ r.newer.size + (length b + 2) = ap (λ (q : Run). q.size) en in
      record {
        low = omega (arith, l.low);
        high = omega (arith, l.high);
        older = older;
        newer = newer;
        start = λ h. omega (arith, l.start);
        apart = λ h. omega (arith, way.1);
        gap = λ h. omega (arith, l.gap);
        marks = em ∙ (more_marks ∙ ap (λ (p : ℕ × ℕ × ℕ). every_sixteenth p.0 (begins p.1 os ++ begins p.2 (ns ++ b ∷ []))) (λ i. (sym ef i, sym bo i, sym bn i)));
        room = omega (arith, l.room);
        numbers = omega (arith, length-append ns (b ∷ []));
      }

-- the newer run becomes the older one
pub laid_turn : (r : Ring) (ns : List (List ℕ)) (size : ℕ) → Laid r [] ns → size ≤ 4098 → length r.block < r.newer.begin + r.newer.size + size
    → (s : Ring) → s.block ≡ r.block → s.marks ≡ r.marks → s.first ≡ r.first → s.older ≡ r.newer → s.newer ≡ record { begin = 0; size = 0; count = 0 } → Laid s ns []
laid_turn r ns size l small full s eb em ef eo en =
    let bn : s.newer.begin ≡ 0 = ap (λ (q : Run). q.begin) en in
    let sn : s.newer.size ≡ 0 = ap (λ (q : Run). q.size) en in
    let cn : s.newer.count ≡ 0 = ap (λ (q : Run). q.count) en in
    let bo : s.older.begin ≡ r.newer.begin = ap (λ (q : Run). q.begin) eo in
    let so : s.older.size ≡ r.newer.size = ap (λ (q : Run). q.size) eo in
    let n : length s.block ≡ length r.block = ap length eb in
    record {
      low = omega (arith, l.low);
      high = omega (arith, l.high);
      older = subst (λ (p : List (Option ℕ) × Run). Holds p.0 p.1 ns) (λ i. (sym eb i, sym eo i)) l.newer;
      newer = record { counted = cn; within = omega arith; lies = rw sn refl };
      start = λ h. bn;
      apart = λ h. omega arith;
      gap = λ h. omega arith;
      marks = rw (em, l.marks, ef, bo, append-nil) refl;
      room = rw (em, n) l.room;
      numbers = omega (arith, l.numbers);
    }

-- where an entry doesn't fit at the end of the block, there is no older run
pub no_older : (r : Ring) (os ns : List (List ℕ)) (size : ℕ) → Laid r os ns → length (stored_bytes (os ++ ns)) + size + 4098 ≤ length r.block
    → length r.block < r.newer.begin + r.newer.size + size → os ≡ []
no_older r [] ns size l fits full = refl
no_older r (o ∷ os) ns size l fits full =
    let some : 0 < r.older.count = omega (arith, l.older.counted) in
    absurd (omega (
      arith,
      l.start some,
      l.apart some,
      l.gap some,
      l.older.within,
      ap length (stored-append (o ∷ os) ns),
      length-append (stored_bytes (o ∷ os)) (stored_bytes ns),
      sized r.block r.older (o ∷ os) l.older,
      sized r.block r.newer ns l.newer,
    ))

-- the way at the end of the block
pub way_at_end : (r : Ring) (os ns : List (List ℕ)) (size : ℕ) → Laid r os ns → length (stored_bytes (os ++ ns)) + size + 4098 ≤ length r.block
    → r.newer.begin + r.newer.size + size ≤ length r.block → HasWay r size
way_at_end r os ns size l fits free = (
  free,
  λ some. omega (
    arith,
    l.start some,
    l.apart some,
    l.gap some,
    l.older.within,
    ap length (stored-append os ns),
    length-append (stored_bytes os) (stored_bytes ns),
    sized r.block r.older os l.older,
    sized r.block r.newer ns l.newer,
  ),
)

-- The first entry of a run is read and dropped, and the entries of a run are gone through.
use Rattle.std.proofs.Common.{◌≡◌, ℕ, zero, suc, ◌+◌, ◌-◌, ◌/◌, ◌%◌, ◌<◌, ◌≤◌, List, [], ◌∷◌, ◌++◌, length, get_or, take, drop, refl, ap, sym, subst, ◌∙◌, arith, length-append, length-drop}
use Rattle.std.specs.Prelude.{Bool, true, false, ◌==◌, if◌then◌else◌, map, Option, Some}
use Rattle.std.proofs.lemmas.Bool.Decides.{nat_tests}
use Rattle.std.proofs.lemmas.List.{take_all, take_more, drop_more, drop-append-le, get_or_append_left, get_or-append-add, take_at, drop_at, drop-drop, drop-take, take-take, drop-map}
use Rattle.disk_recent.specs.Edits.{with_length, stored_bytes, IsStored}
use Rattle.disk_recent.specs.Owned.{IsWritten}
use Rattle.disk_recent.specs.Places.{values, length_at, begins, every_sixteenth}
use Rattle.disk_recent.specs.Ring.{Holds, Laid}
use Rattle.disk_recent.specs.declared.run.Run.{Run}
use Rattle.disk_recent.specs.declared.ring.Ring.{Ring}
use Rattle.disk_recent.proofs.Rings.{sized, values-map, stored-append, length-begins}

-- the two bytes before a body
abbrev pub head_of : List ℕ → List ℕ
head_of b = length b / 256 ∷ length b % 256 ∷ []

module _ (cs : List (Option ℕ)) (r : Run) (b : List ℕ) (bs : List (List ℕ)) (h : Holds cs r (b ∷ bs)) where
  pub first_sized : r.size ≡ length b + 2 + length (stored_bytes bs)
  first_sized = omega (arith, sized cs r (b ∷ bs) h, length-append b (stored_bytes bs))

  pub head_lies : take 2 (drop r.begin cs) ≡ map Some (head_of b)
  head_lies = sym (take-take 2 r.size (drop r.begin cs) (omega (arith, first_sized))) ∙ ap (λ (xs : List (Option ℕ)). take 2 xs) h.lies

  pub head_written : IsWritten cs r.begin 2
  head_written = (omega (arith, first_sized, h.within), (head_of b, head_lies))

  -- the run without its first entry
  pub holds_after : (q : Run) → q.begin ≡ r.begin + (length b + 2) → q.size ≡ length (stored_bytes bs) → q.count ≡ length bs → Holds cs q bs
  holds_after q eb es ec =
      let m : ℕ = length b + 2 in let k : ℕ = length (stored_bytes bs) in let X : List (Option ℕ) = drop r.begin cs in
      let sum : m + k ≡ r.size = omega (arith, first_sized) in
      let m-is : m ≡ length (with_length b) = omega arith in
      let stored-on : drop m (stored_bytes (b ∷ bs)) ≡ stored_bytes bs = drop_at (with_length b) (stored_bytes bs) m (sym m-is) in
      record {
        counted = ec;
        within = omega (arith, first_sized, h.within);
        lies =
            ap (λ (p : ℕ × ℕ). take p.0 (drop p.1 cs)) (λ i. (es i, eb i)) ∙ (ap (λ (xs : List (Option ℕ)). take k xs) (sym (drop-drop m r.begin cs)) ∙ (sym (drop-take m k X) ∙
            (ap (λ (n : ℕ). drop m (take n X)) sum ∙ (ap (λ (xs : List (Option ℕ)). drop m xs) h.lies
            ∙ (drop-map (λ (x : ℕ). Some x) m (stored_bytes (b ∷ bs)) ∙ ap (λ (xs : List ℕ). map Some xs) stored-on)))));
      }

pub map_some : (xs ys : List ℕ) → map Some xs ≡ map Some ys → xs ≡ ys
map_some xs ys e = sym (values-map xs) ∙ (ap (λ (cs : List (Option ℕ)). values cs) e ∙ values-map ys)

-- what is read before a body
pub length_at-head : (b : List ℕ) → length_at (head_of b) ≡ length b
length_at-head b = omega arith

-- the mark of the first entry goes with it
chosen_first : (c : Bool) (p : ℕ) (ms none : List ℕ) → none ≡ [] → drop (length (if c then 0 ∷ none else none)) (if c then p ∷ ms else ms) ≡ ms
chosen_first true p ms none e = ap (λ (l : List ℕ). drop (suc (length l)) (p ∷ ms)) e
chosen_first false p ms none e = ap (λ (l : List ℕ). drop (length l) ms) e

pub unmarked : (t p : ℕ) (ps : List ℕ) → drop (length (every_sixteenth t (0 ∷ []))) (every_sixteenth t (p ∷ ps)) ≡ every_sixteenth (t + 1) ps
unmarked t p ps = chosen_first ((t % 16) == 0) p (every_sixteenth (t + 1) ps) [] refl

-- the older run without its first entry
pub laid_older : (r : Ring) (o : List ℕ) (os ns : List (List ℕ)) → Laid r (o ∷ os) ns
    → (s : Ring) → s.block ≡ r.block → s.newer ≡ r.newer → s.first ≡ r.first + 1 → s.older.begin ≡ r.older.begin + (length o + 2)
    → s.older.size ≡ r.older.size - (length o + 2) → s.older.count ≡ r.older.count - 1
    → s.marks.capacity ≡ r.marks.capacity → s.marks.items ≡ drop (length (every_sixteenth r.first (0 ∷ []))) r.marks.items → Laid s os ns
laid_older r o os ns l s eb en ef bo so co ec em =
    let all : r.older.size ≡ length o + 2 + length (stored_bytes os) = first_sized r.block r.older o os l.older in
    let n : length s.block ≡ length r.block = ap length eb in
    let bn : s.newer.begin ≡ r.newer.begin = ap (λ (q : Run). q.begin) en in
    let sn : s.newer.size ≡ r.newer.size = ap (λ (q : Run). q.size) en in
    let some : 0 < r.older.count = omega (arith, l.older.counted) in
    record {
      low = omega (arith, l.low);
      high = omega (arith, l.high);
      older = subst (λ (cs : List (Option ℕ)). Holds cs s.older os) (sym eb) (holds_after r.block r.older o os l.older s.older bo (omega arith) (omega (arith, l.older.counted)));
      newer = subst (λ (p : List (Option ℕ) × Run). Holds p.0 p.1 ns) (λ i. (sym eb i, sym en i)) l.newer;
      start = λ h. omega (arith, l.start some);
      apart = λ h. omega (arith, l.apart some);
      gap = λ h. omega (arith, l.gap some);
      marks = em ∙ (ap (λ (ms : List ℕ). drop (length (every_sixteenth r.first (0 ∷ []))) ms) l.marks
          ∙ (unmarked r.first r.older.begin (begins (r.older.begin + (length o + 2)) os ++ begins r.newer.begin ns) ∙
          ap (λ (p : ℕ × ℕ × ℕ). every_sixteenth p.0 (begins p.1 os ++ begins p.2 ns)) (λ i. (sym ef i, sym bo i, sym bn i))));
      room = omega (arith, l.room);
      numbers = omega (arith, l.numbers);
    }

-- the newer run without its first entry
pub laid_newer : (r : Ring) (n : List ℕ) (ns : List (List ℕ)) → Laid r [] (n ∷ ns)
    → (s : Ring) → s.block ≡ r.block → s.older ≡ r.older → s.first ≡ r.first + 1 → s.newer.begin ≡ r.newer.begin + (length n + 2)
    → s.newer.size ≡ r.newer.size - (length n + 2) → s.newer.count ≡ r.newer.count - 1
    → s.marks.capacity ≡ r.marks.capacity → s.marks.items ≡ drop (length (every_sixteenth r.first (0 ∷ []))) r.marks.items → Laid s [] ns
laid_newer r n ns l s eb eo ef bn sn cn ec em =
    let all : r.newer.size ≡ length n + 2 + length (stored_bytes ns) = first_sized r.block r.newer n ns l.newer in
    let len : length s.block ≡ length r.block = ap length eb in
    let co : s.older.count ≡ r.older.count = ap (λ (q : Run). q.count) eo in
    record {
      low = omega (arith, l.low);
      high = omega (arith, l.high);
      older = subst (λ (p : List (Option ℕ) × Run). Holds p.0 p.1 []) (λ i. (sym eb i, sym eo i)) l.older;
      newer = subst (λ (cs : List (Option ℕ)). Holds cs s.newer ns) (sym eb) (holds_after r.block r.newer n ns l.newer s.newer bn (omega arith) (omega (arith, l.newer.counted)));
      start = λ h. absurd (omega (arith, l.older.counted));
      apart = λ h. absurd (omega (arith, l.older.counted));
      gap = λ h. absurd (omega (arith, l.older.counted));
      marks = em ∙ (ap (λ (ms : List ℕ). drop (length (every_sixteenth r.first (0 ∷ []))) ms) l.marks ∙ (unmarked r.first r.newer.begin (begins (r.newer.begin + (length n + 2)) ns) ∙
          ap (λ (p : ℕ × ℕ). every_sixteenth p.0 (begins p.1 ns)) (λ i. (sym ef i, sym bn i))));
      room = omega (arith, l.room);
      numbers = omega (arith, l.numbers);
    }

-- the length before the first body of a run, as it is read
abbrev pub IsRead : List (Option ℕ) → ℕ → ℕ → Type 0
IsRead cs at m = (xs : List ℕ) → take 2 (drop at cs) ≡ map Some xs → m ≡ length_at xs + 2

pub read_is : (cs : List (Option ℕ)) (r : Run) (b : List ℕ) (bs : List (List ℕ)) (m : ℕ) → Holds cs r (b ∷ bs) → IsRead cs r.begin m → m ≡ length b + 2
read_is cs r b bs m h e = e (head_of b) (head_lies cs r b bs h) ∙ ap (λ (k : ℕ). k + 2) (length_at-head b)

-- the first entry of a run that isn't empty
pub some_written : (cs : List (Option ℕ)) (r : Run) (bs : List (List ℕ)) → Holds cs r bs → 0 < r.count → IsWritten cs r.begin 2
some_written cs r [] h some = absurd (omega (arith, h.counted))
some_written cs r (b ∷ bs) h some = head_written cs r b bs h

pub some_sized : (cs : List (Option ℕ)) (r : Run) (bs : List (List ℕ)) (m : ℕ) → Holds cs r bs → 0 < r.count → IsRead cs r.begin m → m ≤ r.size
some_sized cs r [] m h some e = absurd (omega (arith, h.counted))
some_sized cs r (b ∷ bs) m h some e = omega (arith, read_is cs r b bs m h e, first_sized cs r b bs h)

-- the ring without the first entry of its older run
pub older_dropped : (r : Ring) (os ns : List (List ℕ)) → Laid r os ns → 0 < r.older.count → (m : ℕ) → IsRead r.block r.older.begin m
    → (s : Ring) → s.block ≡ r.block → s.newer ≡ r.newer → s.first ≡ r.first + 1 → s.older.begin ≡ r.older.begin + m → s.older.size ≡ r.older.size - m → s.older.count ≡ r.older.count - 1
    → s.marks.capacity ≡ r.marks.capacity → s.marks.items ≡ drop (length (every_sixteenth r.first (0 ∷ []))) r.marks.items → Laid s (drop 1 os) ns × (drop 1 os ++ ns ≡ drop 1 (os ++ ns))
older_dropped r [] ns l some m e s eb en ef bo so co ec em = absurd (omega (arith, l.older.counted))
older_dropped r (o ∷ os) ns l some m e s eb en ef bo so co ec em =
    let is : m ≡ length o + 2 = read_is r.block r.older o os m l.older e in
    (laid_older r o os ns l s eb en ef (bo ∙ ap (λ (k : ℕ). r.older.begin + k) is) (so ∙ ap (λ (k : ℕ). r.older.size - k) is) co ec em, refl)

-- the ring without the first entry of its newer run, where the older has none
pub newer_dropped : (r : Ring) (os ns : List (List ℕ)) → Laid r os ns → r.older.count ≡ 0 → 0 < r.newer.count → (m : ℕ) → IsRead r.block r.newer.begin m
    → (s : Ring) → s.block ≡ r.block → s.older ≡ r.older → s.first ≡ r.first + 1 → s.newer.begin ≡ r.newer.begin + m → s.newer.size ≡ r.newer.size - m → s.newer.count ≡ r.newer.count - 1
    → s.marks.capacity ≡ r.marks.capacity → s.marks.items ≡ drop (length (every_sixteenth r.first (0 ∷ []))) r.marks.items → Laid s os (drop 1 ns) × (os ++ drop 1 ns ≡ drop 1 (os ++ ns))
newer_dropped r (o ∷ os) ns l none some m e s eb eo ef bn sn cn ec em = absurd (omega (arith, l.older.counted))
newer_dropped r [] [] l none some m e s eb eo ef bn sn cn ec em = absurd (omega (arith, l.newer.counted))
newer_dropped r [] (n ∷ ns) l none some m e s eb eo ef bn sn cn ec em =
    let is : m ≡ length n + 2 = read_is r.block r.newer n ns m l.newer e in
    (laid_newer r n ns l s eb eo ef (bn ∙ ap (λ (k : ℕ). r.newer.begin + k) is) (sn ∙ ap (λ (k : ℕ). r.newer.size - k) is) cn ec em, refl)

-- the k-th place of a run
pub begins_at : (at : ℕ) (bs : List (List ℕ)) (k : ℕ) → k < length bs → get_or (begins at bs) k 0 ≡ at + length (stored_bytes (take k bs))
begins_at at [] k h = absurd (omega arith)
begins_at at (b ∷ bs) zero h = omega arith
begins_at at (b ∷ bs) (suc k) h = begins_at (at + (length b + 2)) bs k (omega arith) ∙ omega (arith, length-append b (stored_bytes (take k bs)))

-- the mark of the j-th entry, where its txid is marked
mark_step : (t j p x : ℕ) (ms : List ℕ) (c : Bool) → c ≡ ((t % 16) == 0) → (t + suc j) % 16 ≡ 0 → get_or ms (j / 16) 0 ≡ x → get_or (if c then p ∷ ms else ms) (suc j / 16) 0 ≡ x
mark_step t j p x ms true e m h =
    let up : suc j / 16 ≡ suc (j / 16) = grind (arith, nat_tests) in
    rw up h
mark_step t j p x ms false e m h =
    let up : suc j / 16 ≡ j / 16 = grind (arith, nat_tests) in
    rw up h

mark_first : (t p : ℕ) (ms : List ℕ) (c : Bool) → c ≡ ((t % 16) == 0) → t % 16 ≡ 0 → get_or (if c then p ∷ ms else ms) 0 0 ≡ p
mark_first t p ms true e m = refl
mark_first t p ms false e m = absurd (grind (arith, nat_tests))

pub mark_at : (t : ℕ) (ps : List ℕ) (j : ℕ) → j < length ps → (t + j) % 16 ≡ 0 → get_or (every_sixteenth t ps) (j / 16) 0 ≡ get_or ps j 0
mark_at t [] j h m = absurd (omega arith)
mark_at t (p ∷ ps) zero h m = mark_first t p (every_sixteenth (t + 1) ps) ((t % 16) == 0) refl (omega arith)
mark_at t (p ∷ ps) (suc j) h m =
    mark_step t j p (get_or ps j 0) (every_sixteenth (t + 1) ps) ((t % 16) == 0) refl m (mark_at (t + 1) ps j (omega arith) (omega arith))

-- there is such a mark
within_step : (t j p : ℕ) (ms : List ℕ) (c : Bool) → c ≡ ((t % 16) == 0) → (t + suc j) % 16 ≡ 0 → j / 16 < length ms → suc j / 16 < length (if c then p ∷ ms else ms)
within_step t j p ms true e m h = omega arith
within_step t j p ms false e m h =
    let up : suc j / 16 ≡ j / 16 = grind (arith, nat_tests) in
    rw up h

within_first : (t p : ℕ) (ms : List ℕ) (c : Bool) → c ≡ ((t % 16) == 0) → t % 16 ≡ 0 → 0 < length (if c then p ∷ ms else ms)
within_first t p ms true e m = omega arith
within_first t p ms false e m = absurd (grind (arith, nat_tests))

pub mark_within : (t : ℕ) (ps : List ℕ) (j : ℕ) → j < length ps → (t + j) % 16 ≡ 0 → j / 16 < length (every_sixteenth t ps)
mark_within t [] j h m = absurd (omega arith)
mark_within t (p ∷ ps) zero h m = within_first t p (every_sixteenth (t + 1) ps) ((t % 16) == 0) refl (omega arith)
mark_within t (p ∷ ps) (suc j) h m = within_step t j p (every_sixteenth (t + 1) ps) ((t % 16) == 0) refl m (mark_within (t + 1) ps j (omega arith) (omega arith))

-- the run from its i-th entry on
pub record From (cs : List (Option ℕ)) (r : Run) (bs : List (List ℕ)) (i : ℕ) : Type 0 where
  pub rest : Run
  pub begin : rest.begin ≡ r.begin + length (stored_bytes (take i bs))
  pub end : rest.begin + rest.size ≡ r.begin + r.size
  pub holds : Holds cs rest (drop i bs)

pub run_from : (cs : List (Option ℕ)) (r : Run) (bs : List (List ℕ)) (i : ℕ) → i ≤ length bs → Holds cs r bs → From cs r bs i
run_from cs r bs zero le h = record { rest = r; begin = omega arith; end = refl; holds = h }
run_from cs r [] (suc i) le h = absurd (omega arith)
run_from cs r (b ∷ bs) (suc i) le h =
    let q : Run = record { begin = r.begin + (length b + 2); size = length (stored_bytes bs); count = length bs } in
    let f = run_from cs q bs i (omega arith) (holds_after cs r b bs h q refl refl refl) in
    record { rest = f.rest; begin = f.begin ∙ omega (arith, length-append b (stored_bytes (take i bs))); end = f.end ∙ omega (arith, first_sized cs r b bs h); holds = f.holds }

-- the i-th entry of a run
pub record At (cs : List (Option ℕ)) (r : Run) (bs : List (List ℕ)) (i : ℕ) : Type 0 where
  pub written : IsWritten cs (r.begin + length (stored_bytes (take i bs))) 2
  pub read : (m : ℕ) → IsRead cs (r.begin + length (stored_bytes (take i bs))) m → m ≡ length (get_or bs i []) + 2
  pub step : r.begin + length (stored_bytes (take i bs)) + (length (get_or bs i []) + 2) ≡ r.begin + length (stored_bytes (take (i + 1) bs))
  pub within : r.begin + length (stored_bytes (take (i + 1) bs)) ≤ r.begin + r.size

pub entry_at : (cs : List (Option ℕ)) (r : Run) (bs : List (List ℕ)) (i : ℕ) → i < length bs → Holds cs r bs → At cs r bs i
entry_at cs r bs i lt h =
    let f = run_from cs r bs i (omega arith) h in
    let b : List ℕ = get_or bs i [] in
    let opened : drop i bs ≡ b ∷ drop (i + 1) bs = drop_more bs i [] lt in
    let here : Holds cs f.rest (b ∷ drop (i + 1) bs) = subst (λ (l : List (List ℕ)). Holds cs f.rest l) opened f.holds in
    let more : stored_bytes (take (i + 1) bs) ≡ stored_bytes (take i bs) ++ (with_length b ++ []) =
    ap (λ (l : List (List ℕ)). stored_bytes l) (take_more bs i [] lt) ∙ stored-append (take i bs) (b ∷ []) in
    let longer : length (stored_bytes (take (i + 1) bs)) ≡ length (stored_bytes (take i bs)) + (length b + 2) =
    omega (arith, ap length more, length-append (stored_bytes (take i bs)) (with_length b ++ []), length-append b []) in
    record {
      written = subst (λ (k : ℕ). IsWritten cs k 2) f.begin (head_written cs f.rest b (drop (i + 1) bs) here);
      read = λ m e. read_is cs f.rest b (drop (i + 1) bs) m here (subst (λ (k : ℕ). IsRead cs k m) (sym f.begin) e);
      step = omega (arith, longer);
      within = omega (arith, f.begin, f.end, longer, first_sized cs f.rest b (drop (i + 1) bs) here);
    }

-- what stands from the i-th entry of a run on
pub record Tail (cs : List (Option ℕ)) (r : Run) (bs : List (List ℕ)) (i : ℕ) : Type 0 where
  pub before : r.begin + length (stored_bytes (take i bs)) ≤ r.begin + r.size
  pub lies : take (r.begin + r.size - (r.begin + length (stored_bytes (take i bs)))) (drop (r.begin + length (stored_bytes (take i bs))) cs) ≡ map Some (stored_bytes (drop i bs))

pub tail_at : (cs : List (Option ℕ)) (r : Run) (bs : List (List ℕ)) (i : ℕ) → i ≤ length bs → Holds cs r bs → Tail cs r bs i
tail_at cs r bs i le h =
    let f = run_from cs r bs i le h in
    let size : f.rest.size ≡ r.begin + r.size - (r.begin + length (stored_bytes (take i bs))) = omega (arith, f.begin, f.end) in
    record {
      before = omega (arith, f.begin, f.end);
      lies = ap (λ (p : ℕ × ℕ). take p.0 (drop p.1 cs)) (λ j. (sym size j, sym f.begin j)) ∙ f.holds.lies;
    }

-- the places of the older entries and of the newer ones
module _ (r : Ring) (os ns : List (List ℕ)) (l : Laid r os ns) where
  pub older_places : (k : ℕ) → k < r.older.count → get_or (begins r.older.begin os ++ begins r.newer.begin ns) (r.first - r.first + k) 0 ≡ r.older.begin + length (stored_bytes (take k os))
  older_places k h =
      let e : r.first - r.first + k ≡ k = omega arith in
      let inside : k < length os = omega (arith, l.older.counted) in
      rw e (get_or_append_left (begins r.older.begin os) (begins r.newer.begin ns) 0 k (omega (arith, length-begins r.older.begin os)) ∙ begins_at r.older.begin os k inside)

  pub newer_places : (k : ℕ) → k < r.newer.count → get_or (begins r.older.begin os ++ begins r.newer.begin ns) (r.first + r.older.count - r.first + k)
      0 ≡ r.newer.begin + length (stored_bytes (take k ns))
  newer_places k h =
      let e : r.first + r.older.count - r.first + k ≡ length (begins r.older.begin os) + k = omega (arith, l.older.counted, length-begins r.older.begin os) in
      rw e (get_or-append-add (begins r.older.begin os) (begins r.newer.begin ns) k 0 ∙ begins_at r.newer.begin ns k (omega (arith, l.newer.counted)))

-- the bytes of the older entries from one on, and of the newer ones
pub stored_older : (os ns : List (List ℕ)) (j : ℕ) (xs : List ℕ) → j < length os → xs ≡ stored_bytes (drop j os) → IsStored (drop j (os ++ ns)) xs
stored_older os ns j xs h e =
    let cut : drop j (os ++ ns) ≡ drop j os ++ ns = drop-append-le j os ns (omega arith) in
    let whole : take (length (drop j os)) (drop j (os ++ ns)) ≡ drop j os = ap (λ (l : List (List ℕ)). take (length (drop j os)) l) cut ∙ take_at (drop j os) ns (length (drop j os)) refl in
    (length (drop j os), omega (arith, length-drop j os), omega (arith, ap length cut, length-append (drop j os) ns), e ∙ ap (λ (l : List (List ℕ)). stored_bytes l) (sym whole))

pub stored_newer : (os ns : List (List ℕ)) (j : ℕ) (xs : List ℕ) → length os ≤ j → j < length os + length ns → xs ≡ stored_bytes (drop (j - length os) ns) → IsStored (drop j (os ++ ns)) xs
stored_newer os ns j xs low high e =
    let k : ℕ = j - length os in
    let sum : j ≡ length os + k = omega arith in
    let cut : drop j (os ++ ns) ≡ drop k ns = ap (λ (n : ℕ). drop n (os ++ ns)) sum
    ∙ (sym (drop-drop k (length os) (os ++ ns)) ∙ ap (λ (l : List (List ℕ)). drop k l) (drop_at os ns (length os) refl)) in
    let whole : take (length (drop j (os ++ ns))) (drop j (os ++ ns)) ≡ drop k ns = take_all (length (drop j (os ++ ns))) (drop j (os ++ ns)) (omega arith) ∙ cut in
    (length (drop j (os ++ ns)), omega (arith, ap length cut, length-drop k ns), omega arith, e ∙ ap (λ (l : List (List ℕ)). stored_bytes l) (sym whole))

-- Lines in the bytes of a pipe: fronts of lines were written, one behind the other; a line that ends
-- with a point, of which the sign at its beginning is the only one, was written whole.
use Rattle.std.proofs.Common.{ℕ, zero, suc, ◌≡◌, ◌≢◌, ◌≤◌, ◌+◌, ◌⊎◌, inl, inr, List, [], ◌∷◌, ◌++◌, length, take, drop, map, refl, sym, ap, ◌∙◌, subst, arith, append_assoc, length-append, ⊎_elim}
use Rattle.std.specs.List.{AllByRecursion, flat_map}
use Rattle.journal_session.specs.Lines.{IsLine, lines_text}
use Rattle.pipe_seats.specs.Tagged.{count}
use Rattle.pipe_seats.proofs.Counts.{count-append}
use Rattle.pipe_serve.specs.Sessions.{IsFront}
use Rattle.pipe_serve.specs.Bytes.{StandIn, AreFronts, IsReadIn}

-- ## Two ways to part the same bytes
-- the second part begins inside the first, or behind it
record IsInside (a b c d : List ℕ) : Type 0 where
  mid : List ℕ
  some : mid ≢ []
  first : a ≡ c ++ mid
  last : d ≡ mid ++ b

record IsBehind (a b c d : List ℕ) : Type 0 where
  mid : List ℕ
  first : c ≡ a ++ mid
  last : b ≡ mid ++ d

inside_more : (x y : ℕ) (a b c d : List ℕ) → x ≡ y → IsInside a b c d → IsInside (x ∷ a) b (y ∷ c) d
inside_more x y a b c d e h = record { mid = h.mid; some = h.some; first = ap (λ (l : List ℕ). x ∷ l) h.first ∙ ap (λ (z : ℕ). z ∷ (c ++ h.mid)) e; last = h.last }

behind_more : (x y : ℕ) (a b c d : List ℕ) → x ≡ y → IsBehind a b c d → IsBehind (x ∷ a) b (y ∷ c) d
behind_more x y a b c d e h = record { mid = h.mid; first = ap (λ (l : List ℕ). y ∷ l) h.first ∙ ap (λ (z : ℕ). z ∷ (a ++ h.mid)) (sym e); last = h.last }

parted : (a b c d : List ℕ) → a ++ b ≡ c ++ d → IsInside a b c d ⊎ IsBehind a b c d
parted [] b c d e = inr (record { mid = c; first = refl; last = e })
parted (x ∷ a) b [] d e = inl (record { mid = x ∷ a; some = λ n. absurd (cc n); first = refl; last = sym e })
parted (x ∷ a) b (y ∷ c) d e =
    let head : x ≡ y = cc e in
    let tail : a ++ b ≡ c ++ d = cc e in
    ⊎_elim (λ h. inl (inside_more x y a b c d head h)) (λ h. inr (behind_more x y a b c d head h)) (parted a b c d tail)

-- ## Lines
-- the one line feed of a line is its end
one_end : (line p q : List ℕ) → IsLine line → line ++ 10 ∷ [] ≡ p ++ 10 ∷ q → (line ≡ p) × (q ≡ [])
one_end [] [] q l e = (refl, let t : [] ≡ q = cc e in sym t)
one_end [] (y ∷ p) q l e = let t : [] ≡ p ++ 10 ∷ q = cc e in absurd (omega (arith, ap length t, length-append p (10 ∷ q)))
one_end (x ∷ line) [] q l e = let h : x ≡ 10 = cc e in absurd (l.0 h)
one_end (x ∷ line) (y ∷ p) q l e =
    let head : x ≡ y = cc e in
    let tail : line ++ 10 ∷ [] ≡ p ++ 10 ∷ q = cc e in
    let more = one_end line p q l.1 tail in
    (cc (head, more.0), more.1)

-- a line that begins with its one sign, and ends with a point
pub record IsSole (line : List ℕ) : Type 0 where
  pub rest : List ℕ
  pub begins : line ≡ 35 ∷ rest
  pub one : count 35 line ≡ 1
  pub front : List ℕ
  pub ends : line ≡ front ++ 46 ∷ []

-- one that doesn't end with a point
pub record IsUnended (line : List ℕ) : Type 0 where
  pub front : List ℕ
  pub last : ℕ
  pub ends : line ≡ front ++ last ∷ []
  pub off : last ≢ 46

pub record IsWhole (line : List ℕ) : Type 0 where
  pub one : IsLine line
  pub kind : IsSole line ⊎ IsUnended line

last_same : (xs ys : List ℕ) (x y : ℕ) → xs ++ x ∷ [] ≡ ys ++ y ∷ [] → x ≡ y
last_same [] [] x y e = cc e
last_same [] (w ∷ ys) x y e = let t : [] ≡ ys ++ y ∷ [] = cc e in absurd (omega (arith, ap length t, length-append ys (y ∷ [])))
last_same (z ∷ xs) [] x y e = let t : xs ++ x ∷ [] ≡ [] = cc e in absurd (omega (arith, ap length t, length-append xs (x ∷ [])))
last_same (z ∷ xs) (w ∷ ys) x y e = let t : xs ++ x ∷ [] ≡ ys ++ y ∷ [] = cc e in last_same xs ys x y t

-- what ends like a line with a point isn't one without
unended : (line lost own : List ℕ) → IsUnended line → line ≡ lost ++ own → (z : List ℕ) → own ≡ z ++ 46 ∷ [] → ⊥
unended line lost own h e z end =
    let same : h.front ++ h.last ∷ [] ≡ (lost ++ z) ++ 46 ∷ [] = sym h.ends ∙ e ∙ ap (λ (l : List ℕ). lost ++ l) end ∙ sym (append_assoc lost z (46 ∷ [])) in
    h.off (last_same h.front (lost ++ z) h.last 46 same)

begins_one : (line rest : List ℕ) → line ≡ 35 ∷ rest → 1 ≤ count 35 line
begins_one line rest e = let one : 1 ≤ count 35 (35 ∷ rest) = omega arith in subst (λ (l : List ℕ). 1 ≤ count 35 l) (sym e) one

-- a line that ends so is all of it
sole_same : (line lost own : List ℕ) → IsSole line → IsSole own → line ≡ lost ++ own → line ≡ own
sole_same line [] own h k e = e
sole_same line (x ∷ lost) own h k e =
    let head : x ≡ 35 = cc (e, h.begins) in
    let first : 1 ≤ count 35 (x ∷ lost) = begins_one (x ∷ lost) lost (cc head) in
    let all : count 35 line ≡ count 35 (x ∷ lost) + count 35 own = ap (count 35) e ∙ count-append 35 (x ∷ lost) own in
    absurd (omega (arith, first, all, h.one, k.one))

pub whole_same : (line lost own : List ℕ) → IsWhole line → IsSole own → line ≡ lost ++ own → line ≡ own
whole_same line lost own h k e = ⊎_elim (λ s. sole_same line lost own s k e) (λ u. absurd (unended line lost own u e k.front k.ends)) h.kind

-- ## Fronts of lines
front_behind : (front bytes : List ℕ) → IsFront front bytes → (behind : List ℕ) × (bytes ≡ front ++ behind)
front_behind front bytes h = (drop h.0 bytes, splits h.0 bytes ∙ ap (λ (l : List ℕ). l ++ drop h.0 bytes) (sym h.1))
  where
    splits : (n : ℕ) (xs : List ℕ) → xs ≡ take n xs ++ drop n xs
    splits zero xs = refl
    splits (suc n) [] = refl
    splits (suc n) (x ∷ xs) = ap (λ (l : List ℕ). x ∷ l) (splits n xs)

-- ## A line in what was written
-- where a line stands, behind a front of another: all of it, inside both, or behind
record IsAll (line front rest lost own more : List ℕ) : Type 0 where
  is : line ≡ lost ++ own
  rest_is : more ≡ rest

record IsAcross (front rest lost own more : List ℕ) : Type 0 where
  mid : List ℕ
  some : mid ≢ []
  ends : front ≡ lost ++ mid
  back : List ℕ
  own_is : own ≡ mid ++ back
  rest_is : rest ≡ back ++ 10 ∷ more

record IsLater (front rest lost own more : List ℕ) : Type 0 where
  lost_more : List ℕ
  lost_is : lost ≡ front ++ lost_more
  rest_is : rest ≡ lost_more ++ (own ++ 10 ∷ more)

abbrev Stands : List ℕ → List ℕ → List ℕ → List ℕ → List ℕ → List ℕ → Type 0
Stands line front rest lost own more = IsAll line front rest lost own more ⊎ IsAcross front rest lost own more ⊎ IsLater front rest lost own more

-- the line feed behind it is the front's
feed_inside : (line front behind rest lost own more mid feed : List ℕ) → IsLine line → line ++ 10 ∷ [] ≡ front ++ behind → front ≡ lost ++ mid → mid ≡ own ++ feed → feed ≢ []
    → 10 ∷ more ≡ feed ++ rest → IsAll line front rest lost own more
feed_inside line front behind rest lost own more mid [] l split f m some e = absurd (some refl)
feed_inside line front behind rest lost own more mid (x ∷ feed) l split f m some e =
    let head : x ≡ 10 = let h : 10 ≡ x = cc e in sym h in
    let tail : more ≡ feed ++ rest = cc e in
    let all : line ++ 10 ∷ [] ≡ (lost ++ own) ++ 10 ∷ (feed ++ behind) =
    split ∙ ap (λ (l : List ℕ). l ++ behind) (f ∙ ap (λ (l : List ℕ). lost ++ l) (m ∙ ap (λ (z : ℕ). own ++ z ∷ feed) head))
    ∙ ap (λ (l : List ℕ). l ++ behind) (sym (append_assoc lost own (10 ∷ feed))) ∙ append_assoc (lost ++ own) (10 ∷ feed) behind in
    let one = one_end line (lost ++ own) (feed ++ behind) l all in
    let none : feed ≡ [] = front_none feed behind one.1 in
    record { is = one.0; rest_is = tail ∙ ap (λ (l : List ℕ). l ++ rest) none }
  where
    front_none : (xs ys : List ℕ) → xs ++ ys ≡ [] → xs ≡ []
    front_none [] ys e = refl
    front_none (x ∷ xs) ys e = absurd cc

stands : (line front behind rest lost own more : List ℕ) → IsLine line → line ++ 10 ∷ [] ≡ front ++ behind → front ++ rest ≡ lost ++ (own ++ 10 ∷ more) → Stands line front rest lost own more
stands line front behind rest lost own more l split e =
    ⊎_elim (λ h. inside h) (λ h. inr (inr (record { lost_more = h.mid; lost_is = h.first; rest_is = h.last }))) (parted front rest lost (own ++ 10 ∷ more) e)
  where
    inside : IsInside front rest lost (own ++ 10 ∷ more) → Stands line front rest lost own more
    inside h = ⊎_elim
        (λ k. inl (feed_inside line front behind rest lost own more h.mid k.mid l split h.first k.first k.some k.last))
        (λ k. inr (inl (record { mid = h.mid; some = h.some; ends = h.first; back = k.mid; own_is = k.first; rest_is = k.last })))
        (parted h.mid rest own (10 ∷ more) (sym h.last))

-- no line ends behind what has no sign, and is empty or ends with a point
record IsTail (back : List ℕ) : Type 0 where
  no_sign : count 35 back ≡ 0
  ends : (back ≡ []) ⊎ ((z : List ℕ) × (back ≡ z ++ 46 ∷ []))

none_first : (xs ys : List ℕ) → xs ++ ys ≡ [] → xs ≡ []
none_first [] ys e = refl
none_first (x ∷ xs) ys e = absurd cc

none_last : (xs ys : List ℕ) → xs ++ ys ≡ [] → ys ≡ []
none_last [] ys e = e
none_last (x ∷ xs) ys e = absurd cc

some_there : (xs ys : List ℕ) (y : ℕ) → xs ++ y ∷ ys ≡ [] → ⊥
some_there xs ys y e = let n : y ∷ ys ≡ [] = none_last xs (y ∷ ys) e in absurd (cc n)

-- what is behind a front of what ends with a point
abbrev EndsOrNot : List ℕ → Type 0
EndsOrNot back = (back ≡ []) ⊎ ((z : List ℕ) × (back ≡ z ++ 46 ∷ []))

end_behind : (mid back z : List ℕ) → mid ++ back ≡ z ++ 46 ∷ [] → EndsOrNot back
end_behind [] back z e = inr (z, e)
end_behind (x ∷ mid) back [] e = let n : mid ++ back ≡ [] = cc e in inl (none_last mid back n)
end_behind (x ∷ mid) back (y ∷ z) e = let n : mid ++ back ≡ z ++ 46 ∷ [] = cc e in end_behind mid back z n

tail_behind : (mid back all : List ℕ) → mid ≢ [] → all ≡ mid ++ back → IsTail all → IsTail back
tail_behind mid back all some e h = record {
  no_sign = let sum : count 35 all ≡ count 35 mid + count 35 back = ap (count 35) e ∙ count-append 35 mid back in omega (arith, sum, h.no_sign);
  ends = ⊎_elim (λ n. absurd (some (none_first mid back (sym e ∙ n)))) (λ z. end_behind mid back z.0 (sym e ∙ z.1)) h.ends;
}

whole_off : (line back : List ℕ) → IsWhole line → IsTail back → line ≡ back → ⊥
whole_off line back h t e = ⊎_elim (λ s. let same : count 35 line ≡ count 35 back = ap (count 35) e in omega (arith, same, s.one, t.no_sign))
    (λ u. ⊎_elim (λ n. some_there u.front [] u.last (sym u.ends ∙ e ∙ n)) (λ z. unended line [] back u e z.0 z.1) t.ends) h.kind

abbrev NoTail : List (List ℕ) → Type 0
NoTail lines = (bytes back more : List ℕ) → AreFronts lines bytes → bytes ≡ back ++ 10 ∷ more → IsTail back → ⊥

no_tail_on : (line : List ℕ) (lines : List (List ℕ)) (front rest back more : List ℕ) → IsWhole line → NoTail lines → AreFronts lines rest → IsTail back → Stands line front rest [] back more → ⊥
no_tail_on line lines front rest back more whole on others t (inl h) = whole_off line back whole t h.is
no_tail_on line lines front rest back more whole on others t (inr (inl h)) = on rest h.back more others h.rest_is (tail_behind h.mid h.back back h.some h.own_is t)
no_tail_on line lines front rest back more whole on others t (inr (inr h)) =
    let none : h.lost_more ≡ [] = none_last front h.lost_more (sym h.lost_is) in
    on rest back more others (h.rest_is ∙ ap (λ (l : List ℕ). l ++ (back ++ 10 ∷ more)) none) t

no_tail : (lines : List (List ℕ)) → AllByRecursion IsWhole lines → NoTail lines
no_tail [] whole bytes back more fronts e t = some_there back more 10 (sym e ∙ fronts)
no_tail (line ∷ lines) whole bytes back more (front, rest, is, all, others) e t =
    let split = front_behind front (line ++ 10 ∷ []) is in
    no_tail_on line lines front rest back more whole.0 (no_tail lines whole.1) others t (stands line front split.0 rest [] back more whole.0.one split.1 (sym all ∙ e))

-- the line is one of these, and more bytes are fronts of those behind it
record Picked (lines : List (List ℕ)) (own more : List ℕ) : Type 0 where
  before : List (List ℕ)
  after : List (List ℕ)
  are : lines ≡ before ++ own ∷ after
  fronts : AreFronts after more

tail_across : (mid back own : List ℕ) → mid ≢ [] → own ≡ mid ++ back → IsSole own → IsTail back
tail_across [] back own some e h = absurd (some refl)
tail_across (x ∷ mid) back own some e h = record {
  no_sign =
      let head : x ≡ 35 = cc (e, h.begins) in
      let first : 1 ≤ count 35 (x ∷ mid) = begins_one (x ∷ mid) mid (cc head) in
      let sum : count 35 own ≡ count 35 (x ∷ mid) + count 35 back = ap (count 35) e ∙ count-append 35 (x ∷ mid) back in
      omega (arith, first, sum, h.one);
  ends = end_behind (x ∷ mid) back h.front (sym e ∙ h.ends);
}

abbrev Picks : List (List ℕ) → Type 0
Picks lines = (bytes lost own more : List ℕ) → AreFronts lines bytes → IsSole own → bytes ≡ lost ++ (own ++ 10 ∷ more) → Picked lines own more

pick_on : (line : List ℕ) (lines : List (List ℕ)) (front rest lost own more : List ℕ) → AllByRecursion IsWhole (line ∷ lines) → Picks lines → AreFronts lines rest → IsSole own
    → Stands line front rest lost own more → Picked (line ∷ lines) own more
pick_on line lines front rest lost own more whole on others sole (inl h) = record {
  before = [];
  after = lines;
  are = ap (λ (l : List ℕ). l ∷ lines) (whole_same line lost own whole.0 sole h.is);
  fronts = subst (AreFronts lines) (sym h.rest_is) others;
}
pick_on line lines front rest lost own more whole on others sole (inr (inl h)) = absurd (no_tail lines whole.1 rest h.back more others h.rest_is (tail_across h.mid h.back own h.some h.own_is sole))
pick_on line lines front rest lost own more whole on others sole (inr (inr h)) =
    let p = on rest h.lost_more own more others sole h.rest_is in
    record { before = line ∷ p.before; after = p.after; are = ap (λ (ls : List (List ℕ)). line ∷ ls) p.are; fronts = p.fronts }

pick : (lines : List (List ℕ)) → AllByRecursion IsWhole lines → Picks lines
pick [] whole bytes lost own more fronts sole e = absurd (some_there (lost ++ own) more 10 (append_assoc lost own (10 ∷ more) ∙ sym e ∙ fronts))
pick (line ∷ lines) whole bytes lost own more (front, rest, is, all, others) sole e =
    let split = front_behind front (line ++ 10 ∷ []) is in
    pick_on line lines front rest lost own more whole (pick lines whole.1) others sole (stands line front split.0 rest lost own more whole.0.one split.1 (sym all ∙ e))

-- ## Some lines, one behind the other
-- the first are some of the second, in their order
abbrev pub AreAmong : List (List ℕ) → List (List ℕ) → Type 0
AreAmong [] lines = Unit {0}
AreAmong (own ∷ owns) [] = ⊥
AreAmong (own ∷ owns) (line ∷ lines) = ((line ≡ own) × AreAmong owns lines) ⊎ AreAmong (own ∷ owns) lines

later_among : (owns before after : List (List ℕ)) → AreAmong owns after → AreAmong owns (before ++ after)
later_among [] before after h = tt
later_among (own ∷ owns) [] after h = h
later_among (own ∷ owns) (line ∷ before) after h = inr (later_among (own ∷ owns) before after h)

among_more : (own : List ℕ) (owns lines before after : List (List ℕ)) → lines ≡ before ++ own ∷ after → AreAmong owns after → AreAmong (own ∷ owns) lines
among_more own owns lines before after e h = subst (AreAmong (own ∷ owns)) (sym e) (later_among (own ∷ owns) before (own ∷ after) (inl (refl, h)))

pub all_after : {A : Type 0} (P : A → Type 0) (before after : List A) → AllByRecursion P (before ++ after) → AllByRecursion P after
all_after P [] after h = h
all_after P (x ∷ before) after h = all_after P before after h.1

-- where the lines were read, and more bytes are left
record Passed (owns lines : List (List ℕ)) (more : List ℕ) : Type 0 where
  gap : List ℕ
  after : List (List ℕ)
  whole : AllByRecursion IsWhole after
  fronts : AreFronts after (gap ++ more)
  among : (others : List (List ℕ)) → AreAmong others after → AreAmong (owns ++ others) lines

pass : (owns lines : List (List ℕ)) (bytes lost more : List ℕ) → AreFronts lines bytes → AllByRecursion IsWhole lines → AllByRecursion IsSole owns → bytes ≡ lost ++ (lines_text owns ++ more)
    → Passed owns lines more
pass [] lines bytes lost more fronts whole sole e = record { gap = lost; after = lines; whole = whole; fronts = subst (AreFronts lines) e fronts; among = λ others h. h }
pass (own ∷ owns) lines bytes lost more fronts whole sole e =
    let here : (lines_text (own ∷ owns)) ++ more ≡ own ++ 10 ∷ (lines_text owns ++ more) =
    append_assoc (own ++ 10 ∷ []) (lines_text owns) more ∙ append_assoc own (10 ∷ []) (lines_text owns ++ more) in
    let p = pick lines whole bytes lost own (lines_text owns ++ more) fronts sole.0 (e ∙ ap (λ (l : List ℕ). lost ++ l) here) in
    let rest = all_after IsWhole (p.before ++ own ∷ []) p.after (subst (AllByRecursion IsWhole) (p.are ∙ sym (append_assoc p.before (own ∷ []) p.after)) whole) in
    let q = pass owns p.after (lines_text owns ++ more) [] more p.fronts rest sole.1 refl in
    record { gap = q.gap; after = q.after; whole = q.whole; fronts = q.fronts; among = λ others h. among_more own (owns ++ others) lines p.before p.after p.are (q.among others h) }

stand_behind : (pieces : List (List ℕ)) (lost bytes : List ℕ) → StandIn pieces bytes → StandIn pieces (lost ++ bytes)
stand_behind [] lost bytes h = tt
stand_behind (piece ∷ pieces) lost bytes (gap, rest, e, more) = (lost ++ gap, rest, ap (λ (l : List ℕ). lost ++ l) e ∙ sym (append_assoc lost gap (piece ++ rest)), more)

-- In these each reader took some lines, and more bytes behind them.
module _ {A : Type 0} (lines_in : A → List (List ℕ)) (rest_of : A → List ℕ) where
  abbrev pub bytes_of : A → List ℕ
  bytes_of x = lines_text (lines_in x) ++ rest_of x

  abbrev pub AreSoleIn : A → Type 0
  AreSoleIn x = AllByRecursion IsSole (lines_in x)

  pub all_among : (readers : List A) (lines : List (List ℕ)) (bytes : List ℕ) → AreFronts lines bytes → AllByRecursion IsWhole lines → AllByRecursion AreSoleIn readers
      → StandIn (map bytes_of readers) bytes → AreAmong (flat_map lines_in readers) lines
  all_among [] lines bytes fronts whole sole stand = tt
  all_among (x ∷ readers) lines bytes fronts whole sole (lost, rest, e, stand) =
      let text : bytes_of x ++ rest ≡ lines_text (lines_in x) ++ (rest_of x ++ rest) = append_assoc (lines_text (lines_in x)) (rest_of x) rest in
      let q = pass (lines_in x) lines bytes lost (rest_of x ++ rest) fronts whole sole.0 (e ∙ ap (λ (l : List ℕ). lost ++ l) text) in
      let further = stand_behind (map bytes_of readers) (q.gap ++ rest_of x) rest stand in
      let same : (q.gap ++ rest_of x) ++ rest ≡ q.gap ++ (rest_of x ++ rest) = append_assoc q.gap (rest_of x) rest in
      q.among (flat_map lines_in readers)
      (all_among readers q.after (q.gap ++ (rest_of x ++ rest)) q.fronts q.whole sole.1 (subst (StandIn (map bytes_of readers)) same further))

-- ## One line
abbrev pub IsOneOf : List ℕ → List (List ℕ) → Type 0
IsOneOf own [] = ⊥
IsOneOf own (line ∷ lines) = (line ≡ own) ⊎ IsOneOf own lines

one_there : (own : List ℕ) (before after : List (List ℕ)) → IsOneOf own (before ++ own ∷ after)
one_there own [] after = inl refl
one_there own (line ∷ before) after = inr (one_there own before after)

pub one_read : (reads lines : List (List ℕ)) (bytes own : List ℕ) → AreFronts lines bytes → AllByRecursion IsWhole lines → IsSole own → StandIn reads bytes → IsReadIn own reads → IsOneOf own lines
one_read [] lines bytes own fronts whole sole stand h = absurd h
one_read (read ∷ reads) lines bytes own fronts whole sole (lost, rest, e, stand) (inl h) =
    let inside : read ++ rest ≡ h.0 ++ (own ++ 10 ∷ (h.1 ++ rest)) =
    ap (λ (l : List ℕ). l ++ rest) h.2 ∙ append_assoc h.0 (own ++ 10 ∷ h.1) rest ∙ ap (λ (l : List ℕ). h.0 ++ l) (append_assoc own (10 ∷ h.1) rest) in
    let all : bytes ≡ (lost ++ h.0) ++ (own ++ 10 ∷ (h.1 ++ rest)) =
    e ∙ ap (λ (l : List ℕ). lost ++ l) inside ∙ sym {b = lost ++ (h.0 ++ (own ++ 10 ∷ (h.1 ++ rest)))} (append_assoc lost h.0 (own ++ 10 ∷ (h.1 ++ rest))) in
    let p = pick lines whole bytes (lost ++ h.0) own (h.1 ++ rest) fronts sole all in
    subst (IsOneOf own) (sym p.are) (one_there own p.before p.after)
one_read (read ∷ reads) lines bytes own fronts whole sole (lost, rest, e, stand) (inr h) =
    let later = stand_behind reads (lost ++ read) rest stand in
    let same : (lost ++ read) ++ rest ≡ bytes = append_assoc lost read rest ∙ sym {b = lost ++ (read ++ rest)} e in
    one_read reads lines bytes own fronts whole sole (subst (StandIn reads) same later) h

-- No report with these names begins with the bytes through the line that is told.
use Rattle.std.proofs.Common.{ℕ, suc, ◌≡◌, ◌≢◌, ◌+◌, ◌-◌, ◌==◌, List, [], ◌∷◌, ◌++◌, Bool, true, false, cond, Option, Some, None, length, drop, take, refl, sym, ap, subst, ◌∙◌}
use Rattle.std.proofs.Common.{◌⊎◌, arith, inl, inr, append_assoc, length-append}
use Rattle.std.specs.Prelude.{count_by}
use Rattle.std.specs.List.{AllByRecursion, slice_split, onto_first}
use Rattle.std.proofs.lemmas.Bool.Decides.{eqb_tells}
use Rattle.std.proofs.Math.Seq.{take-length}
use Rattle.std.proofs.lemmas.List.{take_at}
use Rattle.std.proofs.lemmas.List.Sums.{sum_by-cons}
use Rattle.std.proofs.lemmas.List.Splits.{length-slice_split}
use Rattle.ns_tree.specs.declared.end.End.{End}
use Rattle.play_script.specs.Lines.{Lacks}
use Rattle.report_judge.specs.declared.rules.Rule.{Rule}
use Rattle.report_judge.specs.declared.rules.Rule.TheVariants as rule_
use Rattle.report_judge.specs.declared.unread.Unread.TheVariants as unread
use Rattle.report_judge.specs.declared.answer.Reading.TheVariants as reading
use Rattle.report_judge.specs.Reads.{ends_line}
use Rattle.report_judge.specs.Pieces.{pieces, joined, Front, Taken, Broken, then_, IsBroken}
use Rattle.report_judge.specs.Reading.{names_from, first_by, first_in, ListsView, lists_with, lists_in}
use Rattle.report_judge.specs.Complete.{bared, told_names, BeginsNone, rule_number, SpellsOtherwise, IsFirst, IsUnread, IsComplete}
use Rattle.report_judge.proofs.PieceLaws.{not_byte, joined_pieces, has_piece, HasPiece}
use Rattle.report_judge.proofs.Complete.{lists_back}
use Rattle.report_judge.proofs.Local.{Alike, KeepsFront, Kept, named_local}

-- ## Pieces
onto_append : (x : ℕ) (ps qs : List (List ℕ)) → HasPiece ps → onto_first x (ps ++ qs) ≡ onto_first x ps ++ qs
onto_append x [] qs h = absurd (let e = h.are in cc)
onto_append x (p ∷ ps) qs h = refl

split_by : (b : Bool) (x : ℕ) (ps qs : List (List ℕ)) → HasPiece ps → cond b ([] ∷ (ps ++ qs)) (onto_first x (ps ++ qs)) ≡ cond b ([] ∷ ps) (onto_first x ps) ++ qs
split_by true x ps qs h = refl
split_by false x ps qs h = onto_append x ps qs h

-- those before a line end, and those after it
pieces_append : (xs ys : List ℕ) → pieces (xs ++ 10 ∷ ys) ≡ pieces xs ++ pieces ys
unfolding pieces
pieces_append [] ys = refl
pieces_append (x ∷ xs) ys =
    ap (λ ps. cond (x == 10) ([] ∷ ps) (onto_first x ps)) (pieces_append xs ys) ∙ split_by (x == 10) x (slice_split (λ b. b == 10) xs) (slice_split (λ b. b == 10) ys) (has_piece xs)

lacks_onto : (x : ℕ) (ps : List (List ℕ)) → x ≢ 10 → AllByRecursion (Lacks 10) ps → HasPiece ps → AllByRecursion (Lacks 10) (onto_first x ps)
lacks_onto x [] n h p = absurd (let e = p.are in cc)
lacks_onto x (q ∷ ps) n h p = ((n, h.0), h.1)

-- no piece has a line end
pieces_lack : (xs : List ℕ) → AllByRecursion (Lacks 10) (pieces xs)
unfolding pieces
pieces_lack [] = (tt, tt)
pieces_lack (x ∷ xs) = elim (eqb_tells x 10) [
  | inl p ↦ subst (λ b. AllByRecursion (Lacks 10) (cond b ([] ∷ slice_split (λ b. b == 10) xs) (onto_first x (slice_split (λ b. b == 10) xs)))) (sym p.0) (tt, pieces_lack xs)
  | inr p ↦
      subst (λ b. AllByRecursion (Lacks 10) (cond b ([] ∷ slice_split (λ b. b == 10) xs) (onto_first x (slice_split (λ b. b == 10) xs)))) (sym p.0)
      (lacks_onto x (slice_split (λ b. b == 10) xs) p.1 (pieces_lack xs) (has_piece xs))
]

front_all : {X : Type 0} (P : X → Type 0) (xs ys : List X) → AllByRecursion P (xs ++ ys) → AllByRecursion P xs
front_all P [] ys h = tt
front_all P (x ∷ xs) ys h = (h.0, front_all P xs ys h.1)

-- ## Lines that have their ends
ended : List (List ℕ) → List ℕ
ended [] = []
ended (p ∷ ps) = p ++ 10 ∷ ended ps

joined_over : (front : List (List ℕ)) (l : List ℕ) (ps : List (List ℕ)) → joined (front ++ l ∷ ps) ≡ ended front ++ joined (l ∷ ps)
unfolding ended
joined_over [] l ps = refl
joined_over (p ∷ []) l ps = sym (append_assoc p (10 ∷ []) (joined (l ∷ ps)))
joined_over (p ∷ q ∷ front) l ps = ap (λ (t : List ℕ). p ++ 10 ∷ t) (joined_over (q ∷ front) l ps) ∙ sym (append_assoc p (10 ∷ ended (q ∷ front)) (joined (l ∷ ps)))

abbrev ends_in : List ℕ → ℕ
ends_in xs = count_by ends_line xs

ends_step : (x : ℕ) (xs : List ℕ) → x ≢ 10 → ends_in (x ∷ xs) ≡ ends_in xs
unfolding ends_line
ends_step x xs n = sum_by-cons (λ b. cond (ends_line b) 1 0) x xs ∙ ap (λ b. cond b 1 0 + ends_in xs) (not_byte x 10 n) ∙ omega arith

end_step : (xs : List ℕ) → ends_in (10 ∷ xs) ≡ suc (ends_in xs)
unfolding ends_line
end_step xs = sum_by-cons (λ b. cond (ends_line b) 1 0) 10 xs ∙ omega arith

ends_over : (xs ys : List ℕ) → Lacks 10 xs → ends_in (xs ++ ys) ≡ ends_in ys
ends_over [] ys h = refl
ends_over (x ∷ xs) ys h = ends_step x (xs ++ ys) h.0 ∙ ends_over xs ys h.1

ended_ends : (ps : List (List ℕ)) → AllByRecursion (Lacks 10) ps → ends_in (ended ps) ≡ length ps
unfolding ended
ended_ends [] h = refl
ended_ends (p ∷ ps) h = ends_over p (10 ∷ ended ps) h.0 ∙ end_step (ended ps) ∙ ap suc (ended_ends ps h.1)

pieces_many : (xs : List ℕ) → length (pieces xs) ≡ ends_in xs + 1
unfolding pieces ends_line
pieces_many xs = length-slice_split (λ b. b == 10) xs

-- the line ends before the pieces that are left are as many as the pieces in front of them
ends_before : (bytes : List ℕ) (front : List (List ℕ)) (l : List ℕ) (ps : List (List ℕ)) → pieces bytes ≡ front ++ l ∷ ps
    → ends_in (take (length bytes - length (joined (l ∷ ps))) bytes) ≡ length front
ends_before bytes front l ps e =
    let whole : bytes ≡ ended front ++ joined (l ∷ ps) = sym (joined_pieces bytes) ∙ ap joined e ∙ joined_over front l ps in
    let size : length bytes ≡ length (ended front) + length (joined (l ∷ ps)) = ap length whole ∙ length-append (ended front) (joined (l ∷ ps)) in
    let at : length bytes - length (joined (l ∷ ps)) ≡ length (ended front) = omega (arith, size) in
    let lack = front_all (Lacks 10) front (l ∷ ps) (subst (AllByRecursion (Lacks 10)) e (pieces_lack bytes)) in
    ap (λ n. ends_in (take n bytes)) at ∙ ap (λ t. ends_in (take (length (ended front)) t)) whole
    ∙ ap ends_in (take_at (ended front) (joined (l ∷ ps)) (length (ended front)) refl) ∙ ended_ends front lack

-- ## Two ways to cut a list
-- One is a piece longer than the other.
record OneMore (xs ys zs ws : List (List ℕ)) : Type 0 where
  last : List ℕ
  front : xs ≡ zs ++ last ∷ []
  rest : ws ≡ last ∷ ys

one_longer : (xs ys zs ws : List (List ℕ)) → xs ++ ys ≡ zs ++ ws → length xs ≡ suc (length zs) → OneMore xs ys zs ws
one_longer [] ys zs ws e l = absurd (omega (arith, l))
one_longer (x ∷ []) ys [] ws e l = record { last = x; front = refl; rest = sym e }
one_longer (x ∷ y ∷ xs) ys [] ws e l = absurd (omega (arith, l))
one_longer (x ∷ xs) ys (z ∷ zs) ws e l =
    let first : x ≡ z = cc in
    let more : xs ++ ys ≡ zs ++ ws = ap (drop 1) e in
    let r = one_longer xs ys zs ws more (omega (arith, l)) in
    record { last = r.last; front = (λ i. first i ∷ r.front i); rest = r.rest }

-- ## The names that the bytes tell
abbrev with_names : List End → List (List ℕ) → Front ListsView
with_names names ps = then_ (first_in ps) (λ nodes rest. lists_with nodes names rest)

first_rest : (here : List (List ℕ)) (o : Option ℕ) (rest : List (List ℕ)) (names : List End) → names ≡ names_from [] rest
    → then_ (first_by here o rest) (λ nodes rest. lists_with nodes (names_from [] rest) rest) ≡ then_ (first_by here o rest) (λ nodes rest. lists_with nodes names rest)
first_rest here None rest names e = refl
first_rest here (Some n) rest names e = ap (λ es. lists_with n es rest) (sym e)

told_are : (ps : List (List ℕ)) → lists_in ps ≡ with_names (names_from [] (drop 1 ps)) ps
unfolding lists_in first_in
told_are [] = refl
told_are (l ∷ []) = refl
told_are (l ∷ m ∷ ps) = first_rest (l ∷ m ∷ ps) _ (m ∷ ps) (names_from [] (m ∷ ps)) refl

-- ## The law
no_taken : {A : Type 0} (f : Front A) (x : A) (left over : List (List ℕ)) (r : Rule) → f ≡ Taken x left → f ≡ Broken over r → ⊥
no_taken f x left over r e g = absurd (let q : Taken x left ≡ Broken over r = sym e ∙ g in cc)

alike_first : (l : List ℕ) (ps qs : List (List ℕ)) → HasPiece ps → HasPiece qs → Alike (l ∷ ps) (l ∷ qs)
alike_first l [] qs p q = absurd (let e = p.are in cc)
alike_first l (m ∷ ps) [] p q = absurd (let e = q.are in cc)
alike_first l (m ∷ ps) (n ∷ qs) p q = refl

module _ (bytes front more rest : List ℕ) (cut : bytes ≡ front ++ 10 ∷ more) where
  bytes_pieces : pieces bytes ≡ pieces front ++ pieces more
  bytes_pieces = ap pieces cut ∙ pieces_append front more

  -- what is broken in these bytes is broken in each with the same front
  broken_so : (names : List End) (left : List (List ℕ)) (r : Rule) → KeepsFront (with_names names) (pieces bytes) left (λ other. Broken other r)
      → ends_in front + 1 ≡ ends_in (take (length bytes - length (joined left)) bytes) + 1
      → (view : ListsView) → with_names names (pieces (front ++ 10 ∷ rest)) ≡ Taken view [] → ⊥
  broken_so names [] r k line view e =
      let size : length bytes - 0 ≡ length bytes = omega arith in
      let whole : ends_in (take (length bytes - 0) bytes) ≡ ends_in bytes = ap (λ n. ends_in (take n bytes)) size ∙ ap (λ t. ends_in t) (take-length bytes) in
      let a = pieces_many bytes in
      let b = pieces_many front in
      let c = pieces_many more in
      let d : length (pieces bytes) ≡ length (pieces front) + length (pieces more) = ap length bytes_pieces ∙ length-append (pieces front) (pieces more) in
      omega (arith, line, whole, a, b, c, d)
  broken_so names (l ∷ left) r k line view e =
      let same = ends_before bytes k.front l left k.are in
      let many : length (pieces front) ≡ suc (length k.front) = let n = pieces_many front in omega (arith, line, same, n) in
      let cuts = one_longer (pieces front) (pieces more) k.front (l ∷ left) (sym bytes_pieces ∙ k.are) many in
      let other : pieces (front ++ 10 ∷ rest) ≡ k.front ++ cuts.last ∷ pieces rest =
      pieces_append front rest ∙ ap (λ ps. ps ++ pieces rest) cuts.front ∙ append_assoc k.front (cuts.last ∷ []) (pieces rest) in
      let alike : Alike (l ∷ left) (cuts.last ∷ pieces rest) = subst (λ ps. Alike ps (cuts.last ∷ pieces rest)) (sym cuts.rest)
      (alike_first cuts.last (pieces more) (pieces rest) (has_piece more) (has_piece rest)) in
      no_taken (with_names names (pieces (front ++ 10 ∷ rest))) view [] (cuts.last ∷ pieces rest) r e (ap (with_names names) other ∙ k.others (cuts.last ∷ pieces rest) alike)

pub begins_none : (bytes : List ℕ) (left : ℕ) (r : Rule) → IsBroken (lists_in (pieces bytes)) left r → BeginsNone bytes (ends_in (take (length bytes - left) bytes) + 1)
begins_none bytes left r broken front more rest cut line lists w names of =
    by (with_names (told_names bytes) (pieces bytes)) (named_local (told_names bytes) (pieces bytes)) (subst (λ f. IsBroken f left r) (told_are (pieces bytes)) broken)
  where
    by : (f : Front ListsView) → Kept (with_names (told_names bytes)) (pieces bytes) f → IsBroken f left r → ⊥
    by (Taken x over) k b = b
    by (Broken over q) k b =
        let back = lists_back lists w in
        broken_so bytes front more rest cut (told_names bytes) over q k (line ∙ ap (λ n. ends_in (take (length bytes - n) bytes) + 1) b.1) back.view
        (ap (λ es. with_names es (pieces (front ++ 10 ∷ rest))) (sym names) ∙ ap (λ t. with_names (bared lists.ends) (pieces t)) of ∙ back.named)

-- the line of the place at which so many bytes are left
first_told : (bytes : List ℕ) (left line : ℕ) (r : Rule) (number : ℕ) → IsBroken (lists_in (pieces bytes)) left r ⊎ ((r ≡ rule_.Spelling) × SpellsOtherwise bytes) → number ≡ rule_number r
    → line ≡ ends_in (take (length bytes - left) bytes) + 1 → IsFirst bytes line number
first_told bytes left line r number (inl b) n l =
    inl (record { left = left; rule = r; broken = b; in_line = l; numbered = n }, subst (BeginsNone bytes) (sym l) (begins_none bytes left r b))
first_told bytes left line r number (inr s) n l = inr (n ∙ ap rule_number s.0, s.1)

-- what is told where reading stopped
pub bad_complete : (bytes : List ℕ) (left place line : ℕ) (r : Rule) (number : ℕ) → IsUnread bytes (unread.Bad left r) → number ≡ rule_number r → place ≡ length bytes - left
    → line ≡ ends_in (take place bytes) + 1 → IsComplete bytes (reading.Bad line number)
bad_complete bytes left place line r number u n p l = (u.0, first_told bytes left line r number u.1 n (l ∙ ap (λ k. ends_in (take k bytes) + 1) p))

pub ruleset firsts = (bad_complete)

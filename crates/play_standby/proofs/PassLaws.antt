-- What the nodes told in a pass, by one node more; and how a pass begins.
use Rattle.std.proofs.Common.{◌≡◌, ℕ, ◌+◌, ◌*◌, ◌/◌, ◌<◌, ◌≤◌, ◌==◌, nat_lt, suc, List, [], ◌∷◌, ◌++◌, length, take, get_or, map, Bool, true, false}
use Rattle.std.proofs.Common.{Option, Some, None, if◌then◌else◌, refl, sym, ap, ◌∙◌, arith}
use Rattle.std.specs.Option.{ForSome}
use Rattle.std.proofs.Math.Seq.{take-suc}
use Rattle.std.proofs.lemmas.Bool.Decides.{nat_tests}
use Rattle.std.proofs.lemmas.List.{map-append}
use Rattle.journal_core.specs.declared.heard.Heard.{Heard}
use Rattle.writer_core.specs.declared.cause.Cause.{Cause}
use Rattle.play_names.specs.Holding.{Holding, Free, Tails, with_work}
use Rattle.play_names.specs.Tails.{Ends, GoesOn, Caught, Reached, PurgedFrom, BehindBy, told_purged, least_or, least_purged, read_cause, is_until, pass_begun, pass_end, after_or}
use Rattle.play_standby.specs.Tailing.{is_caught}

least_none : (o : Option ℕ) → least_or o None ≡ o
least_none None = refl
least_none (Some m) = refl

least_three : (m n k : ℕ) → least_or (Some m) (least_or (Some n) (Some k)) ≡ least_or (least_or (Some m) (Some n)) (Some k)
least_three m n k = grind (arith, nat_tests)

least_assoc : (a b c : Option ℕ) → least_or a (least_or b c) ≡ least_or (least_or a b) c
least_assoc None b c = refl
least_assoc (Some m) None c = refl
least_assoc (Some m) (Some n) None = sym (least_none (least_or (Some m) (Some n)))
least_assoc (Some m) (Some n) (Some k) = least_three m n k

purged_more : (xs : List Heard) (h : Heard) → least_purged (xs ++ h ∷ []) ≡ least_or (least_purged xs) (told_purged h)
unfolding least_purged
purged_more [] h = least_none (told_purged h)
purged_more (x ∷ xs) h = ap (least_or (told_purged x)) (purged_more xs h) ∙ least_assoc (told_purged x) (least_purged xs) (told_purged h)

one_more : (told : List Heard) (i : ℕ) (h d : Heard) → i < length told → h ≡ get_or told i d → take (i + 1) told ≡ take i told ++ h ∷ []
one_more told i h d within is =
    (let s : i + 1 ≡ suc i = omega arith in ap (λ (n : ℕ). take n told) s) ∙ take-suc told i d within ∙ ap (λ (x : Heard). take i told ++ x ∷ []) (sym is)

pub purged_next : (told : List Heard) (i : ℕ) (h d : Heard) (least : Option ℕ) → i < length told → h ≡ get_or told i d → least ≡ least_purged (take i told)
    → least_or least (told_purged h) ≡ least_purged (take (i + 1) told)
purged_next told i h d least within is e =
    ap (λ (o : Option ℕ). least_or o (told_purged h)) e ∙ sym (purged_more (take i told) h) ∙ ap least_purged (sym (one_more told i h d within is))

pub causes_next : (told : List Heard) (i : ℕ) (h d : Heard) (causes : List Cause) → i < length told → h ≡ get_or told i d → causes ≡ map read_cause (take i told)
    → causes ++ read_cause h ∷ [] ≡ map read_cause (take (i + 1) told)
causes_next told i h d causes within is e =
    ap (λ (l : List Cause). l ++ read_cause h ∷ []) e ∙ sym (map-append read_cause (take i told) (h ∷ [])) ∙ ap (map read_cause) (sym (one_more told i h d within is))

-- ## A pass begins
pub pass_ends : (until : Option ℕ) (h : Holding) → is_until until h.position ≡ true → pass_begun until h ≡ Ends Reached (with_work Free h)
unfolding pass_begun
pass_ends until h e = ap (λ (b : Bool). if b then Ends Reached (with_work Free h) else GoesOn (with_work (Tails until 1 []) h)) e

pub pass_goes : (until : Option ℕ) (h : Holding) → is_until until h.position ≡ false → pass_begun until h ≡ GoesOn (with_work (Tails until 1 []) h)
unfolding pass_begun
pass_goes until h e = ap (λ (b : Bool). if b then Ends Reached (with_work Free h) else GoesOn (with_work (Tails until 1 []) h)) e

-- ## A pass ends
pub half_below : (n c : ℕ) → nat_lt (n / 2) c ≡ nat_lt n (2 * c)
half_below n c = grind (arith, nat_tests)

pass_end_is : (until : Option ℕ) (told : List Heard) → pass_end until told ≡ (if is_caught until told then Caught else after_or (least_purged told) told)
unfolding pass_end
pass_end_is None told = refl
pass_end_is (Some last) told = refl

pub ends_caught : (until : Option ℕ) (told : List Heard) → is_caught until told ≡ true → pass_end until told ≡ Caught
ends_caught until told e = pass_end_is until told ∙ ap (λ (b : Bool). if b then Caught else after_or (least_purged told) told) e

not_caught : (until : Option ℕ) (told : List Heard) → is_caught until told ≡ false → pass_end until told ≡ after_or (least_purged told) told
not_caught until told e = pass_end_is until told ∙ ap (λ (b : Bool). if b then Caught else after_or (least_purged told) told) e

pub ends_purged : (until : Option ℕ) (told : List Heard) (first : ℕ) → is_caught until told ≡ false → least_purged told ≡ Some first → pass_end until told ≡ PurgedFrom first
ends_purged until told first e least = not_caught until told e ∙ ap (λ (o : Option ℕ). after_or o told) least

pub ends_behind : (until : Option ℕ) (told : List Heard) (causes : List Cause) → is_caught until told ≡ false → least_purged told ≡ None → causes ≡ map read_cause told
    → pass_end until told ≡ BehindBy causes
ends_behind until told causes e none is = not_caught until told e ∙ ap (λ (o : Option ℕ). after_or o told) none ∙ ap BehindBy (sym is)

-- ## What an end tells of the position
pub caught_open : (until : Option ℕ) (told : List Heard) (b : Bool) → b ≡ is_caught until told → b ≡ true → until ≡ None
caught_open None told b e is = refl
caught_open (Some last) told b e is = absurd (cc (e, is))

pub below_end : (until : Option ℕ) (position : ℕ) → ForSome until (λ last. position < last) → until ≡ Some position → ⊥
below_end until position h e = let lt : position < position = h position e in omega (arith, lt)

pub ruleset exact_ends = (caught_open, below_end)

pub pass_going : (until : Option ℕ) (position : ℕ) (b : Bool) → b ≡ is_until until position → b ≡ false → ForSome until (λ last. position ≤ last) → ForSome until (λ last. position < last)
pass_going None position b e is h = λ last none. absurd (cc none)
pass_going (Some end) position b e is h = λ last same.
    let le : position ≤ last = h last same in
    let at : end ≡ last = cc same in
    let ne : (end == position) ≡ false = sym e ∙ is in
    by last le at ne
  where
    by : (last : ℕ) → position ≤ last → end ≡ last → (end == position) ≡ false → position < last
    by last le at ne = grind (arith, nat_tests)

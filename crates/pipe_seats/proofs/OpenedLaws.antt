-- The ends that came when pipes were opened.
use Rattle.std.proofs.Common.{ℕ, ◌≡◌, ◌+◌, ◌-◌, ◌<◌, ◌≤◌, List, [], ◌∷◌, ◌++◌, Option, Some, None, map, refl, sym, ap, ◌∙◌, subst}
use Rattle.std.proofs.Common.{arith, length, length-set, set, get_or, replicate}
use Rattle.std.specs.List.{AllByRecursion}
use Rattle.std.specs.Io.KnownBytes.{prepend_known}
use Rattle.std.proofs.lemmas.List.{get_or-replicate, length-replicate, map-append}
use Rattle.pipe_seats.specs.Calls.{EndsView, PipeView}
use Rattle.pipe_seats.specs.Opened.{came_as, OpensAs, CameAsTheirs}
use Rattle.pipe_seats.specs.Seats.{SeatView, unopened_seat}
use Rattle.pipe_seats.proofs.PipeLaws.{all_snoc}
use Rattle.pipe_seats.proofs.SeatLaws.{each_seat}

-- ## A pipe
-- a reader that holds nothing
pub held_none : (left : Option (List ℕ)) → prepend_known [] left ≡ left
held_none None = refl
held_none (Some bytes) = refl

-- the ends that came at one more opening stand behind those of the others, as they are
pub one_opened : {A : Type 0} (seen : A → EndsView) (before after : List A) (last : A) (ends : EndsView) → after ≡ before ++ last ∷ [] → seen last ≡ ends
    → map seen after ≡ map seen before ++ ends ∷ []
one_opened seen before after last ends e is = ap (map seen) e ∙ map-append seen before (last ∷ []) ∙ ap (λ (x : EndsView). map seen before ++ x ∷ []) is

pub ruleset ends = (held_none)

-- none was opened
pub opens_none : (Came : EndsView → Type 0) (p q : PipeView) → q.opened ≡ p.opened → OpensAs Came p q
opens_none Came p q e = record { all = λ h. subst (λ (xs : List EndsView). AllByRecursion Came xs) (sym e) h }

pub opens_not : (Came : EndsView → Type 0) (p q : PipeView) → q ≡ p → OpensAs Came p q
opens_not Came p q e = opens_none Came p q (ap (λ (x : PipeView). x.opened) e)

-- one was, and came so
pub opens_one : {S K : Type 0} (are_of : ℕ → S → K → Type 0) (left_of : S → Option (List ℕ)) (taken_of : K → Option (List ℕ)) (node : ℕ) (p q : PipeView) (source : S) (sink : K)
    → q.opened ≡ p.opened ++ record { taken = q.taken; left = q.left } ∷ [] → q.left ≡ left_of source → q.taken ≡ taken_of sink → are_of node source sink
    → OpensAs (came_as are_of left_of taken_of node) p q
opens_one are_of left_of taken_of node p q source sink e l t a =
    let Came : EndsView → Type 0 = came_as are_of left_of taken_of node in
    record {
      all = λ h. subst (λ (xs : List EndsView). AllByRecursion Came xs) (sym e)
          (all_snoc Came p.opened (record { taken = q.taken; left = q.left }) h (record { source = source; sink = sink; are_of = a; left = l; taken = t }));
    }

-- and then none
pub opens_then : (Came : EndsView → Type 0) (p q r : PipeView) → OpensAs Came p q → r.opened ≡ q.opened → OpensAs Came p r
opens_then Came p q r h e = record { all = λ a. subst (λ (xs : List EndsView). AllByRecursion Came xs) (sym e) (h.all a) }

pub ruleset openings = (opens_none, opens_not, opens_then)

-- ## All seats
fresh_came : (Came : ℕ → EndsView → Type 0) (nodes life : ℕ) → CameAsTheirs Came (replicate nodes (unopened_seat life))
fresh_came Came nodes life = record {
  each = λ i d l.
      let low : i < nodes = omega (arith, l, length-replicate nodes (unopened_seat life)) in
      subst (λ (s : SeatView). AllByRecursion (Came (i + 1)) s.pipe.opened) (sym (get_or-replicate nodes i (unopened_seat life) d low)) tt;
}

-- before the first opening
pub fresh_seats : (Came : ℕ → EndsView → Type 0) (seats : List SeatView) (nodes life : ℕ) → seats ≡ replicate nodes (unopened_seat life) → CameAsTheirs Came seats
fresh_seats Came seats nodes life e = subst (λ (ss : List SeatView). CameAsTheirs Came ss) (sym e) (fresh_came Came nodes life)

-- if all ends at the seat came as those of its node, so do they now
abbrev StillTheirs : (ℕ → EndsView → Type 0) → ℕ → SeatView → SeatView → Type 0
StillTheirs Came i s t = AllByRecursion (Came (i + 1)) s.pipe.opened → AllByRecursion (Came (i + 1)) t.pipe.opened

-- one of them was set
pub set_came : (Came : ℕ → EndsView → Type 0) (seats : List SeatView) (node : ℕ) (u v : SeatView) → 1 ≤ node → u ≡ get_or seats (node - 1) u → OpensAs (Came node) u.pipe v.pipe
    → CameAsTheirs Came seats → CameAsTheirs Came (set seats (node - 1) v)
set_came Came seats node u v low there opens h = record { each = λ i d l. all i d (omega (arith, l, length-set seats (node - 1) v)) }
  where
    here : StillTheirs Came (node - 1) u v
    here = let same : node ≡ node - 1 + 1 = omega (arith, low) in (subst (λ (n : ℕ). OpensAs (Came n) u.pipe v.pipe) same opens).all

    all : (i : ℕ) (d : SeatView) → i < length seats → AllByRecursion (Came (i + 1)) (get_or (set seats (node - 1) v) i d).pipe.opened
    all i d l = each_seat (StillTheirs Came) seats u v (node - 1) there here (λ j s n a. a) i d l (h.each i d l)

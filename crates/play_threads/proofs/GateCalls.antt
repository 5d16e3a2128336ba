-- A call through one of the gates of a wire: the wire's seats before and after.
use Rattle.std.proofs.Common.{◌≡◌, ℕ, ◌-◌, ◌≤◌, List, [], ◌∷◌, ◌++◌, refl, sym, ap, subst, ◌∙◌, length, map, set, get_or}
use Rattle.std.proofs.lemmas.List.{map-set}
use Rattle.std.proofs.Math.ListN.{get_or-map}
use Rattle.atomic_table.specs.Seated.{TableId}
use Rattle.journal_history.specs.declared.node_ask.NodeAsk.{NodeAsk}
use Rattle.journal_history.specs.declared.node_ask.NodeAnswer.{NodeAnswer}
use Rattle.play_threads.specs.Seated.{Seat}
use Rattle.play_threads.specs.GateWires.{GatesView, AreAt, Adds}
use Rattle.play_threads.proofs.SeatLaws.{own_table, set_at}

abbrev pub at_gates : ℕ → List TableId → List Seat → GatesView
at_gates c ts seats = record { caller = c; tables = ts; seats = seats }

-- the program's gates and seats, each shown as what it is known by
module _ {G S : Type 0} (table : G → TableId) (seat : S → Seat) (gates : List G) (seats : List S) (c node : ℕ) (v : GatesView) (s : S) (low : 1 ≤ node)
    (is_view : at_gates c (map table gates) (map seat seats) ≡ v) (high : node ≤ length v.seats) (h : AreAt c (map table gates) (map seat seats)) (is : s ≡ get_or seats (node - 1) s) where
  within : node ≤ length (map seat seats)
  within = subst (λ (x : GatesView). node ≤ length x.seats) (sym is_view) high

  pub own_at : (d : G) → (seat s).table ≡ table (get_or gates (node - 1) d)
  own_at d = own_table table seat gates seats node s d low within h.gates is

  pub still_at : (t : S) → (seat t).table ≡ (seat s).table → (seat t).caller ≡ (seat s).caller → AreAt c (map table gates) (map seat (set seats (node - 1) t))
  still_at t same same2 =
      let there : seat s ≡ get_or (map seat seats) (node - 1) (seat s) = ap seat is ∙ sym (get_or-map seat seats (node - 1) s) in
      subst (AreAt c (map table gates)) (sym (map-set seat seats (node - 1) t)) (set_at c (map table gates) (map seat seats) node (seat s) (seat t) low within h there same same2)

  pub adds_at : (t : S) (ask : NodeAsk) (a : NodeAnswer) → (seat t).table ≡ (seat s).table → (seat t).caller ≡ (seat s).caller
      → (seat t).own ≡ (seat s).own ++ record { caller = (seat s).caller; ask = ask; answer = a } ∷ []
      → Adds node ask a v (at_gates c (map table gates) (map seat (set seats (node - 1) t)))
  adds_at t ask a same same2 own =
      subst (λ (x : GatesView). Adds node ask a x (at_gates c (map table gates) (map seat (set seats (node - 1) t)))) is_view (record {
        before = seat s;
        after = seat t;
        was = ap seat is ∙ sym (get_or-map seat seats (node - 1) s);
        table = same;
        mine = same2;
        own = own;
        seats = map-set seat seats (node - 1) t;
        caller = refl;
        tables = refl;
      })

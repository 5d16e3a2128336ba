-- What is left when all seats were taken in.
use Rattle.std.proofs.Common.{◌≡◌, ℕ, List, [], ◌∷◌, length, map, refl, sym, ap, ◌∙◌, subst, arith}
use Rattle.std.proofs.lemmas.List.{length-map}
use mathlib.Core.Option.{some, some-injective}
use lib.ListN.{get_elem?}
use Rattle.atomic_table.specs.Table.{Final, Seen}
use Rattle.atomic_table.proofs.Lists.{at_map}
use Rattle.play_threads.specs.declared.board.View.{View}
use Rattle.play_threads.specs.Board.{Log, keeper, Kept, IsClosed}
use Rattle.play_threads.proofs.Steps.{finishes}

pub map_same : {A : Type 0} (l : List A) → map (λ x. x) l ≡ l
map_same [] = refl
map_same (x ∷ xs) = ap (λ l. x ∷ l) (map_same xs)

pub leaves : {S E G : Type 0} (led : Log E → S → Type 0) (seen : G → Log E) (places : G → List ℕ) (id : ℕ) (v : View E) (made : ℕ) (taken seats : List G) (ws : List ℕ) (xs : List S) (cell : S)
    → map (λ x. x) taken ≡ seats → length seats ≡ made
    → v ≡ keeper made (map (λ g. (seen g, places g)) taken)
    → Final (Seen (Kept led) id v) ws xs → get_elem? xs 0 ≡ some cell
    → IsClosed led seen places seats cell
leaves {S} {E} {G} led seen places id v made taken seats ws xs cell all count is final there =
    let same : taken ≡ seats = sym (map_same taken) ∙ all in
    let ended : List (Log E × List ℕ) = map (λ g. (seen g, places g)) taken in
    let size : made ≡ length ended = sym count ∙ ap (λ (l : List G). length l) (sym same) ∙ sym (length-map taken (λ (g : G). (seen g, places g))) in
    let f = finishes led id v ended ws xs (is ∙ ap (λ (n : ℕ). keeper n ended) size) final in
    let one : f.0 ≡ cell = some-injective f.0 cell (sym f.2 ∙ there) in
    record {
      log = f.1;
      led_to = subst (led f.1) one f.3;
      each = λ k g at. f.4 k (seen g, places g) (at_map (λ (g : G). (seen g, places g)) taken k g (subst (λ (l : List G). get_elem? l k ≡ some g) (sym same) at));
      no_others = λ k le. f.5 k (omega (arith, size, count, le));
    }

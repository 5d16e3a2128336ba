-- How the starts of the final files are gathered.
use Rattle.std.proofs.Common.{inl, inr, ⊎_elim, ◌≡◌, ℕ, List, [], ◌∷◌, ◌++◌, sym, subst}
use Rattle.std.specs.Prelude.{Contains}
use Rattle.std.proofs.lemmas.List.Elements.{Contains-push, Contains-push_cases, Contains-append_left}
use Rattle.base_disk.specs.Files.{Files}
use Rattle.base_disk.specs.Calls.{Lists}
use Rattle.disk_segment.specs.Names.{Final}
use Rattle.disk_opening.specs.Completing.{IsFinalFile, AreFinals, AreStartsIn, AddsStart}
use Rattle.disk_opening.proofs.MendLemmas.{one_start}

-- a final file's start is pushed
pub start_added : (name : List ℕ) (start : ℕ) (old new : List ℕ) → IsFinalFile name start → new ≡ old ++ start ∷ [] → AddsStart name old new
start_added name start old new final is = record {
  kept = λ other among. subst (λ (l : List ℕ). Contains l other) (sym is) (Contains-append_left old (start ∷ []) other among);
  added = λ other other_final. subst (λ (l : List ℕ). Contains l other) (sym is)
      (subst (λ (n : ℕ). Contains (old ++ start ∷ []) n) (one_start name start other (Final final.last) (Final other_final.last) final.named other_final.named) (Contains-push old start));
  no_other = λ other among. ⊎_elim (λ before. inl before) (λ same. inr (subst (λ (n : ℕ). IsFinalFile name n) same final))
      (Contains-push_cases old start other (subst (λ (l : List ℕ). Contains l other) is among));
}

pub none_added : (name : List ℕ) (starts : List ℕ) → ((start : ℕ) → IsFinalFile name start → ⊥) → AddsStart name starts starts
none_added name starts none = record { kept = λ start among. among; added = λ start final. absurd (none start final); no_other = λ start among. inl among }

pub one_more : (names next : List (List ℕ)) (name : List ℕ) (old new : List ℕ) → next ≡ names ++ name ∷ [] → AreStartsIn names old → AddsStart name old new → AreStartsIn next new
one_more names next name old new is are adds = subst (λ (l : List (List ℕ)). AreStartsIn l new) (sym is) record {
  there = λ start among. ⊎_elim
      (λ before. let had = are.there start before in (had.0, Contains-append_left names (name ∷ []) had.0 had.1, had.2))
      (λ final. (name, Contains-push names name, final))
      (adds.no_other start among);
  all = λ other start among final. ⊎_elim
      (λ before. adds.kept start (are.all other start before final))
      (λ same. adds.added start (subst (λ (n : List ℕ). IsFinalFile n start) (sym same) final))
      (Contains-push_cases names name other among);
}

-- the names are those of the files
pub are_finals : (names : List (List ℕ)) (starts : List ℕ) (seen : Files) → Lists names seen → AreStartsIn names starts → AreFinals starts seen
are_finals names starts seen lists are = record {
  there = λ start among. let had = are.there start among in record { name = had.0; is = had.2; there = lists.there had.0 had.1 };
  all = λ start has. are.all has.name start (lists.all has.name has.there) has.is;
}

-- Laws of the disk calls that are left before a cut.
use Rattle.std.proofs.Common.{◌≡◌, ◌<◌, ◌≤◌, ◌+◌, ◌-◌, List, [], ◌∷◌, ◌++◌, Bool, true, false, cond, refl, sym, ◌∙◌, ap, arith, append_assoc}
use Rattle.journal_step.specs.declared.budget.Budget.{Budget}
use Rattle.journal_core.specs.Cuts.{Cost, standing}
use Rattle.journal_core.proofs.CutLaws.{standing_one, standing_stop}
use Rattle.journal_step.specs.Budgets.{count_on, SpendsTo}

stopped_spends : (old new : Budget) (cost : Cost) → old.going ≡ false → new.going ≡ false → new.standing ≡ old.standing → SpendsTo old (cost ∷ []) new
stopped_spends old new cost o n e = record { spent = λ rest. rw (o, n) (sym e) }

pub spends_nothing : (b : Budget) (cost : Cost) → b.going ≡ false → SpendsTo b (cost ∷ []) b
spends_nothing b cost o = stopped_spends b b cost o o refl

pub spends_last : (old new : Budget) (cost : Cost) → old.going ≡ true → old.calls < cost.decides → new.going ≡ false → new.standing ≡ old.standing → SpendsTo old (cost ∷ []) new
spends_last old new cost o l n e = record { spent = λ rest. rw (o, n, standing_stop old.calls cost rest l) (omega arith) }

pub spends_one : (old new : Budget) (cost : Cost) → old.going ≡ true → cost.decides ≤ old.calls → new.going ≡ true → new.standing ≡ old.standing + 1
    → new.calls ≡ old.calls - cost.calls → SpendsTo old (cost ∷ []) new
spends_one old new cost o l n e c = record { spent = λ rest. rw (o, n, standing_one old.calls cost rest l, ← c) (omega arith) }

pub count_none : (b : Budget) → b.standing ≡ count_on b []
unfolding standing
count_none b = pick b.going
  where
    pick : (g : Bool) → b.standing ≡ cond g (b.standing + 0) b.standing
    pick true = omega arith
    pick false = refl

pub ruleset spending = (spends_nothing, spends_last, spends_one)

pub SpendsTo-none : (b : Budget) → SpendsTo b [] b
SpendsTo-none b = record { spent = λ rest. refl }

pub SpendsTo-on : (a b c : Budget) (xs ys : List Cost) → SpendsTo a xs b → SpendsTo b ys c → SpendsTo a (xs ++ ys) c
SpendsTo-on a b c xs ys p q = record { spent = λ rest. ap (count_on a) (append_assoc xs ys rest) ∙ p.spent (ys ++ rest) ∙ q.spent rest }

pub SpendsTo-two : (a b c : Budget) (x y : Cost) → SpendsTo a (x ∷ []) b → SpendsTo b (y ∷ []) c → SpendsTo a (x ∷ y ∷ []) c
SpendsTo-two a b c x y p q = SpendsTo-on a b c (x ∷ []) (y ∷ []) p q

pub SpendsTo-more : (a b c : Budget) (x : Cost) (ys : List Cost) → SpendsTo a (x ∷ []) b → SpendsTo b ys c → SpendsTo a (x ∷ ys) c
SpendsTo-more a b c x ys p q = SpendsTo-on a b c (x ∷ []) ys p q

pub ruleset budgets = (SpendsTo-none, SpendsTo-two, SpendsTo-more)

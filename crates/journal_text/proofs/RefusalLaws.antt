-- Laws of the causes of refusals.
use Rattle.std.proofs.Common.{ℕ, ◌≡◌, ◌<◌, ◌+◌, List, length, drop, get_or, Some, None, Option, true, false, cond, ◌≤◌, sym, ap, ◌∙◌}
use Rattle.std.proofs.lemmas.List.{at_drop_more, drop_all}
use Rattle.journal_core.specs.declared.refusal.Refusal.{Refusal}
use Rattle.journal_text.specs.ReplyReading.{is_told, refusal_among}

-- one cause on
pub among_next : (all : List Refusal) (i number : ℕ) (name : List ℕ) (field : Option ℕ) (d : Refusal) (found : Option Refusal) → i < length all
    → refusal_among (drop i all) number name field ≡ found → is_told number name field (get_or all i d) ≡ false → refusal_among (drop (i + 1) all) number name field ≡ found
among_next all i number name field d found l h off =
    sym (at_drop_more (λ (rs : List Refusal). refusal_among rs number name field) all i d l ∙ ap (λ b. cond b (Some (get_or all i d)) (refusal_among (drop (i + 1) all) number name field)) off) ∙ h

-- the cause here
pub among_here : (all : List Refusal) (i number : ℕ) (name : List ℕ) (field : Option ℕ) (d : Refusal) (found : Option Refusal) → i < length all
    → refusal_among (drop i all) number name field ≡ found → is_told number name field (get_or all i d) ≡ true → Some (get_or all i d) ≡ found
among_here all i number name field d found l h on =
    sym (at_drop_more (λ (rs : List Refusal). refusal_among rs number name field) all i d l ∙ ap (λ b. cond b (Some (get_or all i d)) (refusal_among (drop (i + 1) all) number name field)) on) ∙ h

-- no cause is left
pub among_none : (all : List Refusal) (i number : ℕ) (name : List ℕ) (field : Option ℕ) (found : Option Refusal) → length all ≤ i
    → refusal_among (drop i all) number name field ≡ found → None ≡ found
among_none all i number name field found l h = ap (λ (rs : List Refusal). refusal_among rs number name field) (sym (drop_all i all l)) ∙ h

pub ruleset among_steps = (among_next, among_here, among_none)

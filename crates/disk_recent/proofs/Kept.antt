-- Laws of the edits that a ring keeps.
use Rattle.std.proofs.Common.{◌≡◌, ℕ, suc, ◌+◌, ◌-◌, ◌<◌, ◌≤◌, List, [], ◌∷◌, ◌++◌, length, drop, refl, ap, sym, subst, ◌∙◌, arith}
use Rattle.std.specs.Prelude.{Bool, true, false, ◌==◌, nat_le, if◌then◌else◌, Some, None}
use Rattle.std.proofs.lemmas.Bool.Decides.{nat_tests}
use Rattle.disk_recent.specs.Edits.{Edit, Follows, kept_edits, last_txid, number_edits, since, size_of}
use Rattle.disk_recent.specs.Laws.{AreNewest, KeepInTurn, KeepTheLast, KeepWhatFits, TakeNoMore}
use Rattle.disk_recent.proofs.Numbered.{last-numbered, numbered-drops, size_of-append}

-- two edits and more: all of them, or what is kept without the first
chosen : (P : List Edit → Type 0) (c : Bool) (n most : ℕ) (xs ys : List Edit) → c ≡ nat_le n most → (n ≤ most → P xs) → (most < n → P ys) → P (if c then xs else ys)
chosen P true n most xs ys e all less = all (grind (arith, nat_tests))
chosen P false n most xs ys e all less = less (grind (arith, nat_tests))

by_size : (P : List Edit → Type 0) (most : ℕ) (d f : Edit) (es : List Edit) → (size_of (d ∷ f ∷ es) ≤ most → P (d ∷ f ∷ es))
    → (most < size_of (d ∷ f ∷ es) → P (kept_edits most (f ∷ es))) → P (kept_edits most (d ∷ f ∷ es))
by_size P most d f es all less =
    chosen P (nat_le (size_of (d ∷ f ∷ es)) most) (size_of (d ∷ f ∷ es)) most (d ∷ f ∷ es) (kept_edits most (f ∷ es)) refl all less

pub kept-drop : AreNewest
kept-drop most [] = (0, refl)
kept-drop most (d ∷ []) = (0, refl)
kept-drop most (d ∷ f ∷ es) =
    let rest = kept-drop most (f ∷ es) in
    by_size (λ (ks : List Edit). (n : ℕ) × (ks ≡ drop n (d ∷ f ∷ es))) most d f es (λ _. (0, refl)) (λ _. (suc rest.0, rest.1))

-- without the first of too many
pub kept-cons : (most : ℕ) (d : Edit) (es : List Edit) → 0 < length es → most < size_of (d ∷ es) → kept_edits most (d ∷ es) ≡ kept_edits most es
kept-cons most d [] some h = absurd (omega arith)
kept-cons most d (f ∷ es) some h = by_size (λ (ks : List Edit). ks ≡ kept_edits most (f ∷ es)) most d f es (λ le. absurd (omega arith)) (λ _. refl)

pub kept_in_turn : KeepInTurn
kept_in_turn most [] e = refl
kept_in_turn most (d ∷ []) e = refl
kept_in_turn most (d ∷ f ∷ es) e =
    by_size (λ (ks : List Edit). kept_edits most (ks ++ e ∷ []) ≡ kept_edits most ((d ∷ f ∷ es) ++ e ∷ [])) most d f es (λ _. refl)
    (λ over. kept_in_turn most (f ∷ es) e ∙ sym (kept-cons most d ((f ∷ es) ++ e ∷ []) (omega arith) (omega (arith, size_of-append es e))))

since_over : (c : Bool) (txid most : ℕ) (d : Edit) (es : List Edit) → most < size_of (d ∷ es) → size_of (if c then d ∷ es else since txid es) ≤ most
    → (if c then d ∷ es else since txid es) ≡ since txid es
since_over true txid most d es over fits = absurd (omega arith)
since_over false txid most d es over fits = refl

pub kept_since : KeepWhatFits
kept_since most txid [] fits = refl
kept_since most txid (d ∷ []) fits = refl
kept_since most txid (d ∷ f ∷ es) fits =
    by_size (λ (ks : List Edit). since txid ks ≡ since txid (d ∷ f ∷ es)) most d f es (λ _. refl)
    (λ over.
    let same : since txid (d ∷ f ∷ es) ≡ since txid (f ∷ es) = since_over (d.txid == txid) txid most d (f ∷ es) over fits in
    kept_since most txid (f ∷ es) (subst (λ (xs : List Edit). size_of xs ≤ most) same fits) ∙ sym same)

pub kept_last : KeepTheLast
kept_last most [] = refl
kept_last most (d ∷ []) = refl
kept_last most (d ∷ f ∷ es) = by_size (λ (ks : List Edit). last_txid ks ≡ last_txid (d ∷ f ∷ es)) most d f es (λ _. refl) (λ _. kept_last most (f ∷ es))

pub kept_sized : TakeNoMore
kept_sized most [] more = absurd (omega arith)
kept_sized most (d ∷ []) more = absurd (omega arith)
kept_sized most (d ∷ f ∷ es) more =
    by_size (λ (ks : List Edit). 1 < length ks → size_of ks ≤ most) most d f es (λ le _. le) (λ _. kept_sized most (f ∷ es)) more

-- what follows the last
pub follows_last : (es : List Edit) (txid : ℕ) → last_txid es ≡ Some txid → Follows es (txid + 1)
follows_last [] txid e = tt
follows_last (d ∷ []) txid e = let same : d.txid ≡ txid = cc in ap (λ (k : ℕ). k + 1) (sym same)
follows_last (d ∷ f ∷ es) txid e = follows_last (f ∷ es) txid e

last-append : (es : List Edit) (e : Edit) → last_txid (es ++ e ∷ []) ≡ Some e.txid
last-append [] e = refl
last-append (d ∷ []) e = refl
last-append (d ∷ f ∷ es) e = last-append (f ∷ es) e

pub follows_kept : (most : ℕ) (es : List Edit) (e : Edit) → Follows (kept_edits most (es ++ e ∷ [])) (e.txid + 1)
follows_kept most es e = follows_last (kept_edits most (es ++ e ∷ [])) e.txid (kept_last most (es ++ e ∷ []) ∙ last-append es e)

pub follows_none : (es : List Edit) (txid : ℕ) → last_txid es ≡ None → Follows es txid
follows_none [] txid e = tt
follows_none (d ∷ []) txid e = cc
follows_none (d ∷ f ∷ es) txid e = follows_none (f ∷ es) txid e

-- of consecutive edits
pub kept-numbered : (most t : ℕ) (bs : List (List ℕ)) → (i : ℕ) × (kept_edits most (number_edits t bs) ≡ number_edits (t + i) (drop i bs))
kept-numbered most t bs = let k = kept-drop most (number_edits t bs) in (k.0, k.1 ∙ numbered-drops k.0 t bs)

pub follows_numbered : (most t : ℕ) (bs : List (List ℕ)) → Follows (kept_edits most (number_edits t bs)) (t + length bs)
follows_numbered most t [] = tt
follows_numbered most t (b ∷ bs) =
    let last : last_txid (kept_edits most (number_edits t (b ∷ bs))) ≡ Some (t + (length (b ∷ bs) - 1)) = kept_last most (number_edits t (b ∷ bs)) ∙ last-numbered t (b ∷ bs) (omega arith) in
    let e : t + (length (b ∷ bs) - 1) + 1 ≡ t + length (b ∷ bs) = omega arith in
    subst (λ (n : ℕ). Follows (kept_edits most (number_edits t (b ∷ bs))) n) e (follows_last (kept_edits most (number_edits t (b ∷ bs))) (t + (length (b ∷ bs) - 1)) last)

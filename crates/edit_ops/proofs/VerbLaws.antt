-- The kinds of edits that a script may ask for, and one found by its verb.
use Rattle.std.proofs.Common.{ℕ, ◌≡◌, ◌≢◌, ◌<◌, ◌≤◌, ◌+◌, List, [], ◌∷◌, drop, get_or, Bool, true, false, refl, sym, ap, subst, ◌∙◌, ◌⊎◌, inl, inr}
use Rattle.std.specs.List.{AllByRecursion}
use Rattle.std.specs.Str.{bytes_eq}
use Rattle.std.proofs.lemmas.List.{at_drop_more, drop_all}
use Rattle.std.proofs.lemmas.Bool.{false≢true}
use Rattle.std.proofs.lemmas.Slice.Eq.{bytes_eq-Decides}
use Rattle.edit_ops.specs.declared.kind.OpKind.{OpKind}
use Rattle.edit_ops.specs.declared.kind.OpKind.TheVariants as kinds
use Rattle.edit_ops.specs.Kinds.{is_mark}
use Rattle.edit_ops.specs.Words.{verb}

-- each kind that is no mark
abbrev pub asked : List OpKind
asked =
    kinds.Add ∷ kinds.RenameOld ∷ kinds.Delete ∷ kinds.Mkdir ∷ kinds.SetReplication ∷ kinds.SetPermissions ∷ kinds.SetOwner ∷ kinds.Close ∷ kinds.Times ∷ kinds.SetQuota
    ∷ kinds.Rename ∷ kinds.ConcatDelete ∷ []

abbrev pub Among : OpKind → List OpKind → Type 0
Among kind [] = ⊥
Among kind (k ∷ ks) = (k ≡ kind) ⊎ Among kind ks

asked_among : (kind : OpKind) → is_mark kind ≡ false → Among kind asked
asked_among kinds.Add m = inl refl
asked_among kinds.RenameOld m = inr (inl refl)
asked_among kinds.Delete m = inr (inr (inl refl))
asked_among kinds.Mkdir m = inr (inr (inr (inl refl)))
asked_among kinds.SetReplication m = inr (inr (inr (inr (inl refl))))
asked_among kinds.SetPermissions m = inr (inr (inr (inr (inr (inl refl)))))
asked_among kinds.SetOwner m = inr (inr (inr (inr (inr (inr (inl refl))))))
asked_among kinds.Close m = inr (inr (inr (inr (inr (inr (inr (inl refl)))))))
asked_among kinds.Times m = inr (inr (inr (inr (inr (inr (inr (inr (inl refl))))))))
asked_among kinds.SetQuota m = inr (inr (inr (inr (inr (inr (inr (inr (inr (inl refl)))))))))
asked_among kinds.Rename m = inr (inr (inr (inr (inr (inr (inr (inr (inr (inr (inl refl))))))))))
asked_among kinds.ConcatDelete m = inr (inr (inr (inr (inr (inr (inr (inr (inr (inr (inr (inl refl)))))))))))
asked_among kinds.EndLogSegment m = absurd (false≢true (sym m))
asked_among kinds.StartLogSegment m = absurd (false≢true (sym m))

-- none of these is a mark, and each kind with that verb is among them
pub record Ahead (ks : List OpKind) (word : List ℕ) : Type 0 where
  pub plain : AllByRecursion (λ k. is_mark k ≡ false) ks
  pub all : (kind : OpKind) → is_mark kind ≡ false → verb kind ≡ word → Among kind ks

pub all_ahead : (word : List ℕ) → Ahead asked word
all_ahead word = record { plain = (refl, (refl, (refl, (refl, (refl, (refl, (refl, (refl, (refl, (refl, (refl, (refl, tt)))))))))))); all = λ kind m v. asked_among kind m }

next : (i : ℕ) (word : List ℕ) (d : OpKind) → i < 12 → Ahead (drop i asked) word → Ahead (get_or asked i d ∷ drop (i + 1) asked) word
next i word d l h = subst (λ (ks : List OpKind). Ahead ks word) (at_drop_more (λ (ks : List OpKind). ks) asked i d l) h

pub later : (k kind : OpKind) (ks : List OpKind) → (k ≡ kind) ⊎ Among kind ks → k ≢ kind → Among kind ks
later k kind ks (inl e) differs = absurd (differs e)
later k kind ks (inr a) differs = a

-- not this kind
pub ahead_next : (i : ℕ) (word other : List ℕ) (d : OpKind) → i < 12 → Ahead (drop i asked) word → other ≡ verb (get_or asked i d) → false ≡ bytes_eq word other → Ahead (drop (i + 1) asked) word
ahead_next i word other d l h e f =
    let k = get_or asked i d in
    let n = next i word d l h in
    record {
      plain = n.plain.1;
      all = λ kind m v. later k kind (drop (i + 1) asked) (n.all kind m v) (λ same. false≢true (f ∙ (bytes_eq-Decides word other).1 (sym (e ∙ (ap verb same ∙ v)))));
    }

-- this kind
pub ahead_found : (i : ℕ) (word other : List ℕ) (d : OpKind) → i < 12 → Ahead (drop i asked) word → other ≡ verb (get_or asked i d) → true ≡ bytes_eq word other
    → (is_mark (get_or asked i d) ≡ false) × (verb (get_or asked i d) ≡ word)
ahead_found i word other d l h e f = ((next i word d l h).plain.0, sym ((bytes_eq-Decides word other).0 (sym f) ∙ e))

-- no kind
pub ahead_ends : (i : ℕ) (word : List ℕ) → 12 ≤ i → Ahead (drop i asked) word → (kind : OpKind) → is_mark kind ≡ false → verb kind ≢ word
ahead_ends i word l h kind m v = subst (Among kind) (drop_all i asked l) (h.all kind m v)

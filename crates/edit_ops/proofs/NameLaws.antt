-- A kind found by its name.
use Rattle.std.proofs.Common.{ℕ, ◌≡◌, ◌≢◌, ◌<◌, ◌≤◌, ◌+◌, List, ◌∷◌, drop, get_or, true, false, refl, sym, ap, subst, ◌∙◌, inl, inr}
use Rattle.std.specs.Str.{bytes_eq}
use Rattle.std.proofs.lemmas.List.{at_drop_more, drop_all}
use Rattle.std.proofs.lemmas.Bool.{false≢true}
use Rattle.std.proofs.lemmas.Slice.Eq.{bytes_eq-Decides}
use Rattle.edit_ops.specs.declared.kind.OpKind.{OpKind}
use Rattle.edit_ops.specs.declared.kind.OpKind.TheVariants as each
use Rattle.edit_ops.specs.Kinds.{kinds}
use Rattle.edit_ops.specs.Words.{name}
use Rattle.edit_ops.proofs.VerbLaws.{Among, later}

each_among : (kind : OpKind) → Among kind kinds
each_among each.Add = inl refl
each_among each.RenameOld = inr (inl refl)
each_among each.Delete = inr (inr (inl refl))
each_among each.Mkdir = inr (inr (inr (inl refl)))
each_among each.SetReplication = inr (inr (inr (inr (inl refl))))
each_among each.SetPermissions = inr (inr (inr (inr (inr (inl refl)))))
each_among each.SetOwner = inr (inr (inr (inr (inr (inr (inl refl))))))
each_among each.Close = inr (inr (inr (inr (inr (inr (inr (inl refl)))))))
each_among each.Times = inr (inr (inr (inr (inr (inr (inr (inr (inl refl))))))))
each_among each.SetQuota = inr (inr (inr (inr (inr (inr (inr (inr (inr (inl refl)))))))))
each_among each.Rename = inr (inr (inr (inr (inr (inr (inr (inr (inr (inr (inl refl))))))))))
each_among each.ConcatDelete = inr (inr (inr (inr (inr (inr (inr (inr (inr (inr (inr (inl refl)))))))))))
each_among each.EndLogSegment = inr (inr (inr (inr (inr (inr (inr (inr (inr (inr (inr (inr (inl refl))))))))))))
each_among each.StartLogSegment = inr (inr (inr (inr (inr (inr (inr (inr (inr (inr (inr (inr (inr (inl refl)))))))))))))

-- each kind with that name is among these
pub record IsAhead (ks : List OpKind) (word : List ℕ) : Type 0 where
  pub all : (kind : OpKind) → name kind ≡ word → Among kind ks

pub all_named : (word : List ℕ) → IsAhead kinds word
all_named word = record { all = λ kind n. each_among kind }

next : (i : ℕ) (word : List ℕ) (d : OpKind) → i < 14 → IsAhead (drop i kinds) word → IsAhead (get_or kinds i d ∷ drop (i + 1) kinds) word
next i word d l h = subst (λ (ks : List OpKind). IsAhead ks word) (at_drop_more (λ (ks : List OpKind). ks) kinds i d l) h

-- not this kind
pub named_next : (i : ℕ) (word other : List ℕ) (d : OpKind) → i < 14 → IsAhead (drop i kinds) word → other ≡ name (get_or kinds i d) → false ≡ bytes_eq word other
    → IsAhead (drop (i + 1) kinds) word
named_next i word other d l h e f =
    let k = get_or kinds i d in
    let n = next i word d l h in
    record { all = λ kind v. later k kind (drop (i + 1) kinds) (n.all kind v) (λ same. false≢true (f ∙ (bytes_eq-Decides word other).1 (sym (e ∙ (ap name same ∙ v))))) }

-- this kind
pub named_found : (i : ℕ) (word other : List ℕ) (d : OpKind) → other ≡ name (get_or kinds i d) → true ≡ bytes_eq word other → name (get_or kinds i d) ≡ word
named_found i word other d e f = sym ((bytes_eq-Decides word other).0 (sym f) ∙ e)

-- no kind
pub named_ends : (i : ℕ) (word : List ℕ) → 14 ≤ i → IsAhead (drop i kinds) word → (kind : OpKind) → name kind ≢ word
named_ends i word l h kind v = subst (Among kind) (drop_all i kinds l) (h.all kind v)

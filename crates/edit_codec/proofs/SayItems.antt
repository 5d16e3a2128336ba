-- Reading items to the end of a text, as a loop does.
use Rattle.std.proofs.Common.{◌≡◌, ℕ, zero, suc, ◌-◌, ◌+◌, ◌≤◌, ◌<◌, List, [], ◌∷◌, ◌++◌, length, Option, Some, None, refl, sym, ap, ◌∙◌, append_assoc, arith}
use Rattle.std.proofs.lemmas.List.{append-nil}
use Rattle.edit_codec.specs.declared.bad_text.BadText.{BadText}
use Rattle.base_words.proofs.Lists.{one_left, none_left}
use Rattle.edit_ops.specs.declared.field_fault.ReadError.{ReadError}
use Rattle.edit_ops.specs.declared.field_fault.ReadError.TheVariants as errors
use Rattle.edit_ops.specs.Fields.{Kind, Field}
use Rattle.edit_codec.specs.Saying.{◌>>=◌, Misses, field_said, items_said}

-- what was read before, and what is still read
abbrev pub with_items : List Field → Option (List Field) → Option (List Field)
with_items front read = read >>= λ items. Some (front ++ items)

regroup : (front : List Field) (f : Field) (read : Option (List Field)) → with_items front (read >>= λ items. Some (f ∷ items)) ≡ with_items (front ++ f ∷ []) read
regroup front f (Some x) = ap (λ (fs : List Field). Some fs) (simp append_assoc)
regroup front f None = refl

one_item : (kind : Kind) (most : ℕ) (words : List ℕ) (f : Field) (after : List ℕ) → 0 < length words → field_said kind words ≡ Some (f, after)
    → items_said (suc most) kind words ≡ (items_said most kind after >>= λ items. Some (f ∷ items))
unfolding items_said
one_item kind most [] f after some h = absurd (omega arith)
one_item kind most (b ∷ words) f after some h = rw h refl

no_item : (kind : Kind) (most : ℕ) (words : List ℕ) → 0 < length words → field_said kind words ≡ None → items_said (suc most) kind words ≡ None
unfolding items_said
no_item kind most [] some h = absurd (omega arith)
no_item kind most (b ∷ words) some h = rw h refl

module _ (kind : Kind) where
  pub goes_on : (front : List Field) (count i : ℕ) (words : List ℕ) (f : Field) (after : List ℕ) (total : Option (List Field)) → i < count → 0 < length words → field_said kind words ≡ Some (f, after)
      → with_items front (items_said (count - i) kind words) ≡ total → with_items (front ++ f ∷ []) (items_said (count - (i + 1)) kind after) ≡ total
  goes_on front count i words f after total lt some h so_far =
      let one : with_items front (items_said (count - i) kind words) ≡ with_items (front ++ f ∷ []) (items_said (count - (i + 1)) kind after) =
      rw (one_left lt) (ap (with_items front) (one_item kind (count - (i + 1)) words f after some h)
      ∙ regroup front f (items_said (count - (i + 1)) kind after)) in
      sym one ∙ so_far

  pub ends : (e : ReadError BadText) (front : List Field) (count i : ℕ) (words : List ℕ) (total : Option (List Field)) → i < count → 0 < length words → Misses e (field_said kind words)
      → with_items front (items_said (count - i) kind words) ≡ total → Misses e total
  ends errors.Memory front count i words total lt some h so_far = tt
  ends (errors.Fault f) front count i words total lt some h so_far =
      let one : with_items front (items_said (count - i) kind words) ≡ None = rw (one_left lt) (ap (with_items front) (no_item kind (count - (i + 1)) words some h)) in
      sym so_far ∙ one

  at_end : (most : ℕ) (words : List ℕ) → length words ≡ 0 → items_said most kind words ≡ Some []
  unfolding items_said
  at_end zero [] none = refl
  at_end (suc most) [] none = refl
  at_end most (b ∷ words) none = absurd (omega (arith, none))

  pub is_done : (front : List Field) (most : ℕ) (words : List ℕ) (total : Option (List Field)) → length words ≡ 0 → with_items front (items_said most kind words) ≡ total → total ≡ Some front
  is_done front most words total none so_far = sym so_far ∙ ap (with_items front) (at_end most words none) ∙ ap (λ (fs : List Field). Some fs) (append-nil front)

  too_many : (words : List ℕ) → 0 < length words → items_said 0 kind words ≡ None
  unfolding items_said
  too_many [] some = absurd (omega arith)
  too_many (b ∷ words) some = refl

  pub is_too_long : (front : List Field) (count i : ℕ) (words : List ℕ) (total : Option (List Field)) → count ≤ i → 0 < length words
      → with_items front (items_said (count - i) kind words) ≡ total → total ≡ None
  is_too_long front count i words total le some so_far =
      let one : with_items front (items_said (count - i) kind words) ≡ None = rw (none_left le) (ap (with_items front) (too_many words some)) in
      sym so_far ∙ one

-- Items that are read one after the other are those that were written, and what was written is read
-- again.
use Rattle.std.proofs.Common.{◌≡◌, ℕ, zero, suc, ◌+◌, ◌-◌, ◌<◌, ◌≤◌, List, [], ◌∷◌, ◌++◌, length, Result, Ok, Err, refl, sym, ap, subst, ◌∙◌, append_assoc, arith}
use Rattle.std.specs.List.{flat_map}
use Rattle.std.proofs.lemmas.List.{append-nil}
use Rattle.std.proofs.lemmas.List.Concat.{flat_map-cons}
use Rattle.base_words.proofs.Lists.{one_left, none_left}
use Rattle.base_words.specs.Fields.{IsBytes}
use Rattle.base_words.proofs.FieldLaws.{Begins, Begins-then}
use Rattle.edit_ops.proofs.SourceLaws.{ok_is}
use Rattle.ns_image.specs.declared.image_fault.ImageFault.{ImageFault}
use Rattle.ns_image.specs.declared.image_fault.ReadError.{ReadError}
use Rattle.ns_image.specs.declared.image_fault.ReadError.TheVariants as errors
use Rattle.ns_image.specs.Reading.{Fails, repeated}
use Rattle.ns_image.proofs.FieldLaws.{bind_ok}

-- ## A loop over a count
module _ {S : Type 0} (step : S → List ℕ → Result (S × List ℕ) ImageFault) where
  pub goes_on : (count i : ℕ) (state : S) (bytes : List ℕ) (next : S) (after : List ℕ) (total : Result (S × List ℕ) ImageFault) → i < count → step state bytes ≡ Ok (next, after)
      → repeated step (count - i) state bytes ≡ total → repeated step (count - (i + 1)) next after ≡ total
  unfolding repeated
  goes_on count i state bytes next after total lt h so_far =
      let one : repeated step (count - i) state bytes ≡ repeated step (count - (i + 1)) next after = rw (one_left lt, h) refl in
      sym one ∙ so_far

  pub ends : (e : ReadError) (count i : ℕ) (state : S) (bytes : List ℕ) (total : Result (S × List ℕ) ImageFault) → i < count → Fails e (step state bytes)
      → repeated step (count - i) state bytes ≡ total → Fails e total
  unfolding repeated
  ends errors.Memory count i state bytes total lt h so_far = tt
  ends (errors.Fault f) count i state bytes total lt h so_far =
      let one : repeated step (count - i) state bytes ≡ Err f = rw (one_left lt, h) refl in
      sym so_far ∙ one

  pub is_done : (count i : ℕ) (state : S) (bytes : List ℕ) (total : Result (S × List ℕ) ImageFault) → count ≤ i → repeated step (count - i) state bytes ≡ total → total ≡ Ok (state, bytes)
  unfolding repeated
  is_done count i state bytes total le so_far =
      let one : repeated step (count - i) state bytes ≡ Ok (state, bytes) = rw (none_left le) refl in
      sym so_far ∙ one

  pub at_first : (count : ℕ) (state : S) (bytes : List ℕ) → repeated step (count - 0) state bytes ≡ repeated step count state bytes
  at_first count state bytes = ap (λ (n : ℕ). repeated step n state bytes) (let none : count - 0 ≡ count = omega arith in none)

-- ## Lists of items
module _ {A : Type 0} (step : List A → List ℕ → Result (List A × List ℕ) ImageFault) (write : A → List ℕ) (May : List A → A → Type 0) where
  -- each item may come after those before it
  abbrev pub AreNext : List A → List A → Type 0
  AreNext items [] = Unit {0}
  AreNext items (item ∷ more) = May items item × AreNext (items ++ item ∷ []) more

  pub record OneTaken (items : List A) (bytes : List ℕ) (x : List A × List ℕ) : Type 0 where
    pub item : A
    pub all : x.0 ≡ items ++ item ∷ []
    pub taken : Begins bytes (write item) x.1
    pub may : May items item

  pub record ManyTaken (count : ℕ) (items : List A) (bytes : List ℕ) (x : List A × List ℕ) : Type 0 where
    pub more : List A
    pub all : x.0 ≡ items ++ more
    pub taken : Begins bytes (flat_map write more) x.1
    pub counted : length more ≡ count
    pub good : AreNext items more

  pub many_take : ((items : List A) (bytes : List ℕ) (x : List A × List ℕ) → IsBytes bytes → step items bytes ≡ Ok x → OneTaken items bytes x)
      → (count : ℕ) (items : List A) (bytes : List ℕ) (x : List A × List ℕ) → IsBytes bytes → repeated step count items bytes ≡ Ok x → ManyTaken count items bytes x
  unfolding repeated
  many_take one_takes zero items bytes x fits e =
      subst (λ (y : List A × List ℕ). ManyTaken 0 items bytes y) (ok_is (items, bytes) x e)
      (record { more = []; all = sym (append-nil items); taken = record { spelled = refl; left = fits }; counted = refl; good = tt })
  many_take one_takes (suc count) items bytes x fits e =
      let a = bind_ok e in
      let t = one_takes items bytes a.0 fits a.1 in
      let rest = many_take one_takes count a.0.0 a.0.1 x t.taken.left a.2 in
      record {
        more = t.item ∷ rest.more;
        all = rest.all ∙ ap (λ (ys : List A). ys ++ rest.more) t.all ∙ append_assoc items (t.item ∷ []) rest.more;
        taken = subst (λ (text : List ℕ). Begins bytes text x.1) (sym (flat_map-cons write t.item rest.more)) (Begins-then t.taken rest.taken);
        counted = ap suc rest.counted;
        good = (t.may, subst (λ (ys : List A). AreNext ys rest.more) t.all rest.good);
      }

  pub many_again : ((items : List A) (item : A) (rest : List ℕ) → May items item → step items (write item ++ rest) ≡ Ok (items ++ item ∷ [], rest))
      → (items more : List A) (rest : List ℕ) → AreNext items more → repeated step (length more) items (flat_map write more ++ rest) ≡ Ok (items ++ more, rest)
  unfolding repeated
  many_again one_again items [] rest good = ap (λ (xs : List A). Ok (xs, rest)) (sym (append-nil items))
  many_again one_again items (item ∷ more) rest good =
      let regrouped : flat_map write (item ∷ more) ++ rest ≡ write item ++ (flat_map write more ++ rest) =
      ap (λ (x : List ℕ). x ++ rest) (flat_map-cons write item more) ∙ append_assoc (write item) (flat_map write more) rest in
      ap (repeated step (suc (length more)) items) regrouped
      ∙ (rw (one_again items item (flat_map write more ++ rest) good.0, many_again one_again (items ++ item ∷ []) more rest good.1)
      (ap (λ (xs : List A). Ok (xs, rest)) (append_assoc items (item ∷ []) more)))

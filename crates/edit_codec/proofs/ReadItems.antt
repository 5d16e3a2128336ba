-- Reading items one after the other, as a loop does.
use Rattle.std.proofs.Common.{◌≡◌, ℕ, suc, ◌-◌, ◌+◌, ◌≤◌, ◌<◌, List, [], ◌∷◌, ◌++◌, Result, Ok, Err, refl, sym, ap, ◌∙◌, append_assoc, arith}
use Rattle.std.specs.Prelude.{replicate}
use Rattle.std.proofs.lemmas.List.{append-nil}
use Rattle.base_words.proofs.Lists.{one_left, none_left}
use Rattle.edit_ops.specs.declared.field_fault.FieldFault.{FieldFault}
use Rattle.edit_ops.specs.declared.field_fault.ReadError.{ReadError}
use Rattle.edit_ops.specs.declared.field_fault.ReadError.TheVariants as errors
use Rattle.edit_ops.specs.Fields.{Kind, Field}
use Rattle.edit_ops.specs.Sources.{◌>>=◌, Fails}
use Rattle.edit_ops.specs.Reading.{field_at, items_at}
use Rattle.edit_ops.proofs.SourceLaws.{with_front}

regroup : (front : List Field) (f : Field) (read : Result (List Field × List ℕ) FieldFault) → with_front front (read >>= λ x. Ok (f ∷ x.0, x.1)) ≡ with_front (front ++ f ∷ []) read
regroup front f (Ok x) = ap (λ (fs : List Field). Ok (fs, x.1)) (simp append_assoc)
regroup front f (Err e) = refl

module _ (kind : Kind) where
  pub goes_on : (front : List Field) (count i : ℕ) (bytes : List ℕ) (f : Field) (after : List ℕ) (total : Result (List Field × List ℕ) FieldFault) → i < count → field_at kind bytes ≡ Ok (f, after)
      → with_front front (items_at (replicate (count - i) kind) bytes) ≡ total → with_front (front ++ f ∷ []) (items_at (replicate (count - (i + 1)) kind) after) ≡ total
  goes_on front count i bytes f after total lt h so_far =
      let one : with_front front (items_at (replicate (count - i) kind) bytes) ≡ with_front (front ++ f ∷ [])
      (items_at (replicate (count - (i + 1)) kind) after) = rw (one_left lt, h) (regroup front f (items_at (replicate (count - (i + 1)) kind) after)) in
      sym one ∙ so_far

  pub ends : (e : ReadError FieldFault) (front : List Field) (count i : ℕ) (bytes : List ℕ) (total : Result (List Field × List ℕ) FieldFault) → i < count → Fails e (field_at kind bytes)
      → with_front front (items_at (replicate (count - i) kind) bytes) ≡ total → Fails e total
  ends errors.Memory front count i bytes total lt h so_far = tt
  ends (errors.Fault f) front count i bytes total lt h so_far =
      let one : with_front front (items_at (replicate (count - i) kind) bytes) ≡ Err f = rw (one_left lt, h) refl in
      sym so_far ∙ one

  pub is_done : (front : List Field) (count i : ℕ) (bytes : List ℕ) (total : Result (List Field × List ℕ) FieldFault) → count ≤ i
      → with_front front (items_at (replicate (count - i) kind) bytes) ≡ total → total ≡ Ok (front, bytes)
  is_done front count i bytes total le so_far =
      let one : with_front front (items_at (replicate (count - i) kind) bytes) ≡ Ok (front, bytes) = rw (none_left le) (ap (λ (fs : List Field). Ok (fs, bytes)) (append-nil front)) in
      sym so_far ∙ one

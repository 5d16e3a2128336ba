-- A file is a record in its grammar, or it isn't.
use Rattle.std.proofs.Common.{inl, inr, ◌⊎◌, ◌≡◌, ◌≢◌, ℕ, ◌^◌, List, take, drop, Bool, true, false, refl, sym, ◌∙◌, ap, subst, arith}
use Rattle.std.specs.Prelude.{Option, Some, None}
use Rattle.std.specs.Bool.{Decides}
use Rattle.std.specs.Str.Parse.{digits_value}
use Rattle.std.proofs.lemmas.Bool.{cases_lt}
use Rattle.std.proofs.lemmas.Option.{same_Some}
use Rattle.std.proofs.lemmas.Slice.Eq.{bytes_eq-Decides}
use Rattle.std.specs.Str.{bytes_eq}
use Rattle.base_words.proofs.PaddedLaws.{value-padded}
use Rattle.base_files.specs.Records.{Record, IsRecord, record_bytes}
use Rattle.base_files.proofs.RecordLaws.{parts_of_record}
use Rattle.disk_segment.specs.Stands.{IsRecordFile}

pub same_or_not : (xs ys : List ℕ) → (xs ≡ ys) ⊎ (xs ≢ ys)
same_or_not xs ys = by (bytes_eq xs ys) (bytes_eq-Decides xs ys)
  where
    by : (b : Bool) → Decides b (xs ≡ ys) → (xs ≡ ys) ⊎ (xs ≢ ys)
    by true told = inl (told.0 refl)
    by false told = inr (λ same. let p = sym (told.1 same) in absurd (cc))

-- the numbers that the bytes tell, if they are a record
abbrev told_in : List ℕ → Record
told_in bytes = record { epoch = digits_value 10 (take 19 bytes); end = digits_value 10 (take 19 (drop 20 bytes)) }

told_is : (bytes : List ℕ) (r : Record) → IsRecord bytes r → told_in bytes ≡ r
told_is bytes r is =
    let parts = parts_of_record bytes r is.spelled in
    let first : digits_value 10 (take 19 bytes) ≡ r.epoch = ap (digits_value 10) parts.first ∙ value-padded 19 r.epoch (omega (arith, is.epoch)) in
    let second : digits_value 10 (take 19 (drop 20 bytes)) ≡ r.end = ap (digits_value 10) parts.second ∙ value-padded 19 r.end (omega (arith, is.end)) in
    λ i. record { epoch = first i; end = second i }

is_told : (bytes : List ℕ) → (IsRecord bytes (told_in bytes) → ⊥) → IsRecordFile (Some bytes) → ⊥
is_told bytes none (inl absent) = absurd (cc)
is_told bytes none (inr has) =
    let r : Record = record { epoch = has.0; end = has.1.end } in
    let is : IsRecord bytes r = subst (λ (l : List ℕ). IsRecord l r) (same_Some has.1.bytes bytes (sym has.1.there)) has.1.spelled in
    none (subst (λ (s : Record). IsRecord bytes s) (sym (told_is bytes r is)) is)

record_or_not : (file : Option (List ℕ)) → IsRecordFile file ⊎ (IsRecordFile file → ⊥)
record_or_not None = inl (inl refl)
record_or_not (Some bytes) = elim (same_or_not bytes (record_bytes (told_in bytes))) [
  | inr other ↦ inr (is_told bytes (λ is. other is.spelled))
  | inl same ↦ elim (cases_lt (2 ^ 62) (told_in bytes).epoch) [
    | inl much ↦ inr (is_told bytes (λ is. omega (arith, is.epoch, much)))
    | inr epoch ↦ elim (cases_lt (2 ^ 62) (told_in bytes).end) [
      | inl much ↦ inr (is_told bytes (λ is. omega (arith, is.end, much)))
      | inr end ↦ inl (inr ((told_in bytes).epoch, record { end = (told_in bytes).end; bytes = bytes; there = refl; spelled = record { epoch = epoch; end = end; spelled = same } }))
    ]
  ]
]

pub record_unless : (file : Option (List ℕ)) → ((IsRecordFile file → ⊥) → ⊥) → IsRecordFile file
record_unless file not_bad = elim (record_or_not file) [ inl is ↦ is | inr bad ↦ absurd (not_bad bad) ]

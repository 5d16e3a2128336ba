use Rattle.std.proofs.Common.{◌≡◌, ℕ, ◌≤◌, ◌<◌, ◌^◌, List, [], ◌∷◌, eqb, false, length, get_or, inl, inr, sym, ◌∙◌, arith}
use Rattle.std.proofs.lemmas.Bool.{eqb-true, cases_lt}
use Rattle.std.specs.Prelude.{Option, Some, None, MatchOption, IfSome, IfNone}
use Rattle.std.specs.Str.Parse.{AllDigits, digits_value}
use Rattle.base_words.specs.Numbers.{IsNumber}
use Rattle.base_words.proofs.Bases.{number_is, digits_of_number, no_leading_zero}
use Rattle.base_words.proofs.digits.read_digits.Goals as goal
use Rattle.base_words.proofs.Lists.{some_there}

pub returns-then-is_empty-clause-none : goal.returns-then-is_empty-clause-none
returns-then-is_empty-clause-none c = λ n is. let none : length c.args.bytes.now ≡ 0 =
    eqb-true _ _ (sym c.is_empty.ensures ∙ c.if-is_empty.true) in omega
    (arith, none, (digits_of_number c.args.base c.requires.low c.requires.high c.args.bytes.now n is).2)

pub returns-then-has_leading_zero-clause-none : goal.returns-then-has_leading_zero-clause-none
returns-then-has_leading_zero-clause-none c = λ n is. no_leading_zero c.args.base c.requires.low c.requires.high c.args.bytes.now n
    (c.has_leading_zero.ensures.0 c.if-has_leading_zero.true).0 (c.has_leading_zero.ensures.0 c.if-has_leading_zero.true).1 is

-- what the digits' value says of the number
found : (base : ℕ) (low : 2 ≤ base) (high : base ≤ 10) (bytes : List ℕ) (r : Option ℕ) → 0 < length bytes → (get_or bytes 0 0 ≡ 48 → length bytes ≤ 1) → IfSome r (λ n. n < 2 ^ 64)
    → MatchOption r (AllDigits base bytes → 2 ^ 64 ≤ digits_value base bytes) (λ n. AllDigits base bytes × (n ≡ digits_value base bytes)) → IfSome r (IsNumber base bytes)
found base low high bytes None some lead fits is = tt
found base low high bytes (Some n) some lead fits is = number_is base low high bytes n fits some lead is

missed : (base : ℕ) (low : 2 ≤ base) (high : base ≤ 10) (bytes : List ℕ) (r : Option ℕ)
    → MatchOption r (AllDigits base bytes → 2 ^ 64 ≤ digits_value base bytes) (λ n. AllDigits base bytes × (n ≡ digits_value base bytes)) → IfNone r ((n : ℕ) → IsNumber base bytes n → ⊥)
missed base low high bytes None is = λ n of. let d = digits_of_number base low high bytes n of in omega (arith, is d.0, d.1, of.0)
missed base low high bytes (Some n) is = tt

pub returns-clause-found : goal.returns-clause-found
returns-clause-found c = found c.args.base c.requires.low c.requires.high c.args.bytes.now c.digits_value.result (some_there c.args.bytes.now (sym c.is_empty.ensures ∙ c.if-is_empty.false))
    (λ zero_first. elim (cases_lt 1 (length c.args.bytes.now)) [
      | inl long ↦ absurd
          (let zero_leads = c.has_leading_zero.ensures.1 (long, zero_first) in let clear = c.if-has_leading_zero.false in cc)
      | inr short ↦ short
    ])
    c.digits_value.ensures.fits c.digits_value.ensures.value

pub returns-clause-none : goal.returns-clause-none
returns-clause-none c = missed c.args.base c.requires.low c.requires.high c.args.bytes.now c.digits_value.result c.digits_value.ensures.value

use Rattle.std.proofs.Common.{◌≡◌, ◌≤◌, ◌^◌, ◌*◌, get_or, ℕ, refl, ap, arith}
use Rattle.std.specs.Char.{digit_value}
use Rattle.std.proofs.lemmas.Int.Digits.{digits_more, digits_value_more}
use Rattle.base_words.proofs.Bases.{digit_of_byte, not_digit, too_great}
use Rattle.base_words.proofs.digits.digits_value.Goals as goal

pub returns-in_err-checked_sub-clause-value : goal.returns-in_err-checked_sub-clause-value
returns-in_err-checked_sub-clause-value c =
    rw c.from_residual.ensures (λ d. absurd (not_digit c.args.base c.args.bytes.now c.loop-byte.byte-index _ c.requires.high c.loop-byte-test.true
    refl (λ le. absurd (c.in_err-checked_sub.ensures le)) d))

pub returns-then-digit-base-clause-value : goal.returns-then-digit-base-clause-value
returns-then-digit-base-clause-value c = λ d. absurd (not_digit c.args.base c.args.bytes.now c.loop-byte.byte-index _ c.requires.high
    c.loop-byte-test.true refl (λ le. omega (arith, c.in_ok-checked_sub.ensures.1)) d)

pub returns-in_err-checked_mul-clause-value : goal.returns-in_err-checked_mul-clause-value
returns-in_err-checked_mul-clause-value c =
    rw c.from_residual-in_err-checked_mul.ensures (λ d. too_great c.args.base c.args.bytes.now c.loop-byte.byte-index c.loop-byte.value 0 (2 ^ 64)
    (omega arith) c.loop-byte-test.true c.loop-byte.invariant.value (omega arith)
    (let over = c.in_err-checked_mul.ensures in omega (arith, over)))

pub returns-in_err-value-clause-value : goal.returns-in_err-value-clause-value
returns-in_err-value-clause-value c =
    rw c.from_residual-in_err-value.ensures (λ d.
    let digit : c.from-digit.result ≤ digit_value (get_or c.args.bytes.now c.loop-byte.byte-index 0) =
    omega (
      arith,
      c.in_ok-checked_sub.ensures.1,
      digit_of_byte c.args.base (get_or c.args.bytes.now c.loop-byte.byte-index 0) c.requires.high
          c.in_ok-checked_sub.ensures.0 (omega (arith, c.in_ok-checked_sub.ensures.1)),
    ) in
    let product = c.in_ok-checked_mul.ensures in
    too_great c.args.base c.args.bytes.now c.loop-byte.byte-index c.loop-byte.value c.from-digit.result (2 ^ 64) (omega arith) c.loop-byte-test.true
    c.loop-byte.invariant.value digit (omega (arith, product.1)))

pub loop-byte-preserved : goal.loop-byte-preserved
loop-byte-preserved c =
    let is : digit_value (get_or c.args.bytes.now c.loop-byte.byte-index 0) ≡ c.from-digit.result =
    omega (
      arith,
      c.in_ok-checked_sub.ensures.1,
      digit_of_byte c.args.base (get_or c.args.bytes.now c.loop-byte.byte-index 0) c.requires.high
          c.in_ok-checked_sub.ensures.0 (omega (arith, c.in_ok-checked_sub.ensures.1)),
    ) in
    let sum = c.in_ok-value.ensures in
    let product = c.in_ok-checked_mul.ensures in
    record {
      digits = digits_more c.args.base c.args.bytes.now c.loop-byte.byte-index c.loop-byte-test.true c.loop-byte.invariant.digits (omega (arith, is));
      value = omega (
        arith,
        sum.1,
        product.1,
        is,
        digits_value_more c.args.base c.args.bytes.now c.loop-byte.byte-index c.loop-byte-test.true,
        ap (λ (v : ℕ). v * c.args.base) c.loop-byte.invariant.value,
      );
      fits = omega (arith, sum.0, sum.1);
    }

use Rattle.std.proofs.Common.{length, subst, sym, ap, ◌∙◌, arith}
use Rattle.std.specs.Str.Parse.{AllDigits, digits_value}
use Rattle.base_words.specs.Padded.{padded}
use Rattle.base_words.proofs.PaddedLaws.{length-padded, padded_digits, value-padded, padded-value}
use Rattle.base_words.proofs.padded.read19.Goals as goal

pub returns-then-bytes-ne19-clause-none : goal.returns-then-bytes-ne19-clause-none
returns-then-bytes-ne19-clause-none c = λ n le same. c.if-bytes-ne19.true (ap length same ∙ length-padded 19 n)

pub returns-in_err-value-clause-none : goal.returns-in_err-value-clause-none
returns-in_err-value-clause-none c = rw c.from_residual.ensures (λ n le same.
    let great = c.in_err-value.ensures.value (subst (AllDigits 10) (sym same) (padded_digits 19 n)) in
    omega (arith, great, ap (digits_value 10) same, value-padded 19 n (omega arith)))

pub returns-then-value-gt-MAX-clause-none : goal.returns-then-value-gt-MAX-clause-none
returns-then-value-gt-MAX-clause-none c = λ n le same. omega (arith, c.in_ok-value.ensures.value.1, ap (digits_value 10) same, value-padded 19 n (omega arith))

pub returns-else-value-gt-MAX-clause-found : goal.returns-else-value-gt-MAX-clause-found
returns-else-value-gt-MAX-clause-found c = (omega arith, sym (padded-value 19 c.args.bytes.now (omega arith) c.in_ok-value.ensures.value.0) ∙ ap (padded 19) (sym c.in_ok-value.ensures.value.1))

use Rattle.std.proofs.Common.{arith, refl}
use Rattle.base_words.proofs.HexLaws.{pair_read}
use Rattle.base_words.proofs.hex.read_hex.Goals as goal

pub loop-rest-preserved : goal.loop-rest-preserved
loop-rest-preserved c =
    pair_read c.args.word.now c.loop-rest.rest.now c.loop-rest.bytes c.loop-rest.at c.in-Some.high c.in-Some-read_digit.low _
    c.in-len2-up.len_at_least (omega (arith, c.in-len2-up.len_at_least, c.loop-rest.invariant.1))
    c.loop-rest.invariant.0 c.loop-rest.invariant.1 c.in-Some.ensures.digit c.in-Some-read_digit.ensures.digit refl

use Rattle.std.proofs.Common.{arith}
use Rattle.edit_codec.proofs.SayNumbers.{number_is_said, none_is_said, within, beyond, no_number}
use Rattle.edit_codec.proofs.word_source.read_decimal.Goals as goal

pub returns-then-n-most : goal.returns-then-n-most
returns-then-n-most c = beyond c.args.most c.in-Some.n _ (number_is_said 10 (omega arith) (omega arith) c.args.word.now c.in-Some.n c.in-Some.ensures.found) c.if-n-most.true

pub returns-else-n-most : goal.returns-else-n-most
returns-else-n-most c = within c.args.most c.in-Some.n _ (number_is_said 10 (omega arith) (omega arith) c.args.word.now c.in-Some.n c.in-Some.ensures.found) c.if-n-most.false

pub returns-in-None : goal.returns-in-None
returns-in-None c = no_number c.args.most _ (none_is_said 10 c.args.word.now (λ n is. c.in-None.ensures.none n is.0 is.1))

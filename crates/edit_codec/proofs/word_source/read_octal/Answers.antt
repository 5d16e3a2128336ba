use Rattle.std.proofs.Common.{arith}
use Rattle.edit_codec.proofs.SayNumbers.{number_is_said, none_is_said, within, beyond, no_number}
use Rattle.edit_codec.proofs.word_source.read_octal.Goals as goal

pub returns-then-n-gt-MOST_PERMISSION : goal.returns-then-n-gt-MOST_PERMISSION
returns-then-n-gt-MOST_PERMISSION c = beyond 4095 c.in-Some.n _ (number_is_said 8 (omega arith) (omega arith) c.args.word.now c.in-Some.n c.in-Some.ensures.found) c.if-n-gt-MOST_PERMISSION.true

pub returns-else-n-gt-MOST_PERMISSION : goal.returns-else-n-gt-MOST_PERMISSION
returns-else-n-gt-MOST_PERMISSION c = within 4095 c.in-Some.n _ (number_is_said 8 (omega arith) (omega arith) c.args.word.now c.in-Some.n c.in-Some.ensures.found) c.if-n-gt-MOST_PERMISSION.false

pub returns-in-None : goal.returns-in-None
returns-in-None c = no_number 4095 _ (none_is_said 8 c.args.word.now c.in-None.ensures.none)

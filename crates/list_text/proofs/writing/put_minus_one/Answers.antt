use Rattle.std.proofs.Common.{refl}
use Rattle.json.proofs.OnLiterals.{json_on_literals}
use Rattle.list_text.proofs.writing.put_minus_one.Goals as goal

pub number-requires : goal.number-requires
unfolding json_on_literals
number-requires c = refl

use Rattle.std.proofs.lemmas.Fmt.{decimal_injective}
use Rattle.base_words.proofs.laws.numbers_are_read_back.Goals as goal

pub returns : goal.returns
returns c = decimal_injective

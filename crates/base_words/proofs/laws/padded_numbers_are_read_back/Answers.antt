use Rattle.base_words.proofs.PaddedLaws.{padded_injective}
use Rattle.base_words.proofs.laws.padded_numbers_are_read_back.Goals as goal

pub returns : goal.returns
returns c = padded_injective

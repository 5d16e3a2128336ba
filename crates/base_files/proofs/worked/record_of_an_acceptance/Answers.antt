use Rattle.std.proofs.Common.{refl}
use Rattle.base_words.specs.Padded.{padded}
use Rattle.base_files.proofs.worked.record_of_an_acceptance.Goals as goal

pub returns : goal.returns
unfolding padded
returns c = refl

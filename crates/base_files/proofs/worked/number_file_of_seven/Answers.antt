use Rattle.std.proofs.Common.{refl}
use Rattle.base_words.specs.Padded.{padded}
use Rattle.base_files.proofs.worked.number_file_of_seven.Goals as goal

pub returns : goal.returns
unfolding padded
returns c = refl

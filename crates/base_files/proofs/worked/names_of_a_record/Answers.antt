use Rattle.std.proofs.Common.{refl}
use Rattle.base_words.specs.Padded.{padded}
use Rattle.base_files.proofs.worked.names_of_a_record.Goals as goal

pub returns-clause-name : goal.returns-clause-name
unfolding padded
returns-clause-name c = refl

pub returns-clause-temporary : goal.returns-clause-temporary
unfolding padded
returns-clause-temporary c = refl

use Rattle.std.proofs.Common.{refl}
use Rattle.std.specs.Fmt.{digits}
use Rattle.list_text.proofs.worked.known_rows_have_texts.Goals as goal

pub returns-clause-root : goal.returns-clause-root
unfolding digits
returns-clause-root c = refl

pub returns-clause-file : goal.returns-clause-file
unfolding digits
returns-clause-file c = refl

pub returns-clause-directory : goal.returns-clause-directory
unfolding digits
returns-clause-directory c = refl

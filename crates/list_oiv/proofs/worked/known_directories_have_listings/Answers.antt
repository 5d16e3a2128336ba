use Rattle.std.proofs.Common.{refl}
use Rattle.std.specs.Fmt.{digits}
use Rattle.list_oiv.proofs.worked.known_directories_have_listings.Goals as goal

pub returns-clause-root : goal.returns-clause-root
unfolding digits
returns-clause-root c = refl

pub returns-clause-file : goal.returns-clause-file
unfolding digits
returns-clause-file c = refl

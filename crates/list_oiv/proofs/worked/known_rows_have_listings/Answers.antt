use Rattle.std.proofs.Common.{refl}
use Rattle.std.specs.Fmt.{digits}
use Rattle.list_oiv.proofs.worked.known_rows_have_listings.Goals as goal

pub returns : goal.returns
unfolding digits
returns c = refl

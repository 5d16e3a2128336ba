use Rattle.std.proofs.Common.{refl}
use Rattle.std.specs.Fmt.{digits}
use Rattle.json.specs.Print.{print_from, escape_byte}
use Rattle.list_oiv.proofs.worked.known_images_have_listings.Goals as goal

pub returns-clause-delimited : goal.returns-clause-delimited
unfolding digits print_from escape_byte
returns-clause-delimited c = refl

pub returns-clause-sizes : goal.returns-clause-sizes
unfolding digits print_from escape_byte
returns-clause-sizes c = refl

pub returns-clause-json : goal.returns-clause-json
unfolding digits print_from escape_byte
returns-clause-json c = refl

use Rattle.std.proofs.Common.{refl}
use Rattle.std.specs.Fmt.{digits}
use Rattle.json.specs.Print.{print_from, escape_byte}
use Rattle.hex.specs.Hex.{encode_with}
use Rattle.list_oev.proofs.worked.known_edits_have_entries.Goals as goal

pub returns-clause-none : goal.returns-clause-none
unfolding digits print_from escape_byte encode_with
returns-clause-none c = refl

pub returns-clause-start : goal.returns-clause-start
unfolding digits print_from escape_byte encode_with
returns-clause-start c = refl

pub returns-clause-called : goal.returns-clause-called
unfolding digits print_from escape_byte encode_with
returns-clause-called c = refl

pub returns-clause-two : goal.returns-clause-two
unfolding digits print_from escape_byte encode_with
returns-clause-two c = refl

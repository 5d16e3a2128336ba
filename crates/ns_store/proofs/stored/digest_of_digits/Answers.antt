use Rattle.std.proofs.Common.{refl, rules}
use Rattle.ns_store.proofs.DigestLaws.{not_decoded, digits_again, not_again}
use Rattle.ns_store.proofs.stored.digest_of_digits.Goals as goal

pub returns-then-is_err : goal.returns-then-is_err
returns-then-is_err c = not_decoded c.args.digits.now _ refl c.decode_to_slice.new.out c.decode_to_slice.result c.decode_to_slice.ensures.value (search rules)

pub returns-then-eq : goal.returns-then-eq
returns-then-eq c = digits_again c.args.digits.now _ refl c.decode_to_slice.new.out c.decode_to_slice.result c.decode_to_slice.ensures.value
    (search rules) c.encode_to_slice.new.output (search rules) (search rules)

pub returns-else-eq : goal.returns-else-eq
returns-else-eq c = not_again c.args.digits.now _ refl c.decode_to_slice.new.out c.decode_to_slice.result c.decode_to_slice.ensures.value c.encode_to_slice.new.output (search rules) (search rules)

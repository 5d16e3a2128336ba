use Rattle.ns_store.proofs.DigestLaws.{too_short, front_tells}
use Rattle.ns_store.proofs.stored.digest_before.Goals as goal

pub returns-then-file-lt32 : goal.returns-then-file-lt32
returns-then-file-lt32 c = λ txid digest is. too_short txid c.args.file.now digest c.if-file-lt32.true is

pub returns : goal.returns
returns c = front_tells c.args.file.now _ c.digest_of_digits.result c.split_at.ensures.front c.digest_of_digits.ensures

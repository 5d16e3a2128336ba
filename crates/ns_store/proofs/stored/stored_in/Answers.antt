use Rattle.ns_store.proofs.DigestLaws.{too_long}
use Rattle.ns_store.proofs.stored.stored_in.Goals as goal

pub returns-then-size-gt-LONGEST-clause-stored : goal.returns-then-size-gt-LONGEST-clause-stored
returns-then-size-gt-LONGEST-clause-stored g c = λ t. too_long c.args.names.now _ c.args.size (c.requires t) c.if-size-gt-LONGEST.true

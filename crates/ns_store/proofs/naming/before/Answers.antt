use Rattle.std.proofs.lemmas.Bool.Decides.{Decides-eqb}
use Rattle.std.proofs.lemmas.Slice.Eq.{strip_suffix_is}
use Rattle.ns_store.proofs.naming.before.Goals as goal

pub returns : goal.returns
returns c = strip_suffix_is Decides-eqb c.args.bytes.now c.args.rest.now c.strip_suffix.result c.strip_suffix.ensures.cases

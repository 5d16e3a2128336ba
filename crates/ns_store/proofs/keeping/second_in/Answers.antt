use Rattle.std.proofs.Common.{rules}
use Rattle.std.proofs.lemmas.List.Elements.{Contains-get_or}
use Rattle.ns_store.proofs.keeping.second_in.Goals as goal

pub returns-clause-small : goal.returns-clause-small
returns-clause-small c = c.requires _ (Contains-get_or c.args.txids.now c.saturating_sub.result 0 (search rules))

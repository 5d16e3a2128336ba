use Rattle.std.specs.Prelude.{codes}
use Rattle.std.proofs.lemmas.Bool.Decides.{Decides-eqb}
use Rattle.std.proofs.lemmas.Slice.Eq.{ends_is}
use Rattle.disk_opening.proofs.ToldLemmas.{ends_cases}
use Rattle.disk_opening.proofs.sweeping.is_tmp.Goals as goal

pub returns : goal.returns
returns c = ends_cases c.args.name.now (codes ".tmp") _ c.ends_with.result (ends_is Decides-eqb c.args.name.now (codes ".tmp") c.ends_with.result c.ends_with.ensures.value)

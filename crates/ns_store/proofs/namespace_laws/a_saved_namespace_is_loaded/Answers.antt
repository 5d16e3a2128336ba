use Rattle.ns_store.proofs.AnswerLaws.{loads_as}
use Rattle.ns_store.proofs.namespace_laws.a_saved_namespace_is_loaded.Goals as goal

pub returns : goal.returns
returns c = loads_as

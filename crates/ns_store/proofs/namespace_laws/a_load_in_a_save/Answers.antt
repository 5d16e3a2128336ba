use Rattle.ns_store.proofs.AnswerLaws.{load_in_save, other_load}
use Rattle.ns_store.proofs.namespace_laws.a_load_in_a_save.Goals as goal

pub returns-clause-here : goal.returns-clause-here
returns-clause-here c = load_in_save

pub returns-clause-other : goal.returns-clause-other
returns-clause-other c = other_load

use Rattle.ns_store.proofs.CountLaws.{before_it, after_it}
use Rattle.ns_store.proofs.folder_laws.an_image_is_saved_wholly.Goals as goal

pub returns-clause-before : goal.returns-clause-before
returns-clause-before c = before_it

pub returns-clause-after : goal.returns-clause-after
returns-clause-after c = after_it

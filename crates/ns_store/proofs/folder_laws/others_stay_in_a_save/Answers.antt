use Rattle.ns_store.proofs.CountLaws.{only_others}
use Rattle.ns_store.proofs.folder_laws.others_stay_in_a_save.Goals as goal

pub returns-clause-before : goal.returns-clause-before
returns-clause-before c = λ t u old new small_t small_u ne prepares. only_others t u small_t small_u ne old new prepares.only

pub returns-clause-after : goal.returns-clause-after
returns-clause-after c = λ t u bytes line old new small_t small_u ne saves. only_others t u small_t small_u ne old new saves.only

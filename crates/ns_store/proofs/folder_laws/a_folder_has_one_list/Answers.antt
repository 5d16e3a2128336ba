use Rattle.ns_store.proofs.ThinLaws.{one_list}
use Rattle.ns_store.proofs.folder_laws.a_folder_has_one_list.Goals as goal

pub returns : goal.returns
returns c = one_list

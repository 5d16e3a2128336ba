use Rattle.ns_store.proofs.CountLaws.{thin_others}
use Rattle.ns_store.proofs.folder_laws.others_stay_in_a_removal.Goals as goal

pub returns : goal.returns
returns c = thin_others

use Rattle.std.proofs.Common.{refl}
use Rattle.base_words.specs.Padded.{padded}
use Rattle.ns_store.specs.Names.{name_of}
use Rattle.ns_store.proofs.worked_folders.images_in_a_folder.Goals as goal

pub returns-clause-both : goal.returns-clause-both
unfolding padded name_of
returns-clause-both c = refl

pub returns-clause-no_digest : goal.returns-clause-no_digest
unfolding padded name_of
returns-clause-no_digest c = refl

pub returns-clause-no_image : goal.returns-clause-no_image
unfolding padded name_of
returns-clause-no_image c = refl

use Rattle.std.proofs.Common.{refl}
use Rattle.base_words.specs.Padded.{padded}
use Rattle.ns_store.specs.Names.{name_of}
use Rattle.ns_store.proofs.worked_folders.names_of_an_image.Goals as goal

pub returns-clause-itself : goal.returns-clause-itself
unfolding padded name_of
returns-clause-itself c = refl

pub returns-clause-checkpoint : goal.returns-clause-checkpoint
unfolding padded name_of
returns-clause-checkpoint c = refl

pub returns-clause-digest : goal.returns-clause-digest
unfolding padded name_of
returns-clause-digest c = refl

pub returns-clause-fresh : goal.returns-clause-fresh
unfolding padded name_of
returns-clause-fresh c = refl

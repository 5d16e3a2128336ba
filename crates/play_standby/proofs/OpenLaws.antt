-- What is taken of an image that was loaded.
use Rattle.std.proofs.Common.{ℕ, subst}
use Rattle.base_disk.specs.Files.{Files}
use Rattle.ns_store.specs.Loads.{IsAnswer}
use Rattle.ns_store.specs.declared.loaded.Loaded.{Loaded}
use Rattle.play_standby.specs.declared.opened.OpenedImage.{OpenedImage}
use Rattle.play_standby.specs.declared.opened.OpenedImage.TheVariants as opened
use Rattle.play_standby.specs.Standbys.{StandbyView}
use Rattle.play_standby.specs.Disks.{IsLoadedAt, IsTakenAs}

pub taken_at : (files : Files) (txid : ℕ) (l : Loaded) (new : StandbyView) (answer : OpenedImage) → IsAnswer files txid l → IsTakenAs l new answer → IsLoadedAt files txid new answer
taken_at files txid l new (opened.Loaded told) h e = subst (IsAnswer files txid) e h
taken_at files txid l new opened.Empty h e = subst (IsAnswer files txid) e h
taken_at files txid l new (opened.DigestDiffers stored computed) h e = subst (IsAnswer files txid) e h
taken_at files txid l new (opened.BadImage place cause) h e = subst (IsAnswer files txid) e h
taken_at files txid l new opened.DiskFault h e = tt
taken_at files txid l new opened.OutOfMemory h e = tt

use Rattle.std.proofs.Common.{refl}
use Rattle.std.specs.Prelude.{Result, Ok, Err, OnOk}
use Rattle.base_disk.specs.declared.disk.DiskFail.{DiskFail}
use Rattle.base_outside.specs.Folder.{AreStored, no_names}
use Rattle.base_outside.proofs.host_folder.HostFolderFolderCalls.sync_folders.Goals as goal

pub returns-clause-stored : goal.returns-clause-stored
returns-clause-stored g c = none_changed c.told-2.result
  where
    none_changed : (r : Result (Unit {0}) DiskFail) → OnOk r (AreStored no_names)
    none_changed (Ok done) = refl
    none_changed (Err fail) = tt

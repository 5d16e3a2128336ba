use Rattle.disk_files.proofs.HoldsLaws.{progress_there, final_there, accepted_there, appends_blank}
use Rattle.disk_files.proofs.laws.files_are_there.Goals as goal

pub returns-clause-in_progress : goal.returns-clause-in_progress
returns-clause-in_progress g c = λ t s start h holds known. progress_there _ (g.met.D.Disk.sound _ t) s start h holds known

pub returns-clause-final_ : goal.returns-clause-final_
returns-clause-final_ g c = λ t s start h end holds known closed ends. final_there _ (g.met.D.Disk.sound _ t) s start h holds known end closed ends

pub returns-clause-record_ : goal.returns-clause-record_
returns-clause-record_ g c = λ t s start h holds known. accepted_there _ (g.met.D.Disk.sound _ t) s start h holds known

pub returns-clause-seal : goal.returns-clause-seal
returns-clause-seal g c = λ t h at is. appends_blank _ h at is

use Rattle.base_disk.specs.FileMap.{file_in, now_of}
use Rattle.base_disk.proofs.Choices.{chosen_by}
use Rattle.base_disk.proofs.mem_disk.MemDisk.crash.Goals as goal

pub returns-clause-chosen : goal.returns-clause-chosen
returns-clause-chosen c = λ name. chosen_by c.args.choice (file_in c.args.self.now.files name) (now_of (file_in c.crash.new.files name)) (c.crash.ensures.left name)

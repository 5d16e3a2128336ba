use Rattle.base_disk.proofs.LastFiles.{put_back}
use Rattle.base_disk.proofs.held_files.put_back.Goals as goal

pub returns-in-Some-clause-same : goal.returns-in-Some-clause-same
returns-in-Some-clause-same c =
    put_back c.args.placed.now.entries c.replace.new.files.entries c.args.last.now c.in-Some.field-0 c.as_str.result.now c.in-Some.ensures.value c.as_str.ensures.value c.requires c.replace.ensures

use Rattle.std.proofs.Common.{rules}
use Rattle.base_disk.proofs.LastFiles.{up_shown}
use Rattle.base_disk.proofs.held_files.take_up.Goals as goal

pub returns-in-Some-clause-same : goal.returns-in-Some-clause-same
returns-in-Some-clause-same c =
    up_shown c.args.placed.now.entries c.exchange.new.files.entries (record { name = c.in-Ok.name; file = c.in-Some.file }) c.as_str.result.now c.blank.result
    c.as_str.ensures.value c.in-Some.ensures.was (c.in-Some.ensures.set (search rules))

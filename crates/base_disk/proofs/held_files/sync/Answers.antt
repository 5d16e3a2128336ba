use Rattle.std.proofs.Common.{◌∙◌, sym}
use Rattle.base_disk.specs.FileView.{at_rest}
use Rattle.base_disk.proofs.LastFiles.{last_synced}
use Rattle.base_disk.proofs.held_files.sync.Goals as goal

pub returns-then-is_last : goal.returns-then-is_last
returns-then-is_last c =
    last_synced c.args.files.now c.files.inside.placed.entries c.files.inside.last c.sync_last.new.last c.args.name.now (λ f. at_rest f.now) c.files.view_is
    (sym c.is_last.ensures ∙ c.if-is_last.true) c.files.invariant c.sync_last.ensures

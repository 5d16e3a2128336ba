use Rattle.std.proofs.Common.{◌∙◌, sym}
use Rattle.std.proofs.lemmas.Result.{on_ok_weaker}
use Rattle.base_disk.proofs.LastFiles.{last_room, last_wrote}
use Rattle.base_disk.proofs.held_files.write.Goals as goal

pub write_last-requires : goal.write_last-requires
write_last-requires c =
    last_room c.args.files.now c.files.inside.placed.entries c.files.inside.last c.args.name.now c.args.at c.files.view_is (sym c.is_last.ensures ∙ c.if-is_last.true) c.files.invariant c.requires

pub returns-then-is_last-clause-ok : goal.returns-then-is_last-clause-ok
returns-then-is_last-clause-ok c =
    on_ok_weaker c.write_last.result (λ made.
    last_wrote c.args.files.now c.files.inside.placed.entries c.files.inside.last c.write_last.new.last c.args.name.now c.args.bytes.now c.args.at c.files.view_is
    (sym c.is_last.ensures ∙ c.if-is_last.true) c.files.invariant made) c.write_last.ensures.ok

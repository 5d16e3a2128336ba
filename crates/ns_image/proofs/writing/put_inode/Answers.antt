use Rattle.std.proofs.Common.{ap, sym, ◌∙◌, ◌++◌}
use Rattle.std.proofs.lemmas.Result.{on_ok_weaker}
use Rattle.ns_tree.specs.declared.inode.Inode.{Inode}
use Rattle.ns_image.specs.Layouts.{inode_bytes}
use Rattle.ns_image.proofs.Writes.{three, four}
use Rattle.ns_image.proofs.writing.put_inode.Goals as goal

pub returns-in_ok-put_owner-in-Dir : goal.returns-in_ok-put_owner-in-Dir
returns-in_ok-put_owner-in-Dir c =
    on_ok_weaker c.put_quotas.result
    (λ g. three _ _ _ _ c.in_ok-put_front-in-Dir.ensures c.in_ok-put_owner-in-Dir.ensures g ∙ ap (λ (i : Inode). c.args.out.now.items ++ inode_bytes i) (sym c.in-Dir.is))
    c.put_quotas.ensures

pub returns-in_ok-put_copies-in-File : goal.returns-in_ok-put_copies-in-File
returns-in_ok-put_copies-in-File c =
    on_ok_weaker c.put_blocks.result
    (λ g. four _ _ _ _ _ c.in_ok-put_front-in-File.ensures c.in_ok-put_owner-in-File.ensures c.in_ok-put_copies-in-File.ensures g
    ∙ ap (λ (i : Inode). c.args.out.now.items ++ inode_bytes i) (sym c.in-File.is))
    c.put_blocks.ensures

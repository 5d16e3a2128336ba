use Rattle.std.proofs.Common.{sym, subst}
use Rattle.std.specs.Prelude.{Option}
use Rattle.list_fsck.specs.declared.finding.Finding.{Finding}
use Rattle.list_fsck.specs.declared.file_role.FileRole.TheVariants as role
use Rattle.list_fsck.specs.Rules.{IsVerdict}
use Rattle.list_fsck.proofs.ImageLaws.{image_told}
use Rattle.list_fsck.proofs.images.check_image.Goals as goal

pub returns-clause-found : goal.returns-clause-found
returns-clause-found g c = λ t before name.
    let seen = (g.D.DiskModel.view c.args.disk.now).seen in
    subst (λ (f : Option Finding). IsVerdict seen before name (role.Image c.args.txid) f) (sym c.judge_loaded.ensures)
    (image_told seen before name c.args.txid c.in_ok-loaded.loaded c.requires.small (c.requires.there t) (c.in_ok-loaded.ensures.loaded t))

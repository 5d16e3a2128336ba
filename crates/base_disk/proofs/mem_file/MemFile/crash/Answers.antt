use Rattle.std.proofs.Common.{sym, subst, inl}
use Rattle.base_disk.specs.declared.disk.Choice.{Choice}
use Rattle.base_disk.specs.declared.disk.Choice.TheVariants.{Fill}
use Rattle.base_disk.specs.FileView.{FileView, crashed, IsImage}
use Rattle.base_disk.specs.MemFile.{stage_of, stable_of}
use Rattle.base_disk.specs.declared.mem_file.MemFile.TheInside.{Inside}
use Rattle.base_disk.specs.ImageLaws.{stable_image}
use Rattle.base_disk.proofs.Fills.{fill_image}
use Rattle.base_disk.proofs.mem_file.MemFile.crash.Goals as goal

pub returns-in-Old-clause-image : goal.returns-in-Old-clause-image
returns-in-Old-clause-image c = subst (λ (choice : Choice). IsImage c.args.self.now (crashed choice c.args.self.now)) (sym c.in-Old.is) (stable_image c.args.self.now)

pub returns-in-Fill-clause-image : goal.returns-in-Fill-clause-image
returns-in-Fill-clause-image c =
    let f : Inside = c.self.inside in
    subst (λ (choice : Choice). IsImage c.args.self.now (crashed choice c.args.self.now)) (sym c.in-Fill.is)
    (subst (λ (v : FileView). IsImage v (crashed (Fill c.in-Fill.byte) v)) c.self.view_is (inl (fill_image c.in-Fill.byte (stable_of f) f.changes.items (stage_of f) c.self.invariant.leads)))

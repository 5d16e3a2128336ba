use Rattle.std.proofs.Common.{sym, subst}
use Rattle.std.specs.Prelude.{Option}
use Rattle.disk_files.specs.declared.node_number.NodeNumber.TheVariants.{Writer, Promised}
use Rattle.disk_files.specs.Durable.{number_name}
use Rattle.list_fsck.specs.declared.finding.Finding.{Finding}
use Rattle.list_fsck.specs.declared.file_role.FileRole.TheVariants as role
use Rattle.list_fsck.specs.Rules.{IsVerdict}
use Rattle.list_fsck.specs.Steps.{HeldIn}
use Rattle.list_fsck.proofs.NumberLaws.{writer_judged}
use Rattle.list_fsck.proofs.numbers.check_writer.Goals as goal

pub returns-in-Some-clause-found : goal.returns-in-Some-clause-found
returns-in-Some-clause-found g c = λ t before name.
    let seen = (g.D.DiskModel.view c.args.disk.now).seen in
    let held = subst (HeldIn (seen (number_name Promised))) c.in-Some.is (c.in_ok-promised.ensures.held t) in
    subst (λ (f : Option Finding). IsVerdict seen before name (role.Number Writer) f) (sym c.above_promise.ensures)
    (writer_judged seen before name c.args.writer c.in-Some.promised (c.requires t) held)

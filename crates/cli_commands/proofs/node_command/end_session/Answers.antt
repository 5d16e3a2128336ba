use Rattle.std.proofs.Common.{refl}
use Rattle.journal_session.specs.declared.served.Served.TheVariants as served
use Rattle.cli_commands.proofs.ServingLaws.{told, untold}
use Rattle.cli_commands.proofs.node_command.end_session.Goals as goal

pub returns-in-Done : goal.returns-in-Done
returns-in-Done g c = untold c.args.served served.Done _ _ _ c.in-Done.is refl

pub returns-in-WriteFault : goal.returns-in-WriteFault
returns-in-WriteFault g c = untold c.args.served served.WriteFault _ _ _ c.in-WriteFault.is refl

pub returns-in-BadLine : goal.returns-in-BadLine
returns-in-BadLine g c =
    told c.args.served (served.BadLine c.in-BadLine.line c.in-BadLine.rule) _ _ _ c.in-BadLine.is refl refl (λ b. b) (λ e. cc e) (λ e. cc e) c.write_fault.ensures

pub returns-in-LongLine : goal.returns-in-LongLine
returns-in-LongLine g c = told c.args.served served.LongLine _ _ _ c.in-LongLine.is refl refl (λ b. b) (λ e. cc e) (λ e. cc e) c.write_fault-in-LongLine.ensures

pub returns-in-LongInput : goal.returns-in-LongInput
returns-in-LongInput g c = told c.args.served served.LongInput _ _ _ c.in-LongInput.is refl refl (λ b. b) (λ e. cc e) (λ e. cc e) c.write_fault-in-LongInput.ensures

pub returns-in-ReadFault : goal.returns-in-ReadFault
returns-in-ReadFault g c = told c.args.served served.ReadFault _ _ _ c.in-ReadFault.is refl refl (λ b. b) (λ e. cc e) (λ e. cc e) c.write_fault-in-ReadFault.ensures

pub returns-in-DiskFault : goal.returns-in-DiskFault
returns-in-DiskFault g c = told c.args.served served.DiskFault _ _ _ c.in-DiskFault.is refl refl (λ b. b) (λ e. cc e) (λ e. cc e) c.write_fault-in-DiskFault.ensures

pub returns-in-OutOfMemory : goal.returns-in-OutOfMemory
returns-in-OutOfMemory g c = told c.args.served served.OutOfMemory _ _ _ c.in-OutOfMemory.is refl refl (λ b. b) (λ e. cc e) (λ e. cc e) c.write_fault-in-OutOfMemory.ensures

use Rattle.std.proofs.Common.{refl}
use Rattle.journal_session.specs.Lines.{longest_line}
use Rattle.pipe_lead.specs.declared.lead_end.LeadEnd.TheVariants as lead_end
use Rattle.cli_commands.specs.declared.command_fault.CommandFault.TheVariants as fault
use Rattle.cli_cluster.proofs.LeadLaws.{told, untold}
use Rattle.cli_cluster.proofs.lead_command.end_lead.Goals as goal

pub returns-in-Done : goal.returns-in-Done
returns-in-Done g c = untold c.args.end lead_end.Done c.args.failed _ _ _ c.in-Done.is refl

pub returns-in-WriteFault : goal.returns-in-WriteFault
returns-in-WriteFault g c = untold c.args.end lead_end.WriteFault c.args.failed _ _ _ c.in-WriteFault.is refl

pub returns-in-LongLine : goal.returns-in-LongLine
returns-in-LongLine g c =
    told c.args.end lead_end.LongLine c.args.failed (fault.Limit longest_line) _ _ c.in-LongLine.is refl refl (λ e. cc e) (λ e. cc e) c.tell_fault.ensures.status c.tell_fault.ensures.line

pub returns-in-ReadFault : goal.returns-in-ReadFault
returns-in-ReadFault g c =
    told c.args.end lead_end.ReadFault c.args.failed fault.ReadFault _ _ c.in-ReadFault.is refl refl (λ e. cc e) (λ e. cc e) c.tell_fault-in-ReadFault.ensures.status
    c.tell_fault-in-ReadFault.ensures.line

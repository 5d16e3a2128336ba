use Rattle.cli_commands.proofs.AnswerLaws.{cause_told}
use Rattle.cli_commands.proofs.ToldLaws.{told_of}
use Rattle.cli_commands.proofs.list_command.list_file.Goals as goal

pub returns-clause-lists : goal.returns-clause-lists
returns-clause-lists g c = record {
  told = told_of (λ text. text.items) _ _ _ _ _ c.due_of_name-due.ensures.text c.due_of_name-due.ensures.fault c.write_due.ensures.text c.write_due.ensures.fault;
  disk_is = record {
    rests = c.due_of_name-due.ensures.rests;
    cause = cause_told (λ text. text.items) _ _ _ _ _ _ _ c.write_due.ensures.text c.write_due.ensures.fault c.due_of_name-due.ensures.call.cause;
  };
}

use Rattle.cli_commands.proofs.list_command.due_of_segment.Goals as goal

pub returns-in-BadBytes-clause-fault : goal.returns-in-BadBytes-clause-fault
returns-in-BadBytes-clause-fault c = (c.requires, ((λ h. c.in-BadBytes.ensures.text h.0 h.1 h.2), c.in-BadBytes.ensures.right))

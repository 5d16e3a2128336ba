use Rattle.std.proofs.Common.{refl, ◌∙◌}
use Rattle.cli_commands.specs.declared.command_fault.CommandFault.TheVariants as fault
use Rattle.cli_commands.proofs.ToldLaws.{tells_so, tells_memory}
use Rattle.cli_commands.proofs.writing.write_bad_file.Goals as goal

pub returns-in-Ok : goal.returns-in-Ok
returns-in-Ok g c = tells_so (fault.BadFile c.args.name.now) _ _ _ refl (c.deref.ensures.value ∙ c.in-Ok.ensures) c.write_line.ensures

pub returns-in-Err : goal.returns-in-Err
returns-in-Err g c = tells_memory (fault.BadFile c.args.name.now) _ _ _ tt refl refl c.write_line-in-Err.ensures

use Rattle.std.proofs.Common.{◌∙◌}
use Rattle.cli_commands.proofs.ToldLaws.{tells_so, bad_file_is}
use Rattle.cli_commands.proofs.writing.write_fault.Goals as goal

pub returns-in_default : goal.returns-in_default
returns-in_default g c =
    tells_so c.args.fault.now _ _ _ c.status_for.ensures
    (c.as_slice.ensures.value ∙ c.line_for.ensures (λ bad. let is = bad_file_is c.args.fault.now bad in c.in_default.not-BadFile is.0 is.1)) c.write_line.ensures

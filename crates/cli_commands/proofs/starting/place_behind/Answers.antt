use Rattle.std.proofs.Common.{length, ap, sym, ◌∙◌}
use Rattle.std.specs.Prelude.{string_bytes}
use Rattle.std.proofs.lemmas.List.{length-map}
use Rattle.cli_commands.specs.Commands.{asked_in}
use Rattle.cli_commands.specs.Usage.{bytes_of}
use Rattle.cli_commands.specs.Starting.{place_or}
use Rattle.cli_commands.proofs.WordLaws.{no_wrong_word}
use Rattle.cli_commands.proofs.starting.place_behind.Goals as goal

pub returns-in-Ok : goal.returns-in-Ok
returns-in-Ok c =
    let words = bytes_of c.args.words.now in
    sym (ap (place_or (length words)) (no_wrong_word words (asked_in c.in-Ok.field-0) c.in-Ok.ensures) ∙ length-map c.args.words.now string_bytes)

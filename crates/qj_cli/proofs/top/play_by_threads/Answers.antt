use Rattle.std.proofs.Common.{sym, ◌∙◌}
use Rattle.cli_commands.specs.Commands.{run, piped}
use Rattle.cli_commands.specs.Usage.{bytes_of}
use Rattle.cli_commands.proofs.WordLaws.{asks_pipes}
use Rattle.qj_cli.proofs.CompleteLaws.{asks_run}
use Rattle.qj_cli.proofs.top.play_by_threads.Goals as goal

pub returns-then-asks_piped : goal.returns-then-asks_piped
returns-then-asks_piped g c = (piped, tt, asks_pipes (bytes_of c.args.words.now) (sym c.asks_piped.ensures ∙ c.if-asks_piped.true), c.pipe_script.ensures)

pub returns-else-asks_piped : goal.returns-else-asks_piped
returns-else-asks_piped g c =
    (run, tt, asks_run (bytes_of c.args.words.now) c.requires.0 c.requires.1 c.requires.2 (sym c.asks_piped.ensures ∙ c.if-asks_piped.false), c.run_script.ensures)

use Rattle.std.proofs.Common.{ℕ, List, subst}
use Rattle.cli_commands.specs.declared.status.Status.TheVariants as status
use Rattle.cli_commands.specs.Uses.{written_to}
use Rattle.cli_commands.specs.Told.{TellsText}
use Rattle.qj_cli.proofs.WriteLaws.{ends, breaks}
use Rattle.qj_cli.proofs.written.write_printed.Goals as goal

pub returns-then-waiting-clause-text : goal.returns-then-waiting-clause-text
returns-then-waiting-clause-text g c = breaks _ _ _ _ (g.K.Sink.kept_back c.args.sink.now) _ _ _ c.print_to-waiting.ensures _ c.if-waiting.true

pub returns-clause-text : goal.returns-clause-text
returns-clause-text g c =
    ends _ _ _ _ (g.K.Sink.kept_back c.args.sink.now) _ _ _ c.print_to-waiting.ensures _ _ (g.K.Sink.kept_back c.print_to-waiting.new.sink) _ _ c.if-waiting.false
    (subst (λ (t : List ℕ). TellsText status.Ok t c.write_text.result (written_to g.K.Sink.taken g.K.Sink.faults g.K.Sink.kept_back c.print_to-waiting.new.sink c.write_text.new.sink)) c.as_slice.ensures c.write_text.ensures)

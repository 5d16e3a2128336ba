use Rattle.std.proofs.Common.{sym, ◌∙◌}
use Rattle.play_script.proofs.MeansLaws.{no_name}
use Rattle.play_script.proofs.line_reading.read_declaration.Goals as goal

pub returns-in-None-clause-read : goal.returns-in-None-clause-read
returns-in-None-clause-read c = absurd (no_name c.args.name.now (rw c.in-None.is at c.in_ok-name.ensures) (sym c.is_name.ensures ∙ c.if-not-is_name.false))

pub returns-in-None-clause-said : goal.returns-in-None-clause-said
returns-in-None-clause-said c = absurd (no_name c.args.name.now (rw c.in-None.is at c.in_ok-name.ensures) (sym c.is_name.ensures ∙ c.if-not-is_name.false))

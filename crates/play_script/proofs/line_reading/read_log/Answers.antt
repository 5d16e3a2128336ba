use Rattle.std.proofs.Common.{sym, ◌∙◌}
use Rattle.base_words.specs.Words.{words_of}
use Rattle.base_words.proofs.WordLaws.{words_some}
use Rattle.play_script.proofs.MeansLaws.{logs, no_logs}
use Rattle.play_script.proofs.line_reading.read_log.Goals as goal

pub returns-in-Some-2-clause-read : goal.returns-in-Some-2-clause-read
returns-in-Some-2-clause-read c =
    logs c.args.said.now c.args.name.now (words_of c.args.bodies.now) c.in-Some-2.bodies c.in-Some.actor c.in-Some.ensures
    (words_some c.args.bodies.now) (sym c.in_ok-bodies.ensures.bodies ∙ c.in-Some-2.is)

pub returns-in-None-clause-read : goal.returns-in-None-clause-read
returns-in-None-clause-read c = no_logs c.args.said.now c.args.name.now (words_of c.args.bodies.now) c.in-Some.actor c.in-Some.ensures (sym c.in_ok-bodies.ensures.bodies ∙ c.in-None.is)

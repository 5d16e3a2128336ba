use Rattle.base_words.specs.Words.{words_of}
use Rattle.play_script.proofs.EditLaws.{words_lack}
use Rattle.play_script.proofs.MeansLaws.{submits}
use Rattle.play_script.proofs.line_reading.read_submits.Goals as goal

pub returns-in-Some-2-clause-read : goal.returns-in-Some-2-clause-read
returns-in-Some-2-clause-read c =
    let all = rw c.in-Some-2.is at c.in_ok-edits.ensures in
    submits c.args.said.now c.args.name.now (words_of c.args.edits.now) c.in-Some-2.edits c.in-Some.actor c.in-Some.ensures (words_lack c.args.edits.now) all.0 all.1 all.2

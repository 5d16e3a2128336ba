use Rattle.std.proofs.Common.{Bool, ap, map, ◌∙◌}
use Rattle.writer_core.specs.Answers.{cause_of}
use Rattle.writer_core.specs.Current.{round_in}
use Rattle.writer_core.proofs.writer.Writer.tell_causes.Goals as goal

-- whether the request fits is what was asked
pub returns : goal.returns
returns c =
    let w = c.args.self.now.view in
    c.note_causes.ensures ∙ ap (λ (b : Bool). record w { causes = map (cause_of b (round_in w.phase)) w.slots }) c.numbers_fit-fit.ensures

use Rattle.std.proofs.Common.{◌∙◌, sym}
use Rattle.writer_core.specs.Writer.{writer_heard}
use Rattle.writer_core.proofs.Steps.{heard_whole, heard_piece}
use Rattle.writer_core.proofs.LeftLaws.{fewer, under_way}
use Rattle.writer_core.proofs.writer.Writer.hear.Goals as goal

pub returns-then-is_fetching-clause-fewer : goal.returns-then-is_fetching-clause-fewer
unfolding writer_heard
returns-then-is_fetching-clause-fewer c =
    let w = c.args.self.now.view in
    let fetch = sym c.is_fetching.ensures.fetch ∙ c.if-is_fetching.true in
    fewer w _ c.args.node c.args.heard _ (heard_piece w.phase w c.args.node c.args.heard fetch ∙ c.hear_piece.ensures) c.is_fetching.ensures.sound c.requires.named

pub returns-else-is_fetching-clause-fewer : goal.returns-else-is_fetching-clause-fewer
unfolding writer_heard
returns-else-is_fetching-clause-fewer c =
    let w = c.args.self.now.view in
    let no_fetch = sym c.is_fetching.ensures.fetch ∙ c.if-is_fetching.false in
    let u = under_way w c.args.node c.requires.named in
    fewer w _ c.args.node c.args.heard _ (heard_whole w.phase w c.args.node c.args.heard u no_fetch ∙ c.hear_answer.ensures) c.is_fetching.ensures.sound c.requires.named

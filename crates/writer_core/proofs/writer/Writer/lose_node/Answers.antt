use Rattle.std.proofs.Common.{◌∙◌, sym}
use Rattle.writer_core.proofs.Judging.{serials_left, without, next_best, none_best}
use Rattle.writer_core.proofs.writer.Writer.lose_node.Goals as goal

pub recover-requires-clause-serials : goal.recover-requires-clause-serials
recover-requires-clause-serials c =
    let w = c.args.self.now.view in
    let v = without c.args.node c.args.start c.args.heard w _ _ c.take_out.ensures c.tell_causes.ensures in
    serials_left c.args.node c.args.start c.args.heard w _ v c.requires.lost c.requires.counted c.requires.serials

pub returns-then-has_majority : goal.returns-then-has_majority
returns-then-has_majority c =
    let w = c.args.self.now.view in
    let v = without c.args.node c.args.start c.args.heard w _ _ c.take_out.ensures c.tell_causes.ensures in
    next_best c.args.node c.args.start c.args.heard w _ _ v (sym c.has_majority.ensures ∙ c.if-has_majority.true) c.recover.ensures

pub returns-else-has_majority : goal.returns-else-has_majority
returns-else-has_majority c =
    let w = c.args.self.now.view in
    let v = without c.args.node c.args.start c.args.heard w _ _ c.take_out.ensures c.tell_causes.ensures in
    none_best c.args.node c.args.start c.args.heard w _ _ v (sym c.has_majority.ensures ∙ c.if-has_majority.false) c.abort.ensures

use Rattle.std.proofs.Common.{refl, sym, arith, ◌∙◌}
use Rattle.base_words.proofs.StartLaws.{at_read, gap_last}
use Rattle.base_words.proofs.starts.place_in.Goals as goal

pub returns-then-last-start-clause-found : goal.returns-then-last-start-clause-found
returns-then-last-start-clause-found g c =
    at_read g.T.HasStart.start_of c.args.start _ c.args.items.now c.index-items-count.result (omega arith) c.index-items-count.is (sym c.start-last.ensures ∙ c.if-last-start.true)

pub returns-then-last-start-2-clause-gap : goal.returns-then-last-start-2-clause-gap
returns-then-last-start-2-clause-gap g c =
    gap_last g.T.HasStart.start_of c.args.start _ _ c.args.items.now c.index-items-count.result c.requires refl (omega arith) c.index-items-count.is
    (omega (arith, c.start-last.ensures, c.if-last-start-2.true))

use Rattle.std.proofs.Common.{sym, ◌∙◌, arith}
use Rattle.std.proofs.lemmas.Bool.{eqb-true, eqb-false}
use Rattle.list_back.proofs.Written.{finished_none, finished_some}
use Rattle.list_back.proofs.segment_writer.SegmentWriter.finish.Goals as goal

pub returns-then-is_empty : goal.returns-then-is_empty
returns-then-is_empty c = λ start epoch bodies h. finished_none start epoch bodies c.args.self (eqb-true _ _ (sym c.is_empty.ensures ∙ c.if-is_empty.true)) h

pub returns : goal.returns
returns c = λ start epoch bodies h. finished_some start epoch bodies c.args.self c.put_frame.new.out.items
    (let other = eqb-false _ _ (sym c.is_empty.ensures ∙ c.if-is_empty.false) in omega (arith, other)) c.in_ok-put_frame.ensures h

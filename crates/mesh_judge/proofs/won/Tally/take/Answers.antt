use Rattle.std.proofs.Common.{arith, sym, ap, ◌∙◌}
use Rattle.journal_history.specs.Listed.{shown_record}
use Rattle.mesh_judge.proofs.Counting.{passed, broken_off}
use Rattle.mesh_judge.proofs.won.Tally.take.Goals as goal

pub returns-in-Late : goal.returns-in-Late
returns-in-Late c =
    let is = sym c.lend.ensures ∙ ap shown_record c.in-Late.is in
    record { count = omega arith; won = λ epoch rest. passed c.args.nodes epoch c.args.self.now c.args.line.now rest (λ x y z e. absurd (cc (e, is))) }

pub returns-in-Operator : goal.returns-in-Operator
returns-in-Operator c =
    let is = sym c.lend.ensures ∙ ap shown_record c.in-Operator.is in
    record { count = omega arith; won = λ epoch rest. passed c.args.nodes epoch c.args.self.now c.args.line.now rest (λ x y z e. absurd (cc (e, is))) }

pub returns : goal.returns
returns c =
    let is = sym c.lend.ensures ∙ ap shown_record c.in-Outcome.is in
    record { count = omega arith; won = λ epoch rest. passed c.args.nodes epoch c.args.self.now c.args.line.now rest (λ x y z e. absurd (cc (e, is))) }

pub returns-in-Call : goal.returns-in-Call
returns-in-Call c = record {
  count = omega (arith, c.in_ok-close-in_default.ensures.none);
  won = λ epoch rest.
      broken_off c.args.nodes epoch c.in-Call.node c.args.self.now c.close.new.self c.args.line.now c.in-Call.request.now c.in-Call.told.now rest (sym c.lend.ensures ∙ ap shown_record c.in-Call.is)
      (λ x e. c.in_default.not-NewEpoch x (c.get.ensures ∙ e)) c.in_ok-close-in_default.ensures.won
      c.in_ok-close-in_default.ensures.none;
}

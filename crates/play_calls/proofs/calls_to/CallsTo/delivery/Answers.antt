use Rattle.std.proofs.Common.{true, false, sym, ◌∙◌}
use Rattle.play_calls.proofs.IndexLaws.{goes_by, goes_dropped}
use Rattle.play_calls.proofs.calls_to.CallsTo.delivery.Goals as goal

pub returns-then-contains : goal.returns-then-contains
returns-then-contains c node past marks h =
    goes_dropped node c.next_number-number.result past marks c.args.self.now c.next_number-number.ensures (sym c.contains.ensures ∙ c.if-contains.true) h

pub returns-then-contains-2 : goal.returns-then-contains-2
returns-then-contains-2 c node past marks h =
    goes_by false true node c.next_number-number.result past marks c.args.self.now c.next_number-number.ensures (sym c.contains.ensures ∙ c.if-contains.false)
    (sym c.contains-else-contains.ensures ∙ c.if-contains-2.true) h

pub returns-else-contains-2 : goal.returns-else-contains-2
returns-else-contains-2 c node past marks h =
    goes_by false false node c.next_number-number.result past marks c.args.self.now c.next_number-number.ensures (sym c.contains.ensures ∙ c.if-contains.false)
    (sym c.contains-else-contains.ensures ∙ c.if-contains-2.false) h

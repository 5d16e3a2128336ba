use Rattle.std.proofs.Common.{sym, ◌∙◌}
use Rattle.serde_json.specs.View.{view}
use Rattle.list_back.proofs.Coding.{not_marked, not_counted}
use Rattle.list_back.proofs.reading.read_front.Goals as goal

pub returns-then-is_mark : goal.returns-then-is_mark
returns-then-is_mark c = λ k with_call f.
    not_marked c.args.txid c.in_ok-count.count c.in_ok-kind.kind k with_call (view c.args.object.now) c.in_ok-kind.ensures (sym c.in_ok-count.ensures)
    (λ e. c.if-count-member_count.false (e ∙ sym c.member_count.ensures)) f (sym c.is_mark.ensures ∙ c.if-is_mark.true)

pub returns-then-count-member_count-2 : goal.returns-then-count-member_count-2
returns-then-count-member_count-2 c = λ k with_call f.
    not_counted c.args.txid c.in_ok-count.count c.in_ok-kind.kind k with_call (view c.args.object.now) c.in_ok-kind.ensures (sym c.in_ok-count.ensures)
    (λ e. c.if-count-member_count.false (e ∙ sym c.member_count.ensures)) f (λ e. c.if-count-member_count-2.true (e ∙ sym c.member_count-2.ensures))

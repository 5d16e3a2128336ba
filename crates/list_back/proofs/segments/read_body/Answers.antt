use Rattle.std.proofs.Common.{arith}
use Rattle.serde_json.specs.View.{view}
use Rattle.list_back.proofs.Made.{body_too_long}
use Rattle.list_back.proofs.segments.read_body.Goals as goal

pub returns-then-len-gt-MAX_BODY : goal.returns-then-len-gt-MAX_BODY
returns-then-len-gt-MAX_BODY c = λ f entry. body_too_long c.args.txid (view c.args.value.now) c.in_ok-edit.edit f c.in_ok-body.body
    c.in_ok-edit.ensures c.in_ok-body.ensures (omega (arith, c.if-len-gt-MAX_BODY.true, c.len.ensures.len)) entry

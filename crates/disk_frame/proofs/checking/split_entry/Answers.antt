use Rattle.std.proofs.Common.{ℕ, Some, ap, ◌∙◌}
use Rattle.disk_frame.proofs.ReadLaws.{split_short, split_cut, split_whole}
use Rattle.disk_frame.proofs.checking.split_entry.Goals as goal

pub returns-in_err-get_u16 : goal.returns-in_err-get_u16
returns-in_err-get_u16 c = rw c.from_residual.ensures (split_short c.args.bytes.now c.in_err-get_u16.ensures)

pub returns-then-rest-length : goal.returns-then-rest-length
returns-then-rest-length c =
    split_cut c.args.bytes.now c.split_at.result.1.now c.from-length.result (ap (λ (n : ℕ). Some n) c.from-length.ensures ∙ c.in_ok-get_u16.ensures) c.split_at.ensures.back c.if-rest-length.true

pub returns : goal.returns
returns c =
    split_whole c.args.bytes.now c.split_at.result.1.now c.split_at-2.result.0.now c.split_at-2.result.1.now c.from-length.result
    (ap (λ (n : ℕ). Some n) c.from-length.ensures ∙ c.in_ok-get_u16.ensures)
    c.split_at.ensures.back c.if-rest-length.false c.split_at-2.ensures.front c.split_at-2.ensures.back

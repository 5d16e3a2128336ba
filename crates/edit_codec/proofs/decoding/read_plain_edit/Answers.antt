use Rattle.std.proofs.Common.{refl, arith}
use Rattle.std.proofs.lemmas.Result.{err_from_is_err_and}
use Rattle.edit_ops.specs.Records.{kind_of, fields_of, layout}
use Rattle.edit_ops.specs.Reading.{group_at}
use Rattle.edit_codec.proofs.OpReads.{op_is_read, op_fails}
use Rattle.edit_ops.proofs.WalkLaws.{fields_all_good}
use Rattle.edit_codec.proofs.decoding.read_plain_edit.Goals as goal

pub returns-in_err-op-clause-read : goal.returns-in_err-op-clause-read
returns-in_err-op-clause-read c =
    let p = err_from_is_err_and c.from_residual.result c.from_residual.ensures.1 in
    rw (p.1, p.2) (op_fails group_at c.args.kind c.args.bytes.now c.in_err-op.field-0.0 c.in_err-op.ensures)

pub invariant_of-result : goal.invariant_of-result
invariant_of-result c =
    let r = op_is_read group_at c.args.kind c.args.bytes.now (kind_of c.in_ok-op.op) (fields_of c.in_ok-op.op) _ c.in_ok-op.ensures in
    record { fields = fields_all_good (layout c.args.kind) c.args.bytes.now (fields_of c.in_ok-op.op) _ (λ i. omega (arith, c.type_inv.bytes i)) r.0; call = tt }

pub returns-clause-read : goal.returns-clause-read
returns-clause-read c = (op_is_read group_at c.args.kind c.args.bytes.now (kind_of c.in_ok-op.op) (fields_of c.in_ok-op.op) _ c.in_ok-op.ensures).0

pub returns-clause-kind : goal.returns-clause-kind
returns-clause-kind c =
    let r = op_is_read group_at c.args.kind c.args.bytes.now (kind_of c.in_ok-op.op) (fields_of c.in_ok-op.op) _ c.in_ok-op.ensures in
    (invariant_of-result c, r.1, refl)

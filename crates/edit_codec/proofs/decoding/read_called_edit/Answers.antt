use Rattle.std.proofs.Common.{◌++◌, Some, refl, true, ap, ◌∙◌, arith}
use Rattle.std.proofs.lemmas.Result.{err_from_is_err_and}
use Rattle.edit_ops.specs.Kinds.{is_mark}
use Rattle.edit_ops.specs.Records.{kind_of, fields_of, call_fields, full_layout}
use Rattle.edit_ops.specs.Reading.{group_at}
use Rattle.edit_codec.proofs.OpReads.{op_is_read, op_fails}
use Rattle.edit_ops.proofs.WalkLaws.{fields_all_good}
use Rattle.edit_codec.proofs.DecodeLaws.{both_read, second_fails}
use Rattle.edit_codec.proofs.decoding.read_called_edit.Goals as goal

pub returns-in_err-op-clause-read : goal.returns-in_err-op-clause-read
returns-in_err-op-clause-read c =
    let p = err_from_is_err_and c.from_residual-in_err-op.result c.from_residual-in_err-op.ensures.1 in
    rw (p.1, p.2) (second_fails c.args.kind c.args.bytes.now (call_fields (Some c.in_ok-call.call)) _ c.in_err-op.field-0.0 c.in_ok-call.ensures
    (op_fails group_at c.args.kind _ c.in_err-op.field-0.0 c.in_err-op.ensures))

pub returns-clause-read : goal.returns-clause-read
returns-clause-read c =
    let r = op_is_read group_at c.args.kind _ (kind_of c.in_ok-op.op) (fields_of c.in_ok-op.op) _ c.in_ok-op.ensures in
    both_read c.args.kind c.args.bytes.now (call_fields (Some c.in_ok-call.call)) (fields_of c.in_ok-op.op) _ _ c.in_ok-call.ensures r.0

pub invariant_of-result : goal.invariant_of-result
invariant_of-result c =
    let r = op_is_read group_at c.args.kind _ (kind_of c.in_ok-op.op) (fields_of c.in_ok-op.op) _ c.in_ok-op.ensures in
    record {
      fields = fields_all_good (full_layout c.args.kind true) c.args.bytes.now (call_fields (Some c.in_ok-call.call) ++ fields_of c.in_ok-op.op) _
          (λ i. omega (arith, c.type_inv.bytes i)) (returns-clause-read c);
      call = ap is_mark r.1 ∙ c.requires;
    }

pub returns-clause-kind : goal.returns-clause-kind
returns-clause-kind c =
    let r = op_is_read group_at c.args.kind _ (kind_of c.in_ok-op.op) (fields_of c.in_ok-op.op) _ c.in_ok-op.ensures in
    (invariant_of-result c, r.1, refl)

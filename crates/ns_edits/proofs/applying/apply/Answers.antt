use Rattle.std.proofs.Common.{◌∙◌, refl, sym}
use Rattle.edit_ops.proofs.EditLaws.{op_is_good}
use Rattle.ns_edits.specs.Apply.{apply_of}
use Rattle.ns_edits.proofs.Admitted.{op_admitted, call_is_new}
use Rattle.ns_edits.proofs.applying.apply.Goals as goal

pub apply_op-requires-clause-good : goal.apply_op-requires-clause-good
apply_op-requires-clause-good c = rw c.into_parts-op.ensures.op (op_is_good c.args.edit c.into_parts-op.ensures.good)

pub apply_op-requires-clause-admitted : goal.apply_op-requires-clause-admitted
apply_op-requires-clause-admitted c = rw c.into_parts-op.ensures.op (op_admitted c.args.ns.now c.args.edit c.requires.admitted)

pub note-requires-clause-new : goal.note-requires-clause-new
note-requires-clause-new c =
    rw c.in_ok-apply_op.ensures.ok
    (call_is_new c.args.ns.now c.args.edit c.in-Some.call c.requires.admitted (sym c.into_parts-op.ensures.call ∙ c.in-Some.is))

pub returns-in-Some-clause-ok : goal.returns-in-Some-clause-ok
unfolding apply_of
returns-in-Some-clause-ok c =
    rw (c.note.ensures, c.in_ok-apply_op.ensures.ok, c.into_parts-op.ensures.op, sym c.into_parts-op.ensures.call ∙ c.in-Some.is) refl

pub returns-in-None-clause-ok : goal.returns-in-None-clause-ok
unfolding apply_of
returns-in-None-clause-ok c = rw (c.in_ok-apply_op.ensures.ok, c.into_parts-op.ensures.op, sym c.into_parts-op.ensures.call ∙ c.in-None.is) refl

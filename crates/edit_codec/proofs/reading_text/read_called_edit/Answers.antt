use Rattle.std.proofs.Common.{◌≡◌, ℕ, List, [], ◌∷◌, ◌++◌, Some, Ok, refl, subst}
use Rattle.std.specs.Prelude.{codes}
use Rattle.std.proofs.lemmas.Result.{err_from_is_err_and}
use Rattle.edit_ops.specs.Fields.{client, call_number}
use Rattle.edit_ops.specs.Records.{call_fields}
use Rattle.edit_codec.specs.Saying.{fields_said}
use Rattle.edit_codec.proofs.SayEdits.{call_misses, no_space, line_fails, called_edit}
use Rattle.edit_codec.proofs.reading_text.read_called_edit.Goals as goal

pub returns-in_err-call : goal.returns-in_err-call
returns-in_err-call c =
    let p = err_from_is_err_and c.from_residual.result c.from_residual.ensures.1 in
    λ text whole. rw (p.1, p.2) (call_misses text c.args.words.now c.in_err-call.field-0.0 whole c.requires c.in_err-call.ensures)

pub returns-in-None : goal.returns-in-None
returns-in-None c = λ text whole. no_space text c.args.words.now (call_fields (Some c.in_ok-call.call)) _ whole c.requires c.in_ok-call.ensures c.in-None.ensures

pub returns-in_err-op : goal.returns-in_err-op
returns-in_err-op c =
    let p = err_from_is_err_and c.from_residual-in_err-op.result c.from_residual-in_err-op.ensures.1 in
    let read = subst (λ (w : List ℕ). fields_said (client ∷ call_number ∷ []) c.args.words.now ≡ Ok (call_fields (Some c.in_ok-call.call), w)) c.in-Some.ensures c.in_ok-call.ensures in
    λ text whole. rw (p.1, p.2) (line_fails text c.args.words.now c.in-Some.line.now (call_fields (Some c.in_ok-call.call)) c.in_err-op.field-0.0 whole c.requires read c.in_err-op.ensures)

pub invariant_of-result : goal.invariant_of-result
invariant_of-result c =
    let read = subst (λ (w : List ℕ). fields_said (client ∷ call_number ∷ []) c.args.words.now ≡ Ok (call_fields (Some c.in_ok-call.call), w)) c.in-Some.ensures c.in_ok-call.ensures in
    (called_edit (codes "call" ++ c.args.words.now) c.args.words.now c.in-Some.line.now c.in_ok-call.call c.in_ok-op.op refl read c.in_ok-op.ensures).edit

pub returns : goal.returns
returns c =
    let read = subst (λ (w : List ℕ). fields_said (client ∷ call_number ∷ []) c.args.words.now ≡ Ok (call_fields (Some c.in_ok-call.call), w)) c.in-Some.ensures c.in_ok-call.ensures in
    λ text whole. called_edit text c.args.words.now c.in-Some.line.now c.in_ok-call.call c.in_ok-op.op whole read c.in_ok-op.ensures

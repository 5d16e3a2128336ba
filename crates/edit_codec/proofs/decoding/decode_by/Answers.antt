use Rattle.std.proofs.Common.{◌≡◌, ℕ, List, [], ◌∷◌, Result, Err, subst, sym, ap, ◌∙◌, arith}
use Rattle.std.proofs.lemmas.Bool.{eqb-true}
use Rattle.edit_ops.specs.declared.field_fault.FieldFault.{FieldFault}
use Rattle.edit_ops.specs.declared.field_fault.ReadError.{ReadError}
use Rattle.edit_ops.specs.declared.field_fault.ReadError.TheVariants as errors
use Rattle.edit_ops.specs.Fields.{Field}
use Rattle.edit_ops.specs.Sources.{Fails}
use Rattle.edit_ops.specs.Records.{edit_fields}
use Rattle.edit_codec.specs.Decoding.{IsShort, EndsInside}
use Rattle.edit_codec.proofs.DecodeLaws.{right_edit, right_trailing, right_short, right_bad, few_left, few_missing}
use Rattle.edit_codec.proofs.decoding.decode_by.Goals as goal
use Rattle.base_words.proofs.Lists.{some_there}

is_fault : (read : Result (List Field × List ℕ) FieldFault) (e : ReadError FieldFault) (f : FieldFault) → e ≡ errors.Fault f → Fails e read → read ≡ Err f
is_fault read e f is fails = subst (λ (d : ReadError FieldFault). Fails d read) is fails

short_of_some : (body : List ℕ) (byte needed : ℕ) (bytes : List ℕ) → body ≡ byte ∷ bytes → EndsInside body needed → IsShort body needed
short_of_some [] byte needed bytes e ends = absurd cc
short_of_some (b ∷ rest) byte needed bytes e ends = ends

pub overflow_add-result : goal.overflow_add-result
overflow_add-result c =
    let o = c.in-Some.ensures.found in
    let arm = c.in-Short in
    let read = is_fault _ _ _ (c.in-Err-Fault.field-0-is ∙ ap errors.Fault arm.is) c.in-Err-Fault.ensures.read in
    let few = few_missing c.in-Some.kind c.in-Some.has_call c.args.body.now c.args.bytes.now c.args.byte o.0 o.1 c.requires (λ i. omega (arith, c.type_inv.bytes i)) arm.missing read in
    omega (arith, few)

pub overflow_sub-result : goal.overflow_sub-result
overflow_sub-result c =
    let o = c.in-Some.ensures.found in
    let arm = c.in-Bad in
    let read = is_fault _ _ _ (c.in-Err-Fault.field-0-is ∙ ap errors.Fault arm.is) c.in-Err-Fault.ensures.read in
    few_left c.in-Some.kind c.in-Some.has_call c.args.body.now c.args.bytes.now c.args.byte o.0 o.1 c.requires (λ i. omega (arith, c.type_inv.bytes i)) arm.left arm.rule read

pub returns-then-is_empty : goal.returns-then-is_empty
returns-then-is_empty c =
    let o = c.in-Some.ensures.found in
    let is = c.in-Ok.ensures.kind in
    right_edit c.in-Some.kind c.in-Some.has_call c.args.body.now c.args.bytes.now c.args.byte o.0 o.1 c.requires
    (λ i. omega (arith, c.type_inv.bytes i)) c.in-Ok.edit c.in-Ok.rest.now is.0 is.1 is.2 c.in-Ok.ensures.read
    (eqb-true _ _ (sym c.is_empty.ensures ∙ c.if-is_empty.true))

pub returns-else-is_empty : goal.returns-else-is_empty
returns-else-is_empty c =
    let o = c.in-Some.ensures.found in
    right_trailing c.in-Some.kind c.in-Some.has_call c.args.body.now c.args.bytes.now c.args.byte o.0 o.1 c.requires
    (λ i. omega (arith, c.type_inv.bytes i)) (edit_fields c.in-Ok.edit) c.in-Ok.rest.now c.in-Ok.ensures.read
    (some_there c.in-Ok.rest.now (sym c.is_empty.ensures ∙ c.if-is_empty.false))

pub returns-in-Err-Memory : goal.returns-in-Err-Memory
returns-in-Err-Memory c =
    let o = c.in-Some.ensures.found in
    record { kind = c.in-Some.kind; called = c.in-Some.has_call; may_call = o.0; bytes = c.args.bytes.now; whole = c.requires ∙ ap (λ (b : ℕ). b ∷ c.args.bytes.now) (sym o.1) }

pub returns-in-Short : goal.returns-in-Short
returns-in-Short c =
    let o = c.in-Some.ensures.found in
    let arm = c.in-Short in
    let read = is_fault _ _ _ (c.in-Err-Fault.field-0-is ∙ ap errors.Fault arm.is) c.in-Err-Fault.ensures.read in
    short_of_some c.args.body.now c.args.byte _ c.args.bytes.now c.requires
    (right_short c.in-Some.kind c.in-Some.has_call c.args.body.now c.args.bytes.now c.args.byte o.0 o.1 c.requires
    (λ i. omega (arith, c.type_inv.bytes i)) arm.missing read)

pub returns-in-Bad : goal.returns-in-Bad
returns-in-Bad c =
    let o = c.in-Some.ensures.found in
    let arm = c.in-Bad in
    let read = is_fault _ _ _ (c.in-Err-Fault.field-0-is ∙ ap errors.Fault arm.is) c.in-Err-Fault.ensures.read in
    right_bad c.in-Some.kind c.in-Some.has_call c.args.body.now c.args.bytes.now c.args.byte o.0 o.1 c.requires (λ i. omega (arith, c.type_inv.bytes i)) arm.left arm.rule read

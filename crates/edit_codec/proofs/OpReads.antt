-- What is read of a source for an edit of a kind is its fields.
use Rattle.std.proofs.Common.{◌≡◌, List, Result, Ok, Err, sym, ap}
use Rattle.edit_ops.specs.declared.field_fault.ReadError.{ReadError}
use Rattle.edit_ops.specs.declared.field_fault.ReadError.TheVariants as errors
use Rattle.edit_ops.specs.declared.kind.OpKind.{OpKind}
use Rattle.edit_ops.specs.Fields.{Kind, Field}
use Rattle.edit_ops.specs.Records.{layout}
use Rattle.edit_ops.specs.Sources.{◌>>=◌, Fails, fields_read}
use Rattle.edit_codec.specs.OpRead.{op_read}
use Rattle.edit_ops.proofs.SourceLaws.{ok_is}

abbrev Read : Type 0 → Type 0 → Type 0
Read L W = Result (List Field × L) W

abbrev kinded : {L W : Type 0} → OpKind → List Field × L → Result ((OpKind × List Field) × L) W
kinded kind x = Ok ((kind, x.0), x.1)

pub op_is_read : {L W : Type 0} (group : Kind → L → Result (List Field × L) W) (kind : OpKind) (left : L) (k : OpKind) (fields : List Field) (rest : L)
    → op_read group kind left ≡ Ok ((k, fields), rest) → (fields_read group (layout kind) left ≡ Ok (fields, rest)) × (k ≡ kind)
unfolding op_read
op_is_read {L = L} {W = W} group kind left k fields rest e = by (fields_read group (layout kind) left) e
  where
    by : (r : Read L W) → (r >>= λ x. kinded kind x) ≡ Ok ((k, fields), rest) → (r ≡ Ok (fields, rest)) × (k ≡ kind)
    by (Err f) is = absurd cc
    by (Ok x) is =
        let same = ok_is ((kind, x.0), x.1) ((k, fields), rest) is in
        ((λ i. Ok ((same i).0.1, (same i).1)), sym (λ i. (same i).0.0))

pub op_fails : {L W : Type 0} (group : Kind → L → Result (List Field × L) W) (kind : OpKind) (left : L) (e : ReadError W)
    → Fails e (op_read group kind left) → Fails e (fields_read group (layout kind) left)
unfolding op_read
op_fails group kind left errors.Memory fails = tt
op_fails {L = L} {W = W} group kind left (errors.Fault f) fails = by (fields_read group (layout kind) left) fails
  where
    by : (r : Read L W) → (r >>= λ x. kinded kind x) ≡ Err f → r ≡ Err f
    by (Ok x) is = absurd cc
    by (Err g) is = let same : g ≡ f = cc in ap (λ (h : W). Err h) same

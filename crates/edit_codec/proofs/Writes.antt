-- The fields of what an edit does, by equal parts: good, and written.
use Rattle.std.proofs.Common.{◌≡◌, ℕ, List, ◌++◌, Result, sym, subst}
use Rattle.std.specs.Prelude.{OnOk}
use Rattle.std.specs.List.{flat_map, AllByRecursion}
use Rattle.edit_ops.specs.Fields.{IsGood}
use Rattle.edit_ops.specs.declared.op.Op.{Op}
use Rattle.edit_ops.specs.Records.{fields_of}
use Rattle.edit_codec.specs.declared.field.Form.{Form}
use Rattle.edit_codec.specs.Forms.{written}

pub good_as : {o op : Op} → o ≡ op → AllByRecursion IsGood (fields_of op) → AllByRecursion IsGood (fields_of o)
good_as e good = subst (λ (x : Op). AllByRecursion IsGood (fields_of x)) (sym e) good

pub written_as : {E : Type 0} (r : Result (Unit {0}) E) (old new : List ℕ) (form : Form) {o op : Op} → o ≡ op → OnOk r (new ≡ old ++ flat_map (written form) (fields_of o))
    → OnOk r (new ≡ old ++ flat_map (written form) (fields_of op))
written_as r old new form e h = subst (λ (x : Op). OnOk r (new ≡ old ++ flat_map (written form) (fields_of x))) e h

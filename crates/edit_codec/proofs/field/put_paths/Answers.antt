use Rattle.std.proofs.Common.{List, ℕ, subst, sym, ◌∙◌}
use Rattle.edit_ops.specs.Fields.{IsGood, path, Text_}
use Rattle.edit_codec.proofs.Goods.{good_at}
use Rattle.edit_codec.proofs.field.put_paths.Goals as goal

pub put_field-requires : goal.put_field-requires
put_field-requires c = subst (λ (p : List ℕ). IsGood (Text_ path p)) (sym (c.as_slice.ensures ∙ c.path-item.is))
    (good_at (Text_ path) c.args.paths.now c.loop-path.path-index _ c.requires c.loop-path-test.true)

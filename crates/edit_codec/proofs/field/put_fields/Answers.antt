use Rattle.edit_codec.specs.Shown.{shown}
use Rattle.edit_codec.proofs.Goods.{good_at}
use Rattle.edit_codec.proofs.field.put_fields.Goals as goal

pub put_field-requires : goal.put_field-requires
put_field-requires c = good_at shown c.args.fields.now c.loop-field.field-index _ c.requires c.loop-field-test.true

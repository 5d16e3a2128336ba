use Rattle.edit_ops.specs.Fields.{Number_}
use Rattle.edit_codec.proofs.Goods.{good_at}
use Rattle.edit_codec.proofs.field.put_numbers.Goals as goal

pub put_field-requires : goal.put_field-requires
put_field-requires c = good_at Number_ c.args.numbers.now c.loop-number.number-index 0 c.requires c.loop-number-test.true

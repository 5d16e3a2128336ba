use Rattle.edit_codec.proofs.DecodeLaws.{this_or_memory}
use Rattle.edit_codec.proofs.decoding.decode.Goals as goal

pub returns-in-len1-up-clause-only : goal.returns-in-len1-up-clause-only
returns-in-len1-up-clause-only c = λ a is some. this_or_memory c.args.body.now c.decode_by.result a c.decode_by.ensures is some

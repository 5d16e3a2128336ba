use Rattle.edit_codec.proofs.DecodeLaws.{no_prefix}
use Rattle.edit_codec.proofs.laws.no_record_begins_another.Goals as goal

pub returns : goal.returns
returns c = no_prefix

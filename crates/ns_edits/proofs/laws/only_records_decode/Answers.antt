use Rattle.ns_edits.proofs.Decodes.{only_record_decodes}
use Rattle.ns_edits.proofs.laws.only_records_decode.Goals as goal

pub returns : goal.returns
returns c = only_record_decodes

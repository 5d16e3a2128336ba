use Rattle.ns_edits.proofs.Decodes.{record_decodes}
use Rattle.ns_edits.proofs.laws.records_decode.Goals as goal

pub returns : goal.returns
returns c = record_decodes

use Rattle.list_oev.specs.Entries.{entry_lines}
use Rattle.list_oev.specs.declared.segment_listing.SegmentCause.TheVariants.{Header}
use Rattle.list_oev.proofs.OneAnswer.{gives_text, gives_damage}
use Rattle.list_oev.proofs.tools.json.Goals as goal

pub returns-clause-right : goal.returns-clause-right
returns-clause-right c = c.listing_of.ensures.right entry_lines c.args.bytes.now c.entries_in.ensures.read

pub returns-clause-text : goal.returns-clause-text
returns-clause-text c = gives_text entry_lines c.args.bytes.now c.listing_of.result (c.listing_of.ensures.right entry_lines c.args.bytes.now c.entries_in.ensures.read)

pub returns-clause-damage : goal.returns-clause-damage
returns-clause-damage c = gives_damage entry_lines c.args.bytes.now c.listing_of.result (c.listing_of.ensures.right entry_lines c.args.bytes.now c.entries_in.ensures.read)

pub returns-clause-header : goal.returns-clause-header
returns-clause-header c = λ none. c.listing_of.ensures.damage 0 Header (c.entries_in.ensures.header none)

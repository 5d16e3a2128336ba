use Rattle.list_oev.specs.Counts.{statistics}
use Rattle.list_oev.specs.declared.segment_listing.SegmentCause.TheVariants.{Header}
use Rattle.list_oev.proofs.OneAnswer.{gives_text, gives_damage}
use Rattle.list_oev.proofs.tools.stats.Goals as goal

pub returns-clause-right : goal.returns-clause-right
returns-clause-right c = c.listing_of.ensures.right (λ start. statistics) c.args.bytes.now c.statistics_in.ensures.read

pub returns-clause-text : goal.returns-clause-text
returns-clause-text c = gives_text (λ start. statistics) c.args.bytes.now c.listing_of.result (c.listing_of.ensures.right (λ start. statistics) c.args.bytes.now c.statistics_in.ensures.read)

pub returns-clause-damage : goal.returns-clause-damage
returns-clause-damage c = gives_damage (λ start. statistics) c.args.bytes.now c.listing_of.result (c.listing_of.ensures.right (λ start. statistics) c.args.bytes.now c.statistics_in.ensures.read)

pub returns-clause-header : goal.returns-clause-header
returns-clause-header c = λ none. c.listing_of.ensures.damage 0 Header (c.statistics_in.ensures.header none)

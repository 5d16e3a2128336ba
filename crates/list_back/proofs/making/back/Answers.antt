use Rattle.std.proofs.Common.{sym, ◌∙◌}
use Rattle.std.proofs.lemmas.Bool.{true≢false}
use Rattle.serde_json.specs.View.{view}
use Rattle.list_back.specs.declared.answer.Back.TheVariants.{NotJson}
use Rattle.list_back.proofs.Answers.{right_of, no_text, not_opened, values_ordered}
use Rattle.list_back.proofs.Listings.{listing_gives}
use Rattle.list_back.proofs.making.back.Goals as goal

pub back_of-requires-clause-ordered : goal.back_of-requires-clause-ordered
back_of-requires-clause-ordered c = λ ds is. values_ordered c.args.bytes.now (view c.in-Ok-from_slice.value) c.in-Ok-from_slice.ensures.ok.1 ds is

pub returns-then-not-opens_array-clause-right : goal.returns-then-not-opens_array-clause-right
returns-then-not-opens_array-clause-right c = not_opened c.args.bytes.now c.args.start c.args.epoch (sym c.opens_array.ensures ∙ c.if-not-opens_array.true)

pub returns-then-not-opens_array-clause-listing : goal.returns-then-not-opens_array-clause-listing
returns-then-not-opens_array-clause-listing c = λ segment edits s few spelled.
    let right = not_opened c.args.bytes.now c.args.start c.args.epoch (sym c.opens_array.ensures ∙ c.if-not-opens_array.true) in
    listing_gives c.args.bytes.now segment c.args.start c.args.epoch edits NotJson c.requires.some_start c.requires.start_within c.requires.some_epoch c.requires.epoch_within right s few spelled

pub returns-in-Ok-from_slice-clause-listing : goal.returns-in-Ok-from_slice-clause-listing
returns-in-Ok-from_slice-clause-listing c = λ segment edits s few spelled.
    let read = c.in-Ok-from_slice.ensures.ok in
    let opens = sym c.opens_array.ensures ∙ c.if-not-opens_array.false in
    let right = right_of c.args.bytes.now c.args.start c.args.epoch (view c.in-Ok-from_slice.value) c.back_of.result opens read.0 read.1 c.back_of.ensures in
    listing_gives c.args.bytes.now segment c.args.start c.args.epoch edits c.back_of.result c.requires.some_start c.requires.start_within
    c.requires.some_epoch c.requires.epoch_within right s few spelled

pub returns-clause-listing : goal.returns-clause-listing
returns-clause-listing c = λ segment edits s few spelled.
    let right = no_text c.args.bytes.now c.args.start c.args.epoch (c.in-Err.ensures.err (λ m. true≢false (sym (c.is_memory.ensures.1 m) ∙ c.if-is_memory.false))) in
    listing_gives c.args.bytes.now segment c.args.start c.args.epoch edits NotJson c.requires.some_start c.requires.start_within c.requires.some_epoch c.requires.epoch_within right s few spelled

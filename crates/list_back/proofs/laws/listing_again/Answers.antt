use Rattle.std.proofs.Common.{ℕ, List, sym, subst, ◌∙◌}
use Rattle.list_oev.specs.Segment.{IsSegment}
use Rattle.list_back.proofs.Listings.{under_is, no_other}
use Rattle.list_back.proofs.laws.listing_again.Goals as goal

pub returns-in-Segment : goal.returns-in-Segment
returns-in-Segment c = λ edits s few.
    let text = c.in-Text.ensures.text c.args.start edits s in
    let made = c.in-Segment.ensures.listing c.args.segment.now edits s few (c.as_slice.ensures.value ∙ text) in
    let again = under_is c.args.epoch c.in-Segment.bytes.items c.args.start edits made in
    c.json-in-Segment.ensures.text c.args.start edits (subst (λ (x : List ℕ). IsSegment x c.args.start edits) (sym c.as_slice-in-Segment.ensures.value) again)

pub unreachable-requires : goal.unreachable-requires
unreachable-requires c =
    let s = c.requires.segment in
    let text = c.in-Text.ensures.text c.args.start s.0 s.1 in
    no_other c.args.start c.args.epoch s.0 c.back.result (c.back.ensures.listing c.args.segment.now s.0 s.1 s.2 (c.as_slice.ensures.value ∙ text)) c.in-NotJson.is

pub unreachable-requires-in-BadBytes : goal.unreachable-requires-in-BadBytes
unreachable-requires-in-BadBytes c = let s = c.requires.segment in c.in-BadBytes.ensures.text c.args.start s.0 s.1

use Rattle.list_back.proofs.Listings.{objects, listing_array, segment_entries, text_again}
use Rattle.list_back.proofs.laws.listings_come_back.Goals as goal

pub returns-clause-array : goal.returns-clause-array
returns-clause-array c = λ segment start edits s.
    let are = segment_entries segment start edits s in
    (objects start edits, listing_array start edits (objects start edits) are, are)

pub returns-clause-text : goal.returns-clause-text
returns-clause-text c = text_again

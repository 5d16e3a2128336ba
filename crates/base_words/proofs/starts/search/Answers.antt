use Rattle.std.proofs.Common.{rules}
use Rattle.std.proofs.lemmas.List.Sorted.{answers_always}
use Rattle.base_words.proofs.StartLaws.{searched_at, searched_gap}
use Rattle.base_words.proofs.starts.search.Goals as goal

pub returns-clause-found : goal.returns-clause-found
returns-clause-found g c =
    let facts = c.binary_search_by_key.ensures in
    let by_start = facts.position g.T.HasStart.start_of (answers_always _ _ _ (λ f a r h called. search rules)) in
    searched_at g.T.HasStart.start_of c.args.start c.args.items.now _ facts.bound by_start

pub returns-clause-gap : goal.returns-clause-gap
returns-clause-gap g c =
    let facts = c.binary_search_by_key.ensures in
    let by_start = facts.position g.T.HasStart.start_of (answers_always _ _ _ (λ f a r h called. search rules)) in
    searched_gap g.T.HasStart.start_of c.args.start c.args.items.now _ c.requires facts.bound by_start

use Rattle.std.proofs.Common.{ap, sym, ◌∙◌, length}
use Rattle.std.proofs.lemmas.Iterator.{YieldsList-from_zip}
use Rattle.std.proofs.lemmas.Iterator.Adapters.{YieldsList-from_vec}
use Rattle.std.proofs.lemmas.Iterator.Consumers.{YieldsList-at, YieldsList-end}
use Rattle.std.specs.Iterator.Adapters.{zip_first, zip_second}
use Rattle.std.specs.Vec.Iter.{into_iter_items, into_iter_len}
use Rattle.play_threads.proofs.EndLaws.{firsts, seconds}
use Rattle.play_threads.proofs.ends.ends_in.Goals as goal

pub returns-clause-names : goal.returns-clause-names
returns-clause-names c =
    let z = c.zip-name-items.ensures in
    let i = c.into_iter.ensures in
    let names = c.in_ok-names.names in
    let lasts = c.args.lasts in
    let a = YieldsList-from_vec {s = zip_first c.zip-name-items.result} names.items (ap into_iter_items z.first ∙ i.rest) (ap into_iter_len z.first ∙ i.len ∙ names.ok.0) in
    let b = YieldsList-from_vec {s = zip_second c.zip-name-items.result} lasts.items z.second.0 (z.second.1 ∙ lasts.ok.0) in
    let all = YieldsList-at c.into_iter-name-iterator.ensures.into_iter_gives (YieldsList-from_zip {s = c.zip-name-items.result} a b) in
    let e = YieldsList-end all c.loop-name.yielded c.loop-name.name-iterator c.loop-name.yielded_by c.next.result c.next.new.self c.in-None.is c.next.ensures.steps in
    c.loop-name.invariant.0 ∙ firsts c.loop-name.yielded names.items lasts.items e.0 (ap length c.in_ok-names.ensures ∙ sym c.requires) ∙ c.in_ok-names.ensures

pub returns-clause-lasts : goal.returns-clause-lasts
returns-clause-lasts c =
    let z = c.zip-name-items.ensures in
    let i = c.into_iter.ensures in
    let names = c.in_ok-names.names in
    let lasts = c.args.lasts in
    let a = YieldsList-from_vec {s = zip_first c.zip-name-items.result} names.items (ap into_iter_items z.first ∙ i.rest) (ap into_iter_len z.first ∙ i.len ∙ names.ok.0) in
    let b = YieldsList-from_vec {s = zip_second c.zip-name-items.result} lasts.items z.second.0 (z.second.1 ∙ lasts.ok.0) in
    let all = YieldsList-at c.into_iter-name-iterator.ensures.into_iter_gives (YieldsList-from_zip {s = c.zip-name-items.result} a b) in
    let e = YieldsList-end all c.loop-name.yielded c.loop-name.name-iterator c.loop-name.yielded_by c.next.result c.next.new.self c.in-None.is c.next.ensures.steps in
    c.loop-name.invariant.1 ∙ seconds c.loop-name.yielded names.items lasts.items e.0 (ap length c.in_ok-names.ensures ∙ sym c.requires)

use Rattle.std.proofs.Common.{◌∙◌, rules, arith, length-append, ◌∷◌, [], map}
use Rattle.std.proofs.lemmas.List.{length-map}
use Rattle.std.proofs.lemmas.Iterator.Adapters.{YieldsList-from_vec}
use Rattle.std.proofs.lemmas.Iterator.Consumers.{YieldsList-turn}
use Rattle.play_threads.proofs.GateLaws.{zip_first, columns_count, zip_next}
use Rattle.play_threads.proofs.gates.deal.Goals as goal

pub loop-item-init : goal.loop-item-init
loop-item-init g c = (search rules, search rules, search rules, zip_first (map (λ x. x.items) c.args.columns.now.items))

pub index_mut-requires : goal.index_mut-requires
index_mut-requires g c =
    let b = c.into_iter-item-iterator.ensures.into_iter_gives in
    let t = YieldsList-turn (YieldsList-from_vec {s = c.into_iter-item-iterator.result} c.args.row.items b.0 (b.1 ∙ c.args.row.ok.0))
    c.loop-item.yielded c.loop-item.item-iterator c.loop-item.yielded_by c.next.result c.next.new.self c.in-Some.item c.in-Some.is
    c.next.ensures.steps in
    let i = c.loop-item.invariant in
    let at = i.2 in
    let n = columns_count (λ x. x.items) c.loop-item.columns.items (map (λ x. x.items) c.args.columns.now.items) c.loop-item.yielded i.3 in
    let m = length-map c.args.columns.now.items (λ x. x.items) in
    let all = c.requires in
    omega (arith, t.0, at, n, m, all, c.loop-item.columns.ok.0)

pub loop-item-preserved : goal.loop-item-preserved
loop-item-preserved g c =
    let i = c.loop-item.invariant in
    let at = i.2 in
    let b = c.into_iter-item-iterator.ensures.into_iter_gives in
    let t = YieldsList-turn (YieldsList-from_vec {s = c.into_iter-item-iterator.result} c.args.row.items b.0 (b.1 ∙ c.args.row.ok.0))
    c.loop-item.yielded c.loop-item.item-iterator c.loop-item.yielded_by c.next.result c.next.new.self c.in-Some.item c.in-Some.is
    c.next.ensures.steps in
    let n = columns_count (λ x. x.items) c.loop-item.columns.items (map (λ x. x.items) c.args.columns.now.items) c.loop-item.yielded i.3 in
    let m = length-map c.args.columns.now.items (λ x. x.items) in
    let all = c.requires in
    let l = length-append c.loop-item.yielded (c.in-Some.item ∷ []) in (
      search rules,
      search rules,
      omega (arith, at, l),
      zip_next (λ x. x.items) c.loop-item.columns.items c.index_mut.result.now c.push.new.self (map (λ x. x.items) c.args.columns.now.items) c.loop-item.yielded c.in-Some.item c.loop-item.k at
          (omega (arith, t.0, at, n, m, all)) c.index_mut.ensures.value c.in_ok-push.ensures.items i.3,
    )

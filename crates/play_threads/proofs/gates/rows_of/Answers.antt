use Rattle.std.proofs.Common.{◌∙◌, sym, ap, rules, length, ◌∷◌, [], map, replicate}
use Rattle.std.proofs.lemmas.List.{map-append}
use Rattle.std.proofs.lemmas.Iterator.Adapters.{YieldsList-from_vec}
use Rattle.std.proofs.lemmas.Iterator.Consumers.{YieldsList-turn}
use Rattle.play_threads.specs.Gates.{zip_snoc, dealt}
use Rattle.play_threads.proofs.GateLaws.{dealt_count, dealt_more}
use Rattle.play_threads.proofs.gates.rows_of.Goals as goal

pub deal-requires : goal.deal-requires
deal-requires g c =
    let b = c.into_iter-column-iterator.ensures.into_iter_gives in
    let t = YieldsList-turn (YieldsList-from_vec {s = c.into_iter-column-iterator.result} c.args.columns.items b.0 (b.1 ∙ c.args.columns.ok.0))
    c.loop-column.yielded c.loop-column.column-iterator c.loop-column.yielded_by c.next.result c.next.new.self c.in-Some.column c.in-Some.is
    c.next.ensures.steps in
    ap (λ x. length x.items) t.1 ∙ c.requires (length c.loop-column.yielded) c.in-Some.column t.0
    ∙ sym (dealt_count (λ x. x.items) c.loop-column.rows.items c.args.gates (map (λ x. x.items) c.loop-column.yielded) c.loop-column.invariant.2)

pub loop-column-preserved : goal.loop-column-preserved
loop-column-preserved g c =
    let i = c.loop-column.invariant in (
      search rules,
      search rules,
      c.in_ok-deal.ensures ∙ ap (λ z. zip_snoc z c.in-Some.column.items) i.2 ∙ sym (dealt_more (replicate c.args.gates []) (map (λ x. x.items) c.loop-column.yielded) c.in-Some.column.items)
          ∙ ap (dealt (replicate c.args.gates [])) (sym (map-append (λ x. x.items) c.loop-column.yielded (c.in-Some.column ∷ []))),
    )

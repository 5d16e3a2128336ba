use Rattle.std.proofs.Common.{◌≡◌, ◌++◌, ◌∷◌, [], map, sym, ◌∙◌}
use Rattle.std.proofs.lemmas.Bool.{eqb-true}
use Rattle.std.proofs.lemmas.Result.{err_from_is_err_and}
use Rattle.std.proofs.lemmas.List.{map_push}
use Rattle.edit_ops.specs.Fields.{number, Number_}
use Rattle.edit_codec.specs.Saying.{items_said}
use Rattle.edit_codec.proofs.SayItems.{goes_on, ends, is_done, is_too_long}
use Rattle.edit_codec.proofs.word_source.take_numbers.Goals as goal
use Rattle.base_words.proofs.Lists.{some_there}

pub returns-then-is_empty : goal.returns-then-is_empty
returns-then-is_empty c = is_done number (map Number_ c.loop.items) _ c.loop.rest.now (items_said 65535 number c.args.words.now)
    (eqb-true _ _ (sym c.is_empty.ensures ∙ c.if-is_empty.true)) c.loop.invariant

pub returns-in_err-item : goal.returns-in_err-item
returns-in_err-item c =
    let p = err_from_is_err_and c.from_residual.result c.from_residual.ensures.1 in
    rw (p.1, p.2) (ends number c.in_err-item.field-0.0 (map Number_ c.loop.items) 65535 c.loop.counter c.loop.rest.now
    (items_said 65535 number c.args.words.now) c.loop-test.true (some_there c.loop.rest.now (sym c.is_empty.ensures ∙ c.if-is_empty.false))
    c.in_err-item.ensures c.loop.invariant)

pub loop-preserved : goal.loop-preserved
loop-preserved c =
    let item = c.in_ok-item.item in
    let more : map Number_ c.push.new.self ≡ map Number_ c.loop.items ++ Number_ item ∷ [] = rw c.in_ok-push.ensures.ok (map_push Number_ c.loop.items item) in
    rw more (goes_on number (map Number_ c.loop.items) 65535 c.loop.counter c.loop.rest.now (Number_ item) c.in_ok-item.after.now
    (items_said 65535 number c.args.words.now) c.loop-test.true (some_there c.loop.rest.now (sym c.is_empty.ensures ∙ c.if-is_empty.false))
    c.in_ok-item.ensures c.loop.invariant)

pub returns-then-is_empty-2 : goal.returns-then-is_empty-2
returns-then-is_empty-2 c = is_done number (map Number_ c.loop.items) _ c.loop.rest.now (items_said 65535 number c.args.words.now)
    (eqb-true _ _ (sym c.is_empty-2.ensures ∙ c.if-is_empty-2.true)) c.loop.invariant

pub returns-else-is_empty-2 : goal.returns-else-is_empty-2
returns-else-is_empty-2 c = is_too_long number (map Number_ c.loop.items) 65535 c.loop.counter c.loop.rest.now
    (items_said 65535 number c.args.words.now) c.loop-test.false (some_there c.loop.rest.now (sym c.is_empty-2.ensures ∙ c.if-is_empty-2.false))
    c.loop.invariant

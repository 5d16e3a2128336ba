use Rattle.std.proofs.Common.{◌≡◌, ◌++◌, ◌∷◌, [], map, arith}
use Rattle.std.specs.Prelude.{replicate}
use Rattle.std.proofs.lemmas.Result.{err_from_is_err_and}
use Rattle.std.proofs.lemmas.List.{map_push, length_push}
use Rattle.edit_ops.specs.Fields.{number, Number_}
use Rattle.edit_ops.specs.Reading.{items_at}
use Rattle.edit_codec.proofs.ReadItems.{goes_on, ends, is_done}
use Rattle.edit_codec.proofs.record_source.take_numbers.Goals as goal

pub returns-in_err-item : goal.returns-in_err-item
returns-in_err-item c =
    let p = err_from_is_err_and c.from_residual.result c.from_residual.ensures.1 in
    record {
      items = rw (p.1, p.2) (ends number c.in_err-item.field-0.0 (map Number_ c.loop.items) c.args.count c.loop.counter c.loop.rest.now
          (items_at (replicate c.args.count number) c.args.bytes.now) c.loop-test.true c.in_err-item.ensures c.loop.invariant.so_far);
      all = rw p.1 tt;
    }

pub loop-preserved : goal.loop-preserved
loop-preserved c =
    let item = c.in_ok-item.item in
    let more : map Number_ c.push.new.self ≡ map Number_ c.loop.items ++ Number_ item ∷ [] = rw c.in_ok-push.ensures.ok (map_push Number_ c.loop.items item) in
    record {
      all = rw c.in_ok-push.ensures.ok (omega (arith, length_push c.loop.items item, c.loop.invariant.all));
      so_far = rw more (goes_on number (map Number_ c.loop.items) c.args.count c.loop.counter c.loop.rest.now (Number_ item) c.in_ok-item.after.now
          (items_at (replicate c.args.count number) c.args.bytes.now) c.loop-test.true c.in_ok-item.ensures c.loop.invariant.so_far);
    }

pub returns : goal.returns
returns c = record {
  items = is_done number (map Number_ c.loop.items) c.args.count c.loop.counter c.loop.rest.now (items_at (replicate c.args.count number) c.args.bytes.now) c.loop-test.false c.loop.invariant.so_far;
  all = omega (arith, c.loop.invariant.all, c.loop.auto.counter-end);
}

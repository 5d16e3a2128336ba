use Rattle.std.proofs.Common.{[], arith}
use Rattle.std.proofs.lemmas.Result.{err_from_is_err_and}
use Rattle.ns_image.specs.Reading.{repeated, length_at}
use Rattle.ns_image.proofs.Items.{goes_on, ends, is_done}
use Rattle.ns_image.proofs.fields.lengths_of.Goals as goal

pub returns-in_err-rest-clause-read : goal.returns-in_err-rest-clause-read
returns-in_err-rest-clause-read c =
    let p = err_from_is_err_and c.from_residual-in_err-rest.result c.from_residual-in_err-rest.ensures.1 in
    rw (p.1, p.2) (ends length_at c.in_err-rest.field-0.0 c.args.count c.loop.counter c.loop.lengths.items c.loop.rest.now
    (repeated length_at c.args.count [] c.args.bytes.now) c.loop-test.true c.in_err-rest.ensures.read c.loop.invariant.so_far)

pub loop-preserved : goal.loop-preserved
loop-preserved c = record {
  so_far = goes_on length_at c.args.count c.loop.counter c.loop.lengths.items c.loop.rest.now c.add_length.new.lengths.items c.in_ok-rest.rest.now
      (repeated length_at c.args.count [] c.args.bytes.now) c.loop-test.true c.in_ok-rest.ensures.read c.loop.invariant.so_far;
  good = c.in_ok-rest.ensures.good c.loop.invariant.good;
  all = omega (arith, c.in_ok-rest.ensures.one, c.loop.invariant.all);
}

pub returns-clause-read : goal.returns-clause-read
returns-clause-read c =
    is_done length_at c.args.count c.loop.counter c.loop.lengths.items c.loop.rest.now (repeated length_at c.args.count [] c.args.bytes.now) c.loop-test.false c.loop.invariant.so_far

use Rattle.std.proofs.Common.{◌∙◌, [], arith}
use Rattle.std.proofs.lemmas.Result.{err_from_is_err_and}
use Rattle.ns_image.specs.Reading.{repeated, call_at}
use Rattle.ns_image.proofs.Items.{goes_on, ends, is_done}
use Rattle.ns_image.proofs.calls.add_calls.Goals as goal

pub returns-in_err-rest-clause-calls : goal.returns-in_err-rest-clause-calls
returns-in_err-rest-clause-calls c =
    let p = err_from_is_err_and c.from_residual.result c.from_residual.ensures.1 in
    rw (p.1, p.2) (ends (call_at c.args.txid) c.in_err-rest.field-0.0 c.args.count c.loop.counter c.loop.namespace.calls c.loop.rest.now
    (repeated (call_at c.args.txid) c.args.count [] c.args.bytes.now) c.loop-test.true c.in_err-rest.ensures.calls c.loop.invariant.so_far)

pub loop-preserved : goal.loop-preserved
loop-preserved c = record {
  so_far = goes_on (call_at c.args.txid) c.args.count c.loop.counter c.loop.namespace.calls c.loop.rest.now c.add_call.new.namespace.calls
      c.in_ok-rest.rest.now (repeated (call_at c.args.txid) c.args.count [] c.args.bytes.now) c.loop-test.true c.in_ok-rest.ensures.calls
      c.loop.invariant.so_far;
  rows = c.in_ok-rest.ensures.rows ∙ c.loop.invariant.rows;
  rising = c.in_ok-rest.ensures.rising;
  all = omega (arith, c.in_ok-rest.ensures.one, c.loop.invariant.all);
}

pub returns-clause-calls : goal.returns-clause-calls
returns-clause-calls c =
    is_done (call_at c.args.txid) c.args.count c.loop.counter c.loop.namespace.calls c.loop.rest.now
    (repeated (call_at c.args.txid) c.args.count [] c.args.bytes.now) c.loop-test.false c.loop.invariant.so_far

use Rattle.std.proofs.Common.{◌+◌, List, sym, subst}
use Rattle.std.proofs.lemmas.Result.{err_from_is_err_and}
use Rattle.serde_json.specs.View.{view}
use Rattle.list_back.specs.Values.{number_in}
use Rattle.list_back.proofs.Coding.{ListedFrom, ok_found, value_here, list_begins, list_goes_on, list_fails, list_ok}
use Rattle.list_back.proofs.object_source.read_each_number.Goals as goal

pub loop-value-init : goal.loop-value-init
loop-value-init c = subst (λ (xs : List _). ListedFrom (number_in 4611686018427387904) c.args.values.now xs 0) (sym c.new-items.ensures) (list_begins (number_in 4611686018427387904) c.args.values.now)

pub returns-in_err-read_one_number : goal.returns-in_err-read_one_number
returns-in_err-read_one_number c =
    let p = err_from_is_err_and c.from_residual.result c.from_residual.ensures.1 in
    let here = value_here c.args.values.now c.loop-value.value-index c.value-item.result c.loop-value-test.true c.value-item.is in
    rw (p.1, p.2) (list_fails (number_in 4611686018427387904) c.args.values.now c.loop-value.items c.loop-value.value-index c.value-item.result
    c.in_err-read_one_number.field-0.0 here c.in_err-read_one_number.ensures c.loop-value.invariant)

pub loop-value-preserved : goal.loop-value-preserved
loop-value-preserved c =
    let here = value_here c.args.values.now c.loop-value.value-index c.value-item.result c.loop-value-test.true c.value-item.is in
    let found = ok_found ((number_in 4611686018427387904) (view c.value-item.result)) c.in_ok-read_one_number.field-0 c.in_ok-read_one_number.ensures in
    subst (λ (xs : List _). ListedFrom (number_in 4611686018427387904) c.args.values.now xs (c.loop-value.value-index + 1))
    (sym c.in_ok-push.ensures.ok) (list_goes_on (number_in 4611686018427387904) c.args.values.now c.loop-value.items c.loop-value.value-index
    c.value-item.result c.in_ok-read_one_number.field-0 here found c.loop-value.invariant)

pub returns : goal.returns
returns c = list_ok (number_in 4611686018427387904) c.args.values.now c.loop-value.items c.loop-value.value-index c.loop-value-test.false c.loop-value.invariant

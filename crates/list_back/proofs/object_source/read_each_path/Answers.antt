use Rattle.std.proofs.Common.{◌+◌, List, sym, subst}
use Rattle.std.proofs.lemmas.Result.{err_from_is_err_and}
use Rattle.serde_json.specs.View.{view}
use Rattle.edit_ops.specs.Fields.{path}
use Rattle.list_back.specs.Values.{text_in}
use Rattle.list_back.proofs.Coding.{ListedFrom, ok_found, value_here, list_begins, list_goes_on, list_fails, list_ok}
use Rattle.list_back.proofs.object_source.read_each_path.Goals as goal

pub loop-value-init : goal.loop-value-init
loop-value-init c = subst (λ (xs : List _). ListedFrom (text_in path) c.args.values.now xs 0) (sym c.new-items.ensures) (list_begins (text_in path) c.args.values.now)

pub returns-in_err-read_one_path : goal.returns-in_err-read_one_path
returns-in_err-read_one_path c =
    let p = err_from_is_err_and c.from_residual.result c.from_residual.ensures.1 in
    let here = value_here c.args.values.now c.loop-value.value-index c.value-item.result c.loop-value-test.true c.value-item.is in
    rw (p.1, p.2) (list_fails (text_in path) c.args.values.now c.loop-value.items c.loop-value.value-index c.value-item.result
    c.in_err-read_one_path.field-0.0 here c.in_err-read_one_path.ensures c.loop-value.invariant)

pub loop-value-preserved : goal.loop-value-preserved
loop-value-preserved c =
    let here = value_here c.args.values.now c.loop-value.value-index c.value-item.result c.loop-value-test.true c.value-item.is in
    let found = ok_found ((text_in path) (view c.value-item.result)) c.in_ok-read_one_path.field-0 c.in_ok-read_one_path.ensures in
    subst (λ (xs : List _). ListedFrom (text_in path) c.args.values.now xs (c.loop-value.value-index + 1)) (sym c.in_ok-push.ensures.ok)
    (list_goes_on (text_in path) c.args.values.now c.loop-value.items c.loop-value.value-index c.value-item.result c.in_ok-read_one_path.field-0
    here found c.loop-value.invariant)

pub returns : goal.returns
returns c = list_ok (text_in path) c.args.values.now c.loop-value.items c.loop-value.value-index c.loop-value-test.false c.loop-value.invariant

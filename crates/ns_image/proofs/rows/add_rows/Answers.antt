use Rattle.std.proofs.lemmas.Result.{err_from_is_err_and}
use Rattle.ns_image.proofs.Stepping.{amid_first, amid_room, amid_next, amid_last, amid_fails}
use Rattle.ns_image.proofs.rows.add_rows.Goals as goal

pub loop-init : goal.loop-init
loop-init g c = amid_first g.S.RowSink.has_taken c.args.count c.args.sink.now c.args.root.now c.args.bytes.now c.requires

pub add_row-requires : goal.add_row-requires
add_row-requires g c =
    amid_room g.S.RowSink.has_taken c.args.count c.loop.counter c.args.sink.now c.loop.sink c.args.root.now c.args.bytes.now c.loop.last.now
    c.loop.directory c.loop.rest.now c.loop-test.true c.loop.invariant

pub returns-in_err-path : goal.returns-in_err-path
returns-in_err-path g c rows taken at =
    let p = err_from_is_err_and c.from_residual.result c.from_residual.ensures.1 in
    rw (p.1, p.2)
    (amid_fails g.S.RowSink.has_taken c.args.count c.loop.counter c.args.sink.now c.loop.sink c.args.root.now c.args.bytes.now c.loop.last.now c.loop.directory c.loop.rest.now c.in_err-path.field-0.0
    c.loop-test.true c.loop.invariant c.in_err-path.ensures rows taken at)

pub loop-preserved : goal.loop-preserved
loop-preserved g c =
    amid_next g.S.RowSink.has_taken c.args.count c.loop.counter c.args.sink.now c.loop.sink c.add_row.new.sink c.args.root.now c.args.bytes.now c.loop.last.now c.loop.directory c.loop.rest.now
    c.in_ok-path.path.now c.in_ok-path.kind c.in_ok-path.left.now c.loop-test.true c.loop.invariant c.in_ok-path.ensures

pub returns : goal.returns
returns g c rows taken at =
    amid_last g.S.RowSink.has_taken c.args.count c.loop.counter c.args.sink.now c.loop.sink c.args.root.now c.args.bytes.now c.loop.last.now
    c.loop.directory c.loop.rest.now c.loop-test.false c.loop.invariant
    rows taken at

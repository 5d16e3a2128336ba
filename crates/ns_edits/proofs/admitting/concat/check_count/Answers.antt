use Rattle.std.proofs.Common.{◌<◌, length, arith, rules}
use Rattle.ns_edits.proofs.Sources.{count_over, count_left}
use Rattle.ns_edits.proofs.admitting.concat.check_count.Goals as goal

pub returns-in_err-room-2 : goal.returns-in_err-room-2
returns-in_err-room-2 c =
    let within : c.loop-source.source-index < length c.args.sources.now = omega arith in
    let refusal = count_over c.args.target.now c.args.sources.now c.args.namespace.now.pairs c.loop-source.source-index c.loop-source.room
    c.source-item.result c.in_err-room-2.field-0.0 within c.source-item.is c.loop-source.invariant (search rules) in
    search (rules, refusal)

pub loop-source-preserved : goal.loop-source-preserved
loop-source-preserved c =
    let within : c.loop-source.source-index < length c.args.sources.now = omega arith in
    count_left c.args.target.now c.args.sources.now c.args.namespace.now.pairs c.loop-source.source-index c.loop-source.room c.in_ok-room-2.room
    c.source-item.result within c.source-item.is c.loop-source.invariant (search rules)

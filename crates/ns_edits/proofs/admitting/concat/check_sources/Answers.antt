use Rattle.std.proofs.Common.{◌<◌, length, arith, rules}
use Rattle.ns_edits.proofs.Sources.{source_step, refused_at, passed_at}
use Rattle.ns_edits.proofs.admitting.concat.check_sources.Goals as goal

pub returns-in_err-check_source : goal.returns-in_err-check_source
returns-in_err-check_source c =
    let within : c.loop-i.i < length c.args.sources.now = omega arith in
    let step = source_step c.args.target.now c.args.sources.now c.args.namespace.now.pairs c.loop-i.i c.index-sources-i.result within c.index-sources-i.is in
    let refusal = refused_at c.in_err-check_source.field-0.0 _ _ _ _ c.loop-i.invariant step (search rules) in
    search (rules, refusal)

pub loop-i-preserved : goal.loop-i-preserved
loop-i-preserved c =
    let within : c.loop-i.i < length c.args.sources.now = omega arith in
    let step = source_step c.args.target.now c.args.sources.now c.args.namespace.now.pairs c.loop-i.i c.index-sources-i.result within c.index-sources-i.is in
    passed_at _ _ _ _ c.loop-i.invariant step (search rules)

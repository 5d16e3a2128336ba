use Rattle.std.proofs.Common.{refl}
use Rattle.std.proofs.lemmas.Result.{err_from_is_err_and}
use Rattle.std.proofs.lemmas.List.{get_or-replicate}
use Rattle.list_oev.specs.Counts.{statistics}
use Rattle.list_oev.proofs.SoFar.{counts_begun, counted_itself, goes_on_less, counts_whole, counts_one, counts_read, counted_told}
use Rattle.list_oev.proofs.tools.statistics_of.Goals as goal

pub loop-init : goal.loop-init
loop-init c = counts_begun c.args.edits.bytes c.args.edits _ 0 c.requires (λ code lt. get_or-replicate 128 code 0 0 lt) refl

pub count_next-requires : goal.count_next-requires
count_next-requires c = counted_itself c.args.edits.bytes c.loop.edits c.loop.counts c.loop.total c.loop.invariant

pub returns-in_err-count_next : goal.returns-in_err-count_next
returns-in_err-count_next c =
    let p = err_from_is_err_and c.from_residual.result c.from_residual.ensures.1 in
    rw (p.1, p.2)
    (counts_read (λ start. statistics) c.args.edits.bytes c.loop.edits c.count_next.new.edits c.count_next.new.counts c.count_next.new.total c.in_err-count_next.field-0.0
    (c.in_err-count_next.ensures c.args.edits.bytes c.loop.invariant))

pub loop-smaller : goal.loop-smaller
loop-smaller c =
    goes_on_less c.loop.edits c.count_next.new.edits
    (counts_one c.args.edits.bytes c.loop.edits c.count_next.new.edits c.count_next.new.counts c.count_next.new.total c.in_ok-count_next.field-0 (cc)
    (c.in_ok-count_next.ensures c.args.edits.bytes c.loop.invariant)).on

pub loop-preserved : goal.loop-preserved
loop-preserved c =
    (counts_one c.args.edits.bytes c.loop.edits c.count_next.new.edits c.count_next.new.counts c.count_next.new.total c.in_ok-count_next.field-0 (cc)
    (c.in_ok-count_next.ensures c.args.edits.bytes c.loop.invariant)).so_far

pub returns-in_err-put_statistics : goal.returns-in_err-put_statistics
returns-in_err-put_statistics c =
    let p = err_from_is_err_and c.from_residual-in_err-put_statistics.result c.from_residual-in_err-put_statistics.ensures.1 in
    rw (p.1, p.2) tt

pub returns : goal.returns
returns c =
    counted_told c.args.edits.bytes c.count_next.new.counts c.count_next.new.total c.put_statistics.new.out.items _
    (counts_whole c.args.edits.bytes c.loop.edits c.count_next.new.edits c.count_next.new.counts c.count_next.new.total c.in_ok-count_next.field-0 (cc)
    (c.in_ok-count_next.ensures c.args.edits.bytes c.loop.invariant))
    c.in_ok-put_statistics.ensures (cc)

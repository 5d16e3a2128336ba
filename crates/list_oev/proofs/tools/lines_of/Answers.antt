use Rattle.std.proofs.lemmas.Result.{err_from_is_err_and}
use Rattle.list_oev.specs.Lines.{lines}
use Rattle.list_oev.proofs.SoFar.{begun, goes_on_less, lists_whole, lists_line, lists_read}
use Rattle.list_oev.proofs.tools.lines_of.Goals as goal

pub loop-out-init : goal.loop-out-init
loop-out-init c = begun lines c.args.edits.bytes c.args.edits _ c.requires (cc)

pub returns-in_err-put_next : goal.returns-in_err-put_next
returns-in_err-put_next c =
    let p = err_from_is_err_and c.from_residual.result c.from_residual.ensures.1 in
    rw (p.1, p.2) (lists_read lines lines c.args.edits.bytes c.loop-out.edits c.put_next.new.edits c.put_next.new.out.items
    c.in_err-put_next.field-0.0 (c.in_err-put_next.ensures c.args.edits.bytes c.loop-out.invariant))

pub loop-out-smaller : goal.loop-out-smaller
loop-out-smaller c =
    goes_on_less c.loop-out.edits c.put_next.new.edits
    (lists_line lines c.args.edits.bytes c.loop-out.edits c.put_next.new.edits c.put_next.new.out.items c.in_ok-put_next.field-0 (cc)
    (c.in_ok-put_next.ensures c.args.edits.bytes c.loop-out.invariant)).on

pub loop-out-preserved : goal.loop-out-preserved
loop-out-preserved c =
    (lists_line lines c.args.edits.bytes c.loop-out.edits c.put_next.new.edits c.put_next.new.out.items c.in_ok-put_next.field-0 (cc)
    (c.in_ok-put_next.ensures c.args.edits.bytes c.loop-out.invariant)).so_far

pub returns : goal.returns
returns c =
    lists_whole lines c.args.edits.bytes c.loop-out.edits c.put_next.new.edits c.put_next.new.out.items c.in_ok-put_next.field-0 (cc) (c.in_ok-put_next.ensures c.args.edits.bytes c.loop-out.invariant)

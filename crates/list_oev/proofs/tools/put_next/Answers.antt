use Rattle.std.proofs.lemmas.Result.{err_from_is_err_and}
use Rattle.list_oev.specs.Lines.{line, lines}
use Rattle.list_oev.proofs.ListLaws.{lines_push}
use Rattle.list_oev.proofs.SoFar.{lists_more, lists_all, lists_fault}
use Rattle.list_oev.proofs.tools.put_next.Goals as goal

pub returns-in_err-txid : goal.returns-in_err-txid
returns-in_err-txid c bytes h =
    let p = err_from_is_err_and c.from_residual.result c.from_residual.ensures.1 in
    rw (p.1, p.2) (lists_fault lines bytes c.args.edits.now c.next.new.self c.args.out.now.items c.args.out.now.items h c.in_err-txid.field-0.0 (c.in_err-txid.ensures h.start h.edits h.at))

pub returns-in_err-put_owned_line-in-Some : goal.returns-in_err-put_owned_line-in-Some
returns-in_err-put_owned_line-in-Some c bytes h =
    let p = err_from_is_err_and c.from_residual-in_err-put_owned_line-in-Some.result c.from_residual-in_err-put_owned_line-in-Some.ensures.1 in
    rw (p.1, p.2) tt

pub returns-in_ok-put_owned_line-in-Some : goal.returns-in_ok-put_owned_line-in-Some
returns-in_ok-put_owned_line-in-Some c bytes h =
    lists_more lines line lines_push bytes c.args.edits.now c.next.new.self c.args.out.now.items h c.in_ok-txid.field-0 c.in-Some.txid c.in-Some.edit
    c.in-Some.is (c.in_ok-txid.ensures h.start h.edits h.at)
    c.put_owned_line.new.out.items c.in_ok-put_owned_line-in-Some.ensures

pub returns-in-None : goal.returns-in-None
returns-in-None c bytes h = lists_all lines bytes c.args.edits.now c.next.new.self c.args.out.now.items h c.in_ok-txid.field-0 c.in-None.is (c.in_ok-txid.ensures h.start h.edits h.at)

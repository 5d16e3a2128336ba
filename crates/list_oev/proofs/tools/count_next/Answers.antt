use Rattle.std.proofs.Common.{arith, refl}
use Rattle.std.proofs.lemmas.Result.{err_from_is_err_and}
use Rattle.list_oev.proofs.ListLaws.{count_room}
use Rattle.list_oev.proofs.SoFar.{counts_more, counts_all, counts_fault, few}
use Rattle.list_oev.proofs.tools.count_next.Goals as goal

pub count_owned-requires : goal.count_owned-requires
count_owned-requires c =
    let h = c.requires in
    count_room c.args.counts.now h.edits c.in-Some.edit h.are
    (few h.start h.edits c.args.edits.now c.next.new.self c.in_ok-edit.field-0 _ c.in-Some.edit c.in-Some.is (c.in_ok-edit.ensures h.start h.edits h.at))

pub overflow_add-total : goal.overflow_add-total
overflow_add-total c =
    let h = c.requires in
    omega (arith, h.total_is, few h.start h.edits c.args.edits.now c.next.new.self c.in_ok-edit.field-0 _ c.in-Some.edit c.in-Some.is (c.in_ok-edit.ensures h.start h.edits h.at))

pub returns-in_err-edit : goal.returns-in_err-edit
returns-in_err-edit c bytes h =
    let p = err_from_is_err_and c.from_residual.result c.from_residual.ensures.1 in
    rw (p.1, p.2) (counts_fault bytes c.args.edits.now c.next.new.self c.args.counts.now c.args.counts.now c.args.total.now c.args.total.now h
    c.in_err-edit.field-0.0 (c.in_err-edit.ensures h.start h.edits h.at))

pub returns-in-Some : goal.returns-in-Some
returns-in-Some c bytes h =
    counts_more bytes c.args.edits.now c.next.new.self c.args.counts.now c.args.total.now h c.in_ok-edit.field-0 _ c.in-Some.edit c.in-Some.is (c.in_ok-edit.ensures h.start h.edits h.at)
    c.count_owned.new.counts (c.count_owned.ensures h.edits h.are) _ refl

pub returns-in-None : goal.returns-in-None
returns-in-None c bytes h = counts_all bytes c.args.edits.now c.next.new.self c.args.counts.now c.args.total.now h c.in_ok-edit.field-0 c.in-None.is (c.in_ok-edit.ensures h.start h.edits h.at)

use Rattle.std.proofs.Common.{ℕ}
use Rattle.std.proofs.lemmas.Result.{err_from_is_err_and}
use Rattle.json.specs.Tree.{json_tokens}
use Rattle.edit_ops.specs.Records.{EditView}
use Rattle.list_oev.specs.Entries.{entry, entry_tokens}
use Rattle.list_oev.proofs.SoFar.{lists_more, lists_all, lists_fault, told_sound}
use Rattle.list_oev.proofs.EntryLaws.{tokens_push}
use Rattle.list_oev.proofs.tools.put_next_entry.Goals as goal

pub put_owned_entry-requires : goal.put_owned_entry-requires
put_owned_entry-requires c =
    let h = c.requires in
    told_sound h.start h.edits c.args.edits.now c.next.new.self c.in_ok-txid.field-0 c.in-Some.txid c.in-Some.edit c.in-Some.is (c.in_ok-txid.ensures h.start h.edits h.at)

pub returns-in_err-txid-clause-lists : goal.returns-in_err-txid-clause-lists
returns-in_err-txid-clause-lists c bytes h =
    let p = err_from_is_err_and c.from_residual.result c.from_residual.ensures.1 in
    rw (p.1, p.2) (lists_fault entry_tokens bytes c.args.edits.now c.next.new.self c.args.writer.now.tokens c.args.writer.now.tokens h
    c.in_err-txid.field-0.0 (c.in_err-txid.ensures h.start h.edits h.at))

pub returns-in_ok-put_owned_entry-in-Some-clause-lists : goal.returns-in_ok-put_owned_entry-in-Some-clause-lists
returns-in_ok-put_owned_entry-in-Some-clause-lists c bytes h =
    lists_more entry_tokens (λ (txid : ℕ) (edit : EditView). json_tokens (entry txid edit)) tokens_push bytes c.args.edits.now c.next.new.self
    c.args.writer.now.tokens h c.in_ok-txid.field-0 c.in-Some.txid c.in-Some.edit
    c.in-Some.is (c.in_ok-txid.ensures h.start h.edits h.at) c.put_owned_entry.new.writer.tokens c.in_ok-put_owned_entry-in-Some.ensures.0

pub returns-in-None-clause-lists : goal.returns-in-None-clause-lists
returns-in-None-clause-lists c bytes h =
    lists_all entry_tokens bytes c.args.edits.now c.next.new.self c.args.writer.now.tokens h c.in_ok-txid.field-0 c.in-None.is (c.in_ok-txid.ensures h.start h.edits h.at)

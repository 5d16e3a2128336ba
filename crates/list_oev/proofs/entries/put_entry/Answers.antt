use Rattle.std.proofs.Common.{sym, subst}
use Rattle.json.specs.Tree.{json_tokens}
use Rattle.list_text.specs.Written.{Adds}
use Rattle.edit_ops.specs.Records.{EditView}
use Rattle.edit_ops.specs.Grammar.{IsEdit}
use Rattle.list_oev.specs.Entries.{entry}
use Rattle.list_oev.proofs.EntryLaws.{edit_ascii, entry_added}
use Rattle.list_oev.proofs.entries.put_entry.Goals as goal

pub put_late-requires : goal.put_late-requires
put_late-requires c = edit_ascii c.args.txid (record { op = c.edit.inside.op; call = c.edit.inside.call }) (subst IsEdit (sym c.edit.view_is) c.requires)

pub returns : goal.returns
returns c =
    let added = entry_added c.close_object.result c.args.writer.now c.open_object.new.writer c.put_early.new.writer c.put_caller.new.writer c.put_late.new.writer c.close_object.new.writer c.args.txid
    (record { op = c.edit.inside.op; call = c.edit.inside.call })
    c.in_ok-open_object.ensures c.in_ok-put_early.ensures c.in_ok-put_caller.ensures c.in_ok-put_late.ensures c.close_object.ensures in
    subst (λ (e : EditView). Adds c.close_object.result c.args.writer.now c.close_object.new.writer (json_tokens (entry c.args.txid e))) c.edit.view_is added

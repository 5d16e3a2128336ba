use Rattle.std.proofs.Common.{◌∙◌}
use Rattle.std.proofs.lemmas.Result.{err_from_is_err_and}
use Rattle.list_oev.specs.Entries.{entry_tokens, entry_lines}
use Rattle.list_oev.proofs.SoFar.{begun, listed_itself, goes_on_less, lists_whole, lists_line, lists_read}
use Rattle.list_oev.proofs.EntryLaws.{told_entries}
use Rattle.list_oev.proofs.tools.entries_of.Goals as goal

pub loop-writer-init : goal.loop-writer-init
loop-writer-init c = record { listed = begun entry_tokens c.args.edits.bytes c.args.edits _ c.requires c.in_ok-writer.ensures.tokens; before = c.in_ok-writer.ensures.before }

pub put_next_entry-requires : goal.put_next_entry-requires
put_next_entry-requires c = listed_itself entry_tokens c.args.edits.bytes c.loop-writer.edits c.loop-writer.writer.tokens c.loop-writer.invariant.listed

pub returns-in_err-put_next_entry : goal.returns-in_err-put_next_entry
returns-in_err-put_next_entry c =
    let p = err_from_is_err_and c.from_residual-in_err-put_next_entry.result c.from_residual-in_err-put_next_entry.ensures.1 in
    rw (p.1, p.2) (lists_read entry_tokens entry_lines c.args.edits.bytes c.loop-writer.edits c.put_next_entry.new.edits c.put_next_entry.new.writer.tokens c.in_err-put_next_entry.field-0.0
    (c.in_err-put_next_entry.ensures.lists c.args.edits.bytes c.loop-writer.invariant.listed))

pub loop-writer-smaller : goal.loop-writer-smaller
loop-writer-smaller c =
    goes_on_less c.loop-writer.edits c.put_next_entry.new.edits
    (lists_line entry_tokens c.args.edits.bytes c.loop-writer.edits c.put_next_entry.new.edits c.put_next_entry.new.writer.tokens c.in_ok-put_next_entry.field-0 (cc)
    (c.in_ok-put_next_entry.ensures.lists c.args.edits.bytes c.loop-writer.invariant.listed)).on

pub loop-writer-preserved : goal.loop-writer-preserved
loop-writer-preserved c = record {
  listed = (lists_line entry_tokens c.args.edits.bytes c.loop-writer.edits c.put_next_entry.new.edits c.put_next_entry.new.writer.tokens c.in_ok-put_next_entry.field-0 (cc)
      (c.in_ok-put_next_entry.ensures.lists c.args.edits.bytes c.loop-writer.invariant.listed)).so_far;
  before = c.in_ok-put_next_entry.ensures.before ∙ c.loop-writer.invariant.before;
}

pub returns : goal.returns
returns c =
    told_entries c.args.edits.bytes c.put_next_entry.new.writer.tokens c.in_ok-text.text.items
    (lists_whole entry_tokens c.args.edits.bytes c.loop-writer.edits c.put_next_entry.new.edits c.put_next_entry.new.writer.tokens c.in_ok-put_next_entry.field-0 (cc)
    (c.in_ok-put_next_entry.ensures.lists c.args.edits.bytes c.loop-writer.invariant.listed))
    c.in_ok-text.ensures

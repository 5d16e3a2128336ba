use Rattle.std.proofs.Common.{arith}
use Rattle.play_script.proofs.PushLaws.{edit_more}
use Rattle.play_script.proofs.print.push_others.Goals as goal

pub loop-edit-preserved : goal.loop-edit-preserved
loop-edit-preserved c =
    edit_more c.args.out.now.items c.loop-edit.out.items c.extend_from_slice.new.self.items c.edit_text.new.out.items c.args.edits.now
    c.loop-edit.edit-index c.edit-item.result c.edit-item.result (omega arith)
    c.loop-edit.invariant c.edit-item.is c.in_ok-extend_from_slice.ensures.items c.in_ok-edit_text.ensures.ok

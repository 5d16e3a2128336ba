use Rattle.std.proofs.Common.{codes}
use Rattle.play_script.specs.Edits.{edits_text}
use Rattle.play_script.proofs.PushLaws.{text_more}
use Rattle.play_script.proofs.print.push_submits.Goals as goal

pub returns : goal.returns
returns c =
    let text = c.as_slice.ensures in
    rw (
      text,
      text_more c.args.out.now.items c.push_named.new.out.items c.push.new.self.items (codes "log") c.args.name.now
          (edits_text c.args.edits.now) c.in_ok-push_named.ensures c.in_ok-push.ensures.items,
    ) at c.push_edits.ensures

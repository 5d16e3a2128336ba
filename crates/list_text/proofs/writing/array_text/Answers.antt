use Rattle.list_text.proofs.Trees.{line_made}
use Rattle.list_text.proofs.writing.array_text.Goals as goal

pub returns : goal.returns
returns c items h =
    line_made c.args.writer c.close_array.new.writer c.into_inner-text.result.items c.push.new.self.items items c.requires h c.in_ok-close_array.ensures c.into_inner-text.ensures.items
    c.in_ok-push.ensures.items

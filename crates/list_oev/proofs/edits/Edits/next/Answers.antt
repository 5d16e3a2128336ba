use Rattle.list_oev.proofs.NextLaws.{tells_here, tells_after}
use Rattle.list_oev.proofs.edits.Edits.next.Goals as goal

pub returns-in-Some : goal.returns-in-Some
returns-in-Some c start edits = tells_here start edits c.args.self.now c.next_entry.new.self _ c.told_by.result c.in-Some.ensures.gives c.in-Some.ensures.same c.told_by.ensures

pub returns-in-None : goal.returns-in-None
returns-in-None c start edits = tells_after start edits c.args.self.now c.next_entry.new.self c.next_frame.new.self c.next_frame.result c.in-None.ensures.gives.0 c.in-None.ensures.gives.1
    c.in-None.ensures.same (c.next_frame.ensures start edits)

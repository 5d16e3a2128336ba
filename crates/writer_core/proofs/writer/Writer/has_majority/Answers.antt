use Rattle.std.proofs.Common.{◌∙◌}
use Rattle.writer_core.proofs.Judging.{majority_alike}
use Rattle.writer_core.proofs.writer.Writer.has_majority.Goals as goal

pub returns : goal.returns
returns c =
    let m = rw c.deref.ensures.value at c.has_majority.ensures in
    rw (← c.self.view_is) (rw c.in-Round.is (m ∙ majority_alike c.in-Round.kind c.self.inside.pieces.bodies c.self.inside.slots.items))

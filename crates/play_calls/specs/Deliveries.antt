-- How a call goes, by its caller's marks, and what the caller is told of it.
use Rattle.std.specs.Prelude.{ℕ, Bool, true, false, List, if◌then◌else◌}
use Rattle.journal_history.specs.declared.node_ask.NodeAnswer.{NodeAnswer}
use Rattle.journal_history.specs.declared.node_ask.NodeAnswer.TheVariants.{Replied, Done}
use Rattle.journal_history.specs.declared.record.Told.{Told}
use Rattle.journal_history.specs.declared.record.Told.TheVariants as told
use Rattle.journal_history.specs.declared.mark.Mark.{Mark}
use Rattle.journal_history.specs.declared.mark.MarkKind.TheVariants as kind
use Rattle.mesh.specs.Marks.{is_marked}
pub use Rattle.play_calls.specs.declared.delivery.Delivery.{Delivery}
pub use Rattle.play_calls.specs.declared.delivery.Delivery.TheVariants.{Delivered, ReplyLost, NotDelivered}

-- a call that is marked twice is dropped
unfoldable pub delivery : List Mark → ℕ → ℕ → Delivery
delivery marks node number =
    if is_marked marks node number kind.Dropped then NotDelivered
    else if is_marked marks node number kind.Muted then ReplyLost
    else Delivered

unfoldable pub told_of : Delivery → NodeAnswer → Told
told_of NotDelivered answer = told.Dropped
told_of ReplyLost answer = told.Muted
told_of Delivered (Replied reply) = told.Reply reply
told_of Delivered _ = told.Silent

-- the kill, the restart or the arming took place
unfoldable pub is_done : NodeAnswer → Bool
is_done Done = true
is_done _ = false

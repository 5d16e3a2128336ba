use Rattle.std.proofs.Common.{subst, Option, Some, true}
use Rattle.base_disk.specs.MemDisk.{disk_view}
use Rattle.base_disk.specs.TimelineLaws.{is_sound}
use Rattle.journal_core.specs.declared.node_state.NodeState.{NodeState}
use Rattle.journal_core.specs.Cuts.{Cuts}
use Rattle.disk_node.specs.FileState.{state_of}
use Rattle.disk_node.specs.Cutting.{state_in}
use Rattle.disk_node.proofs.NodeStands.{told_both}
use Rattle.disk_node.proofs.cutting.JournalNode+MemDisk.act_cut.Goals as goal

pub returns-clause-cut : goal.returns-clause-cut
returns-clause-cut c =
    let d0 = c.self.inside.disk in
    let d1 = c.cut_in.new.disk in
    subst (λ p. Cuts (Some (state_in p)) c.args.request.now c.args.calls c.args.cut c.cut_in.result (Some (state_of
    (disk_view d1).seen c.cut_in.new.memory.numbers c.cut_in.new.memory.table))) c.self.view_is
    (told_both {A = Unit {0}} {B = Unit {0}} true true (λ (x y : Option NodeState). Cuts x c.args.request.now c.args.calls c.args.cut c.cut_in.result y) tt (λ t. tt, λ t. tt)
    (λ t. tt, λ t. tt) (λ t. t, λ t. t)
    c.self.invariant.node c.cut_in.ensures.node (λ t. (is_sound d0.past.items d0.files).seen_now) (λ t. (is_sound d1.past.items d1.files).seen_now)
    (λ t s has. c.cut_in.ensures.cut s has))

use Rattle.std.proofs.Common.{◌≡◌, List, drop}
use Rattle.journal_core.specs.declared.node_state.NodeState.{NodeState}
use Rattle.journal_core.specs.Effects.{after_effects}
use Rattle.disk_segment.specs.declared.segment_row.SegmentRow.{SegmentRow}
use Rattle.disk_effects.specs.Due.{AreDue}
use Rattle.disk_recent.specs.Recent.{IsRecent, cached_then}
use Rattle.disk_node.specs.Done.{effects_by}
use Rattle.disk_node.proofs.Followed.{IsFollowed}
use Rattle.disk_node.proofs.following.follow_effects.Given as goal

-- the effects from the loop's place on are left
abbrev pub invariant-loop-effect : goal.invariant-loop-effect
invariant-loop-effect l = record {
  start : cached_then l.fn.recent.start (effects_by l.request l.effects) ≡ cached_then l.recent.start (effects_by l.request (drop l.effect-index l.effects));
  held : (s : NodeState) (rows : List SegmentRow) → AreDue s.segments rows l.request l.effects → IsRecent l.fn.recent s.segments
      → IsFollowed l.request l.recent (drop l.effect-index l.effects) (after_effects s (effects_by l.request l.effects));
}

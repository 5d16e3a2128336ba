-- What is decided by the rows of a table.
use Rattle.std.specs.Prelude.{◌≤◌, ◌<◌, List, [], ◌∷◌, Option, Some, None, if◌then◌else◌, nat_lt}
use Rattle.journal_core.specs.Views.{HeadView}
use Rattle.journal_core.specs.declared.node_state.NodeState.{NodeState}
use Rattle.journal_core.specs.declared.request.Request.{Request}
use Rattle.journal_core.specs.Limits.{max_number}
use Rattle.disk_segment.specs.declared.segment_row.SegmentRow.{SegmentRow}
use Rattle.disk_segment.specs.Rows.{row_has_edit}
use Rattle.disk_effects.specs.declared.effect_list.EffectList.{EffectList}
use Rattle.disk_effects.specs.declared.effect_list.EffectList.TheVariants as list
use Rattle.journal_step.specs.declared.segment_index.IndexedSegment.{IndexedSegment}
use Rattle.journal_step.specs.Durable.{batch_of}
use Rattle.journal_step.specs.declared.durable_effect.DurableEffect.{DurableEffect}
use Rattle.journal_step.specs.declared.durable_effect.DurableEffect.TheVariants as durable

-- a row as an index has it: nothing can be appended to a final segment
abbrev pub entry_of : SegmentRow → IndexedSegment
entry_of row = record { info = row.info; has_edit = row_has_edit row; place = if row.info.is_final then max_number else row.whole_length }

-- the effects of a list
abbrev pub effects_in : EffectList → List DurableEffect
effects_in list.None = []
effects_in (list.One effects) = effects
effects_in (list.Many effects) = effects.items

-- it can stand in a file
abbrev pub CanStand : Request → DurableEffect → Type 0
CanStand r (durable.NewSegment start epoch) = (1 ≤ start) × (1 ≤ epoch)
CanStand r (durable.Append start at) = at < max_number
CanStand r (durable.Replace epoch again) = (1 ≤ (batch_of r).first) × (1 ≤ epoch)
CanStand r _ = Unit {0}

abbrev pub EachCanStand : Request → List DurableEffect → Type 0
EachCanStand r [] = Unit {0}
EachCanStand r (e ∷ es) = CanStand r e × EachCanStand r es

-- the front's effect
abbrev pub front_effect : NodeState → Option HeadView → Option DurableEffect
front_effect m None = None
front_effect m (Some h) = if nat_lt m.promised h.epoch then Some (durable.Promise h.epoch) else None

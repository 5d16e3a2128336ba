-- What a durable effect as data means: the effect that it is, and the disk calls that it has.
use Rattle.std.specs.Prelude.{Bool, true, false, List, [], map}
use Rattle.journal_core.specs.Views.{BatchView}
use Rattle.journal_core.specs.declared.cut.Cut.{Cut}
use Rattle.journal_core.specs.declared.request.Request.{Request}
use Rattle.journal_core.specs.declared.request.Request.TheVariants.{Journal, Accept}
use Rattle.journal_core.specs.Effects.{Effect}
use Rattle.journal_core.specs.Effects as effect
use Rattle.journal_core.specs.Cuts.{Cost, number_cost, segment_cost, append_cost, accept_cost, name_cost}
use Rattle.journal_step.specs.declared.durable_effect.DurableEffect.{DurableEffect}
use Rattle.journal_step.specs.declared.durable_effect.DurableEffect.TheVariants as durable

-- the batch of a request that has one
abbrev pub batch_of : Request → BatchView
batch_of (Journal head start batch) = batch
batch_of (Accept head batch) = batch
batch_of _ = record { first = 0; bodies = [] }

abbrev pub HasBatch : Request → Type 0
HasBatch (Journal head start batch) = Unit {0}
HasBatch (Accept head batch) = Unit {0}
HasBatch _ = ⊥

abbrev pub effect_of : Request → DurableEffect → Effect
effect_of r (durable.Promise epoch) = effect.Promise epoch
effect_of r (durable.WriterEpoch epoch) = effect.WriterEpoch epoch
effect_of r (durable.Commit txid) = effect.Commit txid
effect_of r (durable.NewSegment start epoch) = effect.NewSegment start epoch
effect_of r (durable.Append start at) = effect.Append start (batch_of r).bodies
effect_of r (durable.Replace epoch again) = effect.Replace epoch (batch_of r)
effect_of r (durable.MakeFinal start end accepted) = effect.MakeFinal start
effect_of r (durable.Remove info) = effect.Remove info.start

abbrev pub effects_by : Request → List DurableEffect → List Effect
effects_by r es = map (effect_of r) es

-- it may put a segment that isn't there
abbrev pub puts_row : DurableEffect → Bool
puts_row (durable.Promise epoch) = false
puts_row (durable.WriterEpoch epoch) = false
puts_row (durable.Commit txid) = false
puts_row (durable.NewSegment start epoch) = true
puts_row (durable.Append start at) = false
puts_row (durable.Replace epoch again) = true
puts_row (durable.MakeFinal start end accepted) = false
puts_row (durable.Remove info) = false

-- its disk calls, by what it tells of the segments
abbrev pub effect_cost : Cut → DurableEffect → Cost
effect_cost cut (durable.Promise epoch) = number_cost
effect_cost cut (durable.WriterEpoch epoch) = number_cost
effect_cost cut (durable.Commit txid) = number_cost
effect_cost cut (durable.NewSegment start epoch) = segment_cost
effect_cost cut (durable.Append start at) = append_cost cut
effect_cost cut (durable.Replace epoch again) = accept_cost again
effect_cost cut (durable.MakeFinal start end accepted) = name_cost accepted
effect_cost cut (durable.Remove info) = name_cost info.accepted

-- in memory it takes memory
abbrev pub takes_memory : DurableEffect → Bool
takes_memory (durable.Promise epoch) = false
takes_memory (durable.WriterEpoch epoch) = false
takes_memory (durable.Commit txid) = false
takes_memory (durable.NewSegment start epoch) = true
takes_memory (durable.Append start at) = true
takes_memory (durable.Replace epoch again) = true
takes_memory (durable.MakeFinal start end accepted) = false
takes_memory (durable.Remove info) = false

abbrev pub changes_segments : DurableEffect → Bool
changes_segments (durable.Promise epoch) = false
changes_segments (durable.WriterEpoch epoch) = false
changes_segments (durable.Commit txid) = false
changes_segments _ = true

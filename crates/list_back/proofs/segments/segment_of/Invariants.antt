use Rattle.std.proofs.Common.{◌≡◌, map, take}
use Rattle.serde_json.specs.View.{view}
use Rattle.list_back.specs.Writing.{HasRoom}
use Rattle.list_back.proofs.SoFar.{IsMadeSoFar}
use Rattle.list_back.proofs.segments.segment_of.Given as goal

-- the values so far are entries, and their bodies were written
abbrev pub invariant-loop-value : goal.invariant-loop-value
invariant-loop-value l = record {
  room : HasRoom l.writer;
  at : l.index ≡ l.value-index;
  made : IsMadeSoFar l.start l.epoch (map view (take l.value-index l.values)) l.writer;
}

-- What the begin of a segment asks and keeps.
use Rattle.std.proofs.Common.{ℕ, [], ◌∷◌, ◌∙◌, refl, ◌^◌, ◌≤◌}
use Rattle.std.specs.Prelude.{Result, OnOk}
use Rattle.base_disk.specs.View.{View, IsSound}
use Rattle.journal_core.specs.declared.node_state.NodeState.{NodeState}
use Rattle.journal_core.specs.Segments.{put_segment}
use Rattle.journal_core.specs.Effects.{empty_segment}
use Rattle.disk_segment.specs.Names.{InProgress, Record, Fresh, FreshRecord, name_of}
use Rattle.disk_segment.specs.Effects.{IsOutside, Touches}
use Rattle.disk_segment.specs.Calls.{CanCreate}
use Rattle.disk_segment.proofs.EffectLaws.{none_is_not}
use Rattle.disk_files.specs.Durable.{HoldsState}
use Rattle.disk_files.specs.EffectCalls.{CanBegin}
use Rattle.disk_files.proofs.Names.{fronts_apart}
use Rattle.disk_files.proofs.OneCall.{Kept, kept_put, no_record, other_epoch, on_ok_always}

pub can_create : (start : ℕ) → 1 ≤ start → start ≤ 2 ^ 62 → (v : View) → IsSound v → (s : NodeState) → HoldsState v s → (epoch : ℕ) → CanBegin start s.segments → CanCreate start epoch s.segments v
can_create start first small v sound s holds epoch can = record {
  not_final = can.not_final;
  no_edit = can.no_edit;
  other_epoch = other_epoch start first small v s holds epoch sound (no_record start first small v s holds can.no_edit);
}

-- the files of records stay
record_outside : (start other : ℕ) → IsOutside start (InProgress ∷ Fresh ∷ []) (name_of other Record)
record_outside start other = (fronts_apart other start Record InProgress (λ is. absurd (cc)), (fronts_apart other start Record Fresh (λ is. absurd (cc)), tt))

fresh_outside : (start other : ℕ) → IsOutside start (InProgress ∷ Fresh ∷ []) (name_of other FreshRecord)
fresh_outside start other = (fronts_apart other start FreshRecord InProgress (λ is. absurd (cc)), (fronts_apart other start FreshRecord Fresh (λ is. absurd (cc)), tt))

pub begin_kept : (start epoch : ℕ) → 1 ≤ start → start ≤ 2 ^ 62 → (v0 v1 : View) (s : NodeState) → HoldsState v0 s → CanBegin start s.segments → Touches start (InProgress ∷ Fresh ∷ []) v0 v1
    → {T E : Type 0} (result : Result T E) → OnOk result (Kept v1 (put_segment (empty_segment start epoch) s.segments))
begin_kept start epoch first small v0 v1 s holds can touches result = on_ok_always result (Kept v1 (put_segment (empty_segment start epoch) s.segments))
    (kept_put start first small v0 v1 s holds
    (λ other small_other ne. touches.seen.others (name_of other Record) (record_outside start other))
    (λ other first_other small_other. touches.seen.others (name_of other FreshRecord) (fresh_outside start other) ∙ holds.none_fresh_record other first_other small_other)
    (empty_segment start epoch) refl (λ is. absurd (cc))
    (λ there. absurd (none_is_not (v1.seen (name_of start Record)) (touches.seen.others (name_of start Record) (record_outside start start)
    ∙ no_record start first small v0 s holds can.no_edit) there)))

-- What an append keeps besides the segments.
use Rattle.std.proofs.Common.{◌≡◌, ℕ, [], ◌∷◌, ◌++◌, sym, ◌∙◌, subst, ◌^◌, ◌≤◌}
use Rattle.std.specs.Prelude.{Option, IsSome, Result, OnOk}
use Rattle.base_disk.specs.View.{View}
use Rattle.journal_core.specs.Views.{BatchView}
use Rattle.journal_core.specs.declared.segment.Segment.{Segment}
use Rattle.journal_core.specs.declared.node_state.NodeState.{NodeState}
use Rattle.journal_core.specs.Segments.{find_segment}
use Rattle.journal_core.specs.Effects.{appended}
use Rattle.journal_core.proofs.Stored.{any_body_append}
use Rattle.disk_segment.specs.Names.{InProgress, Record, FreshRecord, name_of}
use Rattle.disk_segment.specs.Effects.{Touches}
use Rattle.disk_segment.specs.Calls.{CanAppend}
use Rattle.disk_files.specs.Durable.{HoldsState}
use Rattle.disk_files.proofs.Names.{fronts_apart}
use Rattle.disk_files.proofs.Lists.{filled_of}
use Rattle.disk_files.proofs.OneCall.{Kept, kept_put, accepted_found, on_ok_always}

pub append_kept : (start at : ℕ) (b : BatchView) → 1 ≤ start → start ≤ 2 ^ 62 → (v0 v1 : View) (s : NodeState) (g : Segment) → HoldsState v0 s
    → CanAppend start at b s.segments v0 g → Touches start (InProgress ∷ []) v0 v1
    → {T E : Type 0} (result : Result T E) → OnOk result (Kept v1 (appended b.bodies (find_segment start s.segments) s.segments))
append_kept start at b first small v0 v1 s g holds can touches result = on_ok_always result (Kept v1 (appended b.bodies (find_segment start s.segments) s.segments))
    (subst (λ (held : Option Segment). Kept v1 (appended b.bodies held s.segments)) (sym can.known)
    (kept_put start first small v0 v1 s holds
    (λ other small_other ne. record_stays other)
    (λ other first_other small_other. touches.seen.others (name_of other FreshRecord)
    (fronts_apart other start FreshRecord InProgress (λ is. absurd (cc)), tt) ∙ holds.none_fresh_record other first_other small_other)
    (record g { bodies = g.bodies ++ b.bodies }) can.start_is
    (λ accepted. any_body_append g.bodies b.bodies (filled_of start s.segments g holds.filled can.known accepted))
    (λ there. accepted_found start first small v0 s holds (subst IsSome (record_stays start) there) g can.known)))
  where
    record_stays : (other : ℕ) → v1.seen (name_of other Record) ≡ v0.seen (name_of other Record)
    record_stays other = touches.seen.others (name_of other Record) (fronts_apart other start Record InProgress (λ is. absurd (cc)), tt)

-- The newest edits in memory follow each effect of a request.
use Rattle.std.proofs.Common.{ℕ, ◌≡◌, ◌≢◌, ◌+◌, Bool, false, List, [], ◌∷◌, length, Option, Some, None, refl, sym, ap, subst, ◌∙◌, arith}
use Rattle.std.proofs.lemmas.Bool.Decides.{nat_tests}
use Rattle.std.proofs.lemmas.List.{append-nil}
use Rattle.std.specs.Prelude.{nat_lt}
use Rattle.std.specs.List.{list_any}
use Rattle.journal_core.specs.Views.{HeadView, BatchView}
use Rattle.journal_core.specs.declared.segment.Segment.{Segment}
use Rattle.journal_core.specs.declared.node_state.NodeState.{NodeState}
use Rattle.journal_core.specs.declared.request.Request.{Request}
use Rattle.journal_core.specs.declared.request.Request.TheVariants.{State, NewEpoch, Start, Journal, Finalize, Prepare, Fetch, Accept, Purge, Read, Manifest}
use Rattle.journal_core.specs.Limits.{limit_of, max_body}
use Rattle.journal_core.specs.declared.segment_info.SegmentInfo.{SegmentInfo}
use Rattle.journal_core.specs.Segments.{find_segment, put_segment}
use Rattle.journal_core.specs.Effects.{appended, empty_segment, accepted_segment, segments_after, after_effect, after_effects}
use Rattle.disk_segment.specs.declared.segment_row.SegmentRow.{SegmentRow}
use Rattle.journal_step.specs.declared.durable_effect.DurableEffect.{DurableEffect}
use Rattle.journal_step.specs.declared.durable_effect.DurableEffect.TheVariants as durable
use Rattle.disk_effects.specs.Due.{batch_of, effect_of, rows_after, IsDue, AreDue}
use Rattle.disk_recent.specs.Edits.{kept_edits}
use Rattle.disk_recent.specs.Recent.{Recent, IsRecent, cached_after, cached_then, most_stored, nothing}
use Rattle.disk_recent.proofs.Following.{appended_to, begun, replaced, removed, finalized_too}
use Rattle.disk_node.specs.Done.{effects_by}

-- ## The batch of a request that passes no limit
journal_short : (h : HeadView) (start : ℕ) (b : BatchView) → limit_of (Journal h start b) ≡ None → list_any (λ body. nat_lt max_body (length body)) b.bodies ≡ false
unfolding limit_of
journal_short h start b none = grind (arith, nat_tests)

accept_short : (h : HeadView) (b : BatchView) → limit_of (Accept h b) ≡ None → list_any (λ body. nat_lt max_body (length body)) b.bodies ≡ false
unfolding limit_of
accept_short h b none = grind (arith, nat_tests)

pub short_bodies : (r : Request) → limit_of r ≡ None → list_any (λ body. nat_lt max_body (length body)) (batch_of r).bodies ≡ false
short_bodies State none = refl
short_bodies (NewEpoch epoch) none = refl
short_bodies (Start h start) none = refl
short_bodies (Journal h start b) none = journal_short h start b none
short_bodies (Finalize h start end) none = refl
short_bodies (Prepare h start) none = refl
short_bodies (Fetch h start from) none = refl
short_bodies (Accept h b) none = accept_short h b none
short_bodies (Purge h least) none = refl
short_bodies (Read from) none = refl
short_bodies Manifest none = refl

-- ## Effects that change no edits
pub promise_held : (recent : Recent) (gs : List Segment) (r : Request) (d : DurableEffect) (epoch : ℕ) → d ≡ durable.Promise epoch
    → IsRecent recent gs → IsRecent recent (segments_after gs (effect_of r d))
promise_held recent gs r d epoch is held = subst (λ (x : DurableEffect). IsRecent recent (segments_after gs (effect_of r x))) (sym is) held

pub writer_held : (recent : Recent) (gs : List Segment) (r : Request) (d : DurableEffect) (epoch : ℕ) → d ≡ durable.WriterEpoch epoch
    → IsRecent recent gs → IsRecent recent (segments_after gs (effect_of r d))
writer_held recent gs r d epoch is held = subst (λ (x : DurableEffect). IsRecent recent (segments_after gs (effect_of r x))) (sym is) held

pub commit_held : (recent : Recent) (gs : List Segment) (r : Request) (d : DurableEffect) (txid : ℕ) → d ≡ durable.Commit txid → IsRecent recent gs
    → IsRecent recent (segments_after gs (effect_of r d))
commit_held recent gs r d txid is held = subst (λ (x : DurableEffect). IsRecent recent (segments_after gs (effect_of r x))) (sym is) held

pub final_held : (recent : Recent) (gs : List Segment) (r : Request) (d : DurableEffect) (start end : ℕ) (accepted : Bool)
    → d ≡ durable.MakeFinal start end accepted → IsRecent recent gs → IsRecent recent (segments_after gs (effect_of r d))
final_held recent gs r d start end accepted is held = subst (λ (x : DurableEffect). IsRecent recent (segments_after gs (effect_of r x))) (sym is) (finalized_too recent gs start held)

-- ## Effects that begin a segment, put one in place of another or remove one
pub begin_held : (new : Recent) (gs : List Segment) (r : Request) (d : DurableEffect) (start epoch : ℕ) → d ≡ durable.NewSegment start epoch
    → (let begun_now : Recent = record { start = Some start; edits = [] } in new ≡ begun_now) → IsRecent new (segments_after gs (effect_of r d))
begin_held new gs r d start epoch is made =
    subst (λ (x : DurableEffect). IsRecent new (segments_after gs (effect_of r x))) (sym is)
    (subst (λ (x : Recent). IsRecent x (put_segment (empty_segment start epoch) gs)) (sym made) (begun start epoch gs))

pub accept_held : (recent new : Recent) (gs : List Segment) (r : Request) (d : DurableEffect) (first epoch : ℕ) (again : Bool) → d ≡ durable.Replace epoch again → first ≡ (batch_of r).first
    → (recent.start ≢ Some first → new ≡ recent) → (recent.start ≡ Some first → new ≡ nothing) → IsRecent recent gs → IsRecent new (segments_after gs (effect_of r d))
accept_held recent new gs r d first epoch again is at same gone held =
    subst (λ (x : DurableEffect). IsRecent new (segments_after gs (effect_of r x))) (sym is)
    (replaced recent new gs (accepted_segment epoch (batch_of r)) (λ other. same (λ e. other (e ∙ ap (λ (n : ℕ). Some n) at))) (λ e. gone (e ∙ ap (λ (n : ℕ). Some n) (sym at))) held)

pub remove_held : (recent new : Recent) (gs : List Segment) (r : Request) (d : DurableEffect) (info : SegmentInfo) → d ≡ durable.Remove info
    → (recent.start ≢ Some info.start → new ≡ recent) → (recent.start ≡ Some info.start → new ≡ nothing) → IsRecent recent gs → IsRecent new (segments_after gs (effect_of r d))
remove_held recent new gs r d info is same gone held = subst (λ (x : DurableEffect). IsRecent new (segments_after gs (effect_of r x))) (sym is) (removed recent new gs info.start same gone held)

-- nothing is appended
pub none_appended : (r : Recent) (gs : List Segment) (start first : ℕ) (g : Segment) (bodies : List (List ℕ)) → bodies ≡ []
    → find_segment start gs ≡ Some g → first ≡ start + length g.bodies → IsRecent r gs → IsRecent r (appended bodies (find_segment start gs) gs)
none_appended r gs start first g bodies none known next recent =
    subst (λ (bs : List (List ℕ)). IsRecent r (appended bs (find_segment start gs) gs)) (sym none)
    (appended_to r r gs start first [] g known next refl (λ other. refl) (λ before is e follows. e ∙ ap (kept_edits most_stored) (sym (append-nil before))) recent)

-- ## One effect after the other
pub cached_goes : (r : Request) (cached new : Option ℕ) (d : DurableEffect) (ds left : List DurableEffect) → ds ≡ d ∷ left
    → new ≡ cached_after cached (effect_of r d) → cached_then cached (effects_by r ds) ≡ cached_then new (effects_by r left)
cached_goes r cached new d ds left is next = ap (λ (xs : List DurableEffect). cached_then cached (effects_by r xs)) is ∙ ap (λ (c : Option ℕ). cached_then c (effects_by r left)) (sym next)

-- the effects that are left are due, the newest edits are held, and the effects lead to that state
pub record IsFollowed (r : Request) (recent : Recent) (left : List DurableEffect) (whole : NodeState) : Type 0 where
  pub state : NodeState
  pub rows : List SegmentRow
  pub due : AreDue state.segments rows r left
  pub held : IsRecent recent state.segments
  pub ends : after_effects state (effects_by r left) ≡ whole

pub follow_begins : (r : Request) (recent : Recent) (ds : List DurableEffect) (s : NodeState) (rows : List SegmentRow) → AreDue s.segments rows r ds
    → IsRecent recent s.segments → IsFollowed r recent ds (after_effects s (effects_by r ds))
follow_begins r recent ds s rows due held = record { state = s; rows = rows; due = due; held = held; ends = refl }

pub follow_goes : (r : Request) (recent new : Recent) (d : DurableEffect) (left : List DurableEffect) (whole : NodeState) → IsFollowed r recent (d ∷ left) whole
    → ((gs : List Segment) (rows : List SegmentRow) → IsDue gs rows r d → IsRecent recent gs → IsRecent new (segments_after gs (effect_of r d))) → IsFollowed r new left whole
unfolding after_effects
follow_goes r recent new d left whole way next = record {
  state = after_effect way.state (effect_of r d);
  rows = rows_after r d 0 way.rows;
  due = way.due.1 0;
  held = next way.state.segments way.rows way.due.0 way.held;
  ends = way.ends;
}

pub follow_ends : (r : Request) (recent : Recent) (left : List DurableEffect) (whole : NodeState) → left ≡ [] → IsFollowed r recent left whole → IsRecent recent whole.segments
unfolding after_effects
follow_ends r recent [] whole none way = subst (λ (s : NodeState). IsRecent recent s.segments) way.ends way.held
follow_ends r recent (d ∷ left) whole none way = absurd (cc)

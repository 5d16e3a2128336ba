-- What a finalisation and a removal keep besides the segments, once the record of an acceptance is
-- removed.
use Rattle.std.proofs.Common.{◌≡◌, ◌≢◌, ℕ, List, [], ◌∷◌, ap, sym, ◌∙◌, refl, subst, ◌^◌, ◌≤◌, Bool, true, false}
use Rattle.std.specs.Prelude.{Option, Some, None, IsSome, Result, OnOk}
use Rattle.std.proofs.lemmas.Result.{on_ok_weaker}
use Rattle.base_disk.specs.View.{View}
use Rattle.base_disk.specs.declared.disk.DiskFail.{DiskFail}
use Rattle.journal_core.specs.declared.segment.Segment.{Segment}
use Rattle.journal_core.specs.declared.node_state.NodeState.{NodeState}
use Rattle.journal_core.specs.Segments.{find_segment, put_segment, remove_segment}
use Rattle.journal_core.specs.Effects.{finalized}
use Rattle.journal_core.proofs.SegmentLists.{find-start, find-put_same, find-remove_same}
use Rattle.disk_segment.specs.Names.{Kind, progress, final, record_, front_of, InProgress, Final, Record, FreshRecord, name_of, kind_of}
use Rattle.disk_segment.specs.Effects.{IsOutside, Touches}
use Rattle.disk_segment.specs.Calls.{CanFinalize, CanDiscard}
use Rattle.disk_segment.proofs.EffectLaws.{none_is_not}
use Rattle.disk_opening.proofs.OpenLemmas.{NotAccepted}
use Rattle.disk_files.specs.Durable.{HoldsState}
use Rattle.disk_files.specs.EffectCalls.{Clears}
use Rattle.disk_files.proofs.Names.{fronts_apart}
use Rattle.disk_files.proofs.ClearLaws.{other_record_stays, fresh_record_stays, none_stays_none}
use Rattle.disk_files.proofs.OneCall.{Kept, kept_put, kept_remove, no_record_unless, on_ok_always}

-- the files of records are none of these
abbrev pub HaveNoRecord : ℕ → List Kind → Type 0
HaveNoRecord start kinds = (other : ℕ) (k : Kind) → front_of k ≡ record_ → IsOutside start kinds (name_of other k)

pub finalize_outside : (start end : ℕ) → HaveNoRecord start (InProgress ∷ Final end ∷ [])
finalize_outside start end other k is = (
  fronts_apart other start k InProgress (λ same. let p : record_ ≡ progress = sym is ∙ same in absurd (cc)),
  (fronts_apart other start k (Final end) (λ same. let p : record_ ≡ final = sym is ∙ same in absurd (cc)), tt),
)

pub discard_outside : (start end : ℕ) (is_final : Bool) → HaveNoRecord start (kind_of end is_final ∷ [])
discard_outside start end true other k is = (fronts_apart other start k (Final end) (λ same. let p : record_ ≡ final = sym is ∙ same in absurd (cc)), tt)
discard_outside start end false other k is = (fronts_apart other start k InProgress (λ same. let p : record_ ≡ progress = sym is ∙ same in absurd (cc)), tt)

pub record_there : (start : ℕ) (kinds : List Kind) (v0 v1 : View) → HaveNoRecord start kinds → Touches start kinds v0 v1
    → IsSome (v0.seen (name_of start Record)) → IsSome (v1.seen (name_of start Record))
record_there start kinds v0 v1 outside touches there = subst IsSome (sym (touches.seen.others (name_of start Record) (outside start Record refl))) there

module _ (start : ℕ) (first : 1 ≤ start) (small : start ≤ 2 ^ 62) (kinds : List Kind) (outside : HaveNoRecord start kinds) (v0 v1 v2 : View) (touches : Touches start kinds v0 v1)
    (s : NodeState) (holds : HoldsState v0 s) (g : Segment) (known : find_segment start s.segments ≡ Some g) (accepted : Bool) (told : g.accepted ≡ accepted)
    (last : Result (Unit {0}) DiskFail) (clears : Clears accepted start last v1 v2) where
  stays : (other : ℕ) → other ≤ 2 ^ 62 → other ≢ start → v2.seen (name_of other Record) ≡ v0.seen (name_of other Record)
  stays other small_other ne = other_record_stays start v1.seen v2.seen clears.seen small other small_other ne ∙ touches.seen.others (name_of other Record) (outside other Record refl)

  fresh : (other : ℕ) → 1 ≤ other → other ≤ 2 ^ 62 → v2.seen (name_of other FreshRecord) ≡ None
  fresh other first_other small_other = fresh_record_stays start v1.seen v2.seen clears.seen small other small_other
      ∙ touches.seen.others (name_of other FreshRecord) (outside other FreshRecord refl) ∙ holds.none_fresh_record other first_other small_other

  gone : OnOk last (v2.seen (name_of start Record) ≡ None)
  gone = by accepted refl
    where
      never : accepted ≡ false → (h : Segment) → find_segment start s.segments ≡ Some h → h.accepted ≡ true → ⊥
      never is h held had =
          let same : h ≡ g = let p = sym held ∙ known in cc in
          let p : true ≡ false = sym had ∙ ap (λ (x : Segment). x.accepted) same ∙ told ∙ is in absurd (cc)

      by : (b : Bool) → accepted ≡ b → OnOk last (v2.seen (name_of start Record) ≡ None)
      by true is = clears.done is
      by false is = on_ok_always last (v2.seen (name_of start Record) ≡ None)
          (none_stays_none start v1.seen v2.seen clears.seen (touches.seen.others (name_of start Record) (outside start Record refl) ∙ no_record_unless start first small v0 s holds (never is)))

  pub ended_put : (new : Segment) → new.start ≡ start → new.accepted ≡ false → OnOk last (Kept v2 (put_segment new s.segments))
  ended_put new start_is plain = on_ok_weaker last (λ (none : v2.seen (name_of start Record) ≡ None).
      kept_put start first small v0 v2 s holds stays fresh new start_is (λ is. let p : true ≡ false = sym is ∙ plain in absurd (cc))
      (λ there. absurd (none_is_not (v2.seen (name_of start Record)) none there))) gone

  pub ended_remove : OnOk last (Kept v2 (remove_segment start s.segments))
  ended_remove = on_ok_weaker last (λ (none : v2.seen (name_of start Record) ≡ None). kept_remove start first small v0 v2 s holds stays fresh none) gone

-- ## The segments then
module _ (start end : ℕ) (gs : List Segment) (g : Segment) (can : CanFinalize start end gs g) where
  abbrev new : Segment
  new = record g { is_final = true; accepted = false }

  pub finalized_is : put_segment (record g { is_final = true; accepted = false }) gs ≡ finalized (find_segment start gs) gs
  finalized_is = ap (λ (held : Option Segment). finalized held gs) (sym can.known)

  found : find_segment start (put_segment (record g { is_final = true; accepted = false }) gs) ≡ Some (record g { is_final = true; accepted = false })
  found = subst (λ (m : ℕ). find_segment m (put_segment new gs) ≡ Some new) (find-start start gs g can.known) (find-put_same new gs)

  pub finalized_free : NotAccepted (find_segment start (finalized (find_segment start gs) gs))
  finalized_free = subst (λ (hs : List Segment). NotAccepted (find_segment start hs)) finalized_is (subst NotAccepted (sym found) (λ is. refl))

pub removed_free : (start : ℕ) (gs : List Segment) → NotAccepted (find_segment start (remove_segment start gs))
removed_free start gs = subst NotAccepted (sym (find-remove_same start gs)) tt

pub finalize_kept : (start end : ℕ) (first : 1 ≤ start) (small : start ≤ 2 ^ 62) (v0 v1 v2 : View)
    (touches : Touches start (InProgress ∷ Final end ∷ []) v0 v1) (s : NodeState) (holds : HoldsState v0 s) (g : Segment)
    (can : CanFinalize start end s.segments g) (accepted : Bool) (told : g.accepted ≡ accepted) (last : Result (Unit {0}) DiskFail) (clears : Clears accepted start last v1 v2)
    → OnOk last (Kept v2 (finalized (find_segment start s.segments) s.segments))
finalize_kept start end first small v0 v1 v2 touches s holds g can accepted told last clears = subst (λ (hs : List Segment). OnOk last (Kept v2 hs)) (finalized_is start end s.segments g can)
    (ended_put start first small (InProgress ∷ Final end ∷ []) (finalize_outside start end) v0 v1 v2 touches s holds g can.known accepted told last clears
    (record g { is_final = true; accepted = false }) (find-start start s.segments g can.known) refl)

pub discard_kept : (start end : ℕ) (is_final : Bool) (first : 1 ≤ start) (small : start ≤ 2 ^ 62) (v0 v1 v2 : View)
    (touches : Touches start (kind_of end is_final ∷ []) v0 v1) (s : NodeState) (holds : HoldsState v0 s) (g : Segment)
    (can : CanDiscard start end is_final s.segments g) (accepted : Bool) (told : g.accepted ≡ accepted) (last : Result (Unit {0}) DiskFail) (clears : Clears accepted start last v1 v2)
    → OnOk last (Kept v2 (remove_segment start s.segments))
discard_kept start end is_final first small v0 v1 v2 touches s holds g can accepted told last clears =
    ended_remove start first small (kind_of end is_final ∷ []) (discard_outside start end is_final) v0 v1 v2 touches s holds g can.known accepted told last clears

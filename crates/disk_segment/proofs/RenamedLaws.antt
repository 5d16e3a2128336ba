-- A rename or a removal of one file of a segment, as an effect on the segments.
use Rattle.std.proofs.Common.{inl, inr, ◌≡◌, ℕ, zero, suc, List, [], ◌∷◌, ap, sym, ◌∙◌, refl, subst, arith, ◌^◌, ◌≤◌, Bool, true, false}
use Rattle.std.specs.Prelude.{Option, Some, IsSome, Result, IsErrOf, nat_le, if◌then◌else◌}
use Rattle.std.proofs.lemmas.Bool.{cases_eq}
use Rattle.base_disk.specs.Files.{Files, ChangesOnly, Moves, IsGone, IsSame}
use Rattle.base_disk.specs.View.{View, IsSound, AllLeave}
use Rattle.base_disk.specs.Calls.{Atomic}
use Rattle.base_disk.specs.Runs.{atomic_effect}
use Rattle.base_disk.specs.declared.disk.DiskFail.{DiskFail}
use Rattle.base_disk.specs.declared.disk.DiskFail.TheVariants.{Failed}
use Rattle.base_files.specs.Puts.{OneCut}
use Rattle.journal_core.specs.declared.segment.Segment.{Segment}
use Rattle.journal_core.specs.Segments.{find_segment, put_segment, remove_segment}
use Rattle.journal_core.specs.Effects.{finalized}
use Rattle.journal_core.specs.declared.cut.Cut.{Cut}
use Rattle.journal_core.specs.Cuts.{name_cost}
use Rattle.disk_segment.specs.Names.{Kind, InProgress, Final, UnderWay, name_of, IsKind, kind_of}
use Rattle.disk_segment.specs.Stands.{StandsFor}
use Rattle.disk_segment.specs.Effects.{IsTidy, IsReady, Touches, Becomes, IsCut}
use Rattle.disk_segment.specs.Calls.{CanFinalize, CanDiscard}
use Rattle.disk_segment.proofs.Frame.{stands_same, kinds_apart}
use Rattle.disk_segment.proofs.Single.{Before}
use Rattle.disk_segment.proofs.Changes.{final_stands, dropped_stands, removed_stands}
use Rattle.disk_segment.proofs.EffectLaws.{becomes, touches, tidy_by, none_is_not}
use Rattle.disk_segment.proofs.PlacedLaws.{before_all}

pub same_files_stand : (d c : Files) (gs : List Segment) → StandsFor d gs → IsSame d c → StandsFor c gs
same_files_stand d c gs stands same = stands_same d c gs (λ start k first small ok lasts. same.files (name_of start k)) stands

-- a stop before the only call
pub cut_one : {T : Type 0} (before after : List Segment) (left now : Option ℕ) (tells : Type 0) (result : Result T DiskFail) (v0 v1 : View) → tells
    → OneCut left now tells result v0 v1 → AllLeave v0 (λ c. StandsFor c before) → IsCut (λ _. name_cost false) before after left result v1
cut_one before after left now tells result v0 v1 told one stands = record { stands = λ k is failed cut c chosen. by k is failed cut c chosen.0 }
  where
    by : (k : ℕ) → left ≡ Some k → IsErrOf result Failed → (cut : Cut) (c : Files) → v1.may_leave c → StandsFor c (if nat_le 1 k then after else before)
    by zero is failed cut c now = stands c ((one.stops is).1 told c now)
    by (suc k) is failed cut c now = absurd ((one.counts k (is ∙ ap (λ (n : ℕ). Some n) (omega arith))).0 failed)

module _ (start : ℕ) (first : 1 ≤ start) (small : start ≤ 2 ^ 62) (v0 : View) (sound : IsSound v0) (gs : List Segment) (ready : IsReady v0 gs) where
  was : (d : Files) → v0.may_leave d → Before start d gs
  was d left = before_all start first small v0 sound gs ready d left

  module _ (end : ℕ) (g : Segment) (can : CanFinalize start end gs g) where
    after_is : put_segment (record g { is_final = true; accepted = false }) gs ≡ finalized (find_segment start gs) gs
    after_is = ap (λ (held : Option Segment). finalized held gs) (sym can.known)

    tidy_then : (c : Files) → Moves (name_of start InProgress) (name_of start (Final end)) v0.seen c → IsTidy c
    tidy_then c moves = tidy_by start v0.seen c small ready.tidy InProgress (Final end) moves.others
        (λ epoch ok. moves.others (name_of start (UnderWay epoch)) (kinds_apart start InProgress (UnderWay epoch) tt ok (λ is. absurd (cc)))
        (kinds_apart start (Final end) (UnderWay epoch) can.valid ok (λ is. absurd (cc))) ∙ ready.tidy.none_under_way start epoch first small ok)
        (λ last ok there. moves.gone (kinds_apart start (Final end) InProgress can.valid tt (λ is. absurd (cc))))

    pub finalize_becomes : (result : Result (Unit {0}) DiskFail) (v1 : View)
        → Atomic (Moves (name_of start InProgress) (name_of start (Final end))) result v0 v1
        → Becomes gs (finalized (find_segment start gs) gs) result v0 v1
    finalize_becomes result v1 atomic = becomes IsSame (Moves (name_of start InProgress) (name_of start (Final end))) result v0 v1
        (atomic_effect (Moves (name_of start InProgress) (name_of start (Final end))) result v0 v1 sound atomic)
        gs (finalized (find_segment start gs) gs) (λ d c left same. same_files_stand d c gs (ready.stands d left) same)
        (λ d c left moves. subst (λ (hs : List Segment). StandsFor c hs) after_is (final_stands start d gs (was d left) g can.known can.in_progress c end can.valid can.ends moves)) (tidy_then v1.seen)

  module _ (end : ℕ) (is_final : Bool) (g : Segment) (can : CanDiscard start end is_final gs g) where
    kind_ok : (b : Bool) → is_final ≡ b → IsKind start (kind_of end b)
    kind_ok true is = (can.valid is).0
    kind_ok false is = tt

    gone_stands : (b : Bool) → is_final ≡ b → (d c : Files) → v0.may_leave d → ChangesOnly (name_of start (kind_of end b)) IsGone d c → StandsFor c (remove_segment start gs)
    gone_stands true is d c left change = removed_stands start d gs (was d left) g can.known (can.final ∙ is) end (can.valid is).0 (can.valid is).1 c change
    gone_stands false is d c left change = dropped_stands start d gs (was d left) g can.known (can.final ∙ is) c change

    tidy_gone : (b : Bool) → is_final ≡ b → (c : Files) → ChangesOnly (name_of start (kind_of end b)) IsGone v0.seen c → IsTidy c
    tidy_gone true is c change = tidy_by start v0.seen c small ready.tidy (Final end) (Final end) (λ m ne ne_again. change.others m ne)
        (λ epoch ok. change.others (name_of start (UnderWay epoch)) (kinds_apart start (Final end) (UnderWay epoch) (can.valid is).0 ok
        (λ is. absurd (cc))) ∙ ready.tidy.none_under_way start epoch first small ok)
        (λ last ok there. change.others (name_of start InProgress) (kinds_apart start (Final end) InProgress (can.valid is).0 tt (λ is. absurd (cc)))
        ∙ ready.tidy.not_both start last first small ok (still_there last ok there))
      where
        still_there : (last : ℕ) → IsKind start (Final last) → IsSome (c (name_of start (Final last))) → IsSome (v0.seen (name_of start (Final last)))
        still_there last ok there = elim (cases_eq last end) [
          | inl same ↦ absurd (none_is_not (c (name_of start (Final end))) change.here (subst (λ (n : ℕ). IsSome (c (name_of start (Final n)))) same there))
          | inr ne ↦ subst IsSome (change.others (name_of start (Final last)) (kinds_apart start (Final end) (Final last) (can.valid is).0 ok (λ is. ne (cc)))) there
        ]
    tidy_gone false is c change = tidy_by start v0.seen c small ready.tidy InProgress InProgress (λ m ne ne_again. change.others m ne)
        (λ epoch ok. change.others (name_of start (UnderWay epoch)) (kinds_apart start InProgress (UnderWay epoch) tt ok (λ is. absurd (cc))) ∙ ready.tidy.none_under_way start epoch first small ok)
        (λ last ok there. change.here)

    pub discard_becomes : (result : Result (Unit {0}) DiskFail) (v1 : View)
        → Atomic (ChangesOnly (name_of start (kind_of end is_final)) IsGone) result v0 v1 → Becomes gs (remove_segment start gs) result v0 v1
    discard_becomes result v1 atomic = becomes IsSame (ChangesOnly (name_of start (kind_of end is_final)) IsGone) result v0 v1
        (atomic_effect (ChangesOnly (name_of start (kind_of end is_final)) IsGone) result v0 v1 sound atomic)
        gs (remove_segment start gs) (λ d c left same. same_files_stand d c gs (ready.stands d left) same) (gone_stands is_final refl) (tidy_gone is_final refl v1.seen)

pub finalize_touches : (start end : ℕ) (result : Result (Unit {0}) DiskFail) (v0 v1 : View) → IsSound v0 → IsSound v1
    → Atomic (Moves (name_of start InProgress) (name_of start (Final end))) result v0 v1 → Touches start (InProgress ∷ Final end ∷ []) v0 v1
finalize_touches start end result v0 v1 sound sound1 atomic = touches IsSame (Moves (name_of start InProgress) (name_of start (Final end))) result v0
    v1 (atomic_effect (Moves (name_of start InProgress) (name_of start (Final end))) result v0 v1 sound atomic)
    start (InProgress ∷ Final end ∷ []) sound1 (λ d c same. record { others = λ name outside. same.files name })
    (λ d c moves. record { others = λ name outside. moves.others name outside.0 outside.1.0 })

pub discard_touches : (start : ℕ) (kind : Kind) (result : Result (Unit {0}) DiskFail) (v0 v1 : View) → IsSound v0 → IsSound v1
    → Atomic (ChangesOnly (name_of start kind) IsGone) result v0 v1 → Touches start (kind ∷ []) v0 v1
discard_touches start kind result v0 v1 sound sound1 atomic = touches IsSame (ChangesOnly (name_of start kind) IsGone) result v0 v1
    (atomic_effect (ChangesOnly (name_of start kind) IsGone) result v0 v1 sound atomic)
    start (kind ∷ []) sound1 (λ d c same. record { others = λ name outside. same.files name }) (λ d c change. record { others = λ name outside. change.others name outside.0 })

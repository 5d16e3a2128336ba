-- An append as an effect on the segments.
use Rattle.std.proofs.Common.{⊎_elim, ◌≡◌, ℕ, zero, suc, List, [], ◌∷◌, ◌++◌, ap, sym, ◌∙◌, refl, subst, arith, ◌^◌, ◌≤◌, ◌<◌, ◌+◌, length, take, drop, get_or, length-append}
use Rattle.std.specs.Prelude.{Option, Some, None, Result, Ok, Err, OnOk, IsErrOf, nat_le, if◌then◌else◌}
use Rattle.std.proofs.lemmas.List.{get_or_at, length-take-le}
use Rattle.base_disk.specs.Files.{Files, ChangesOnly}
use Rattle.base_disk.specs.View.{View, IsSound, IsStable}
use Rattle.base_disk.specs.Calls.{Effect, Happens}
use Rattle.base_disk.specs.Crash.{FilledFile}
use Rattle.base_disk.specs.declared.disk.DiskFail.{DiskFail}
use Rattle.base_disk.specs.declared.disk.DiskFail.TheVariants.{Failed}
use Rattle.journal_core.specs.Views.{BatchView}
use Rattle.journal_core.specs.declared.segment.Segment.{Segment}
use Rattle.journal_core.specs.Segments.{find_segment, put_segment}
use Rattle.journal_core.specs.Effects.{appended}
use Rattle.journal_core.specs.declared.cut.Cut.{Cut}
use Rattle.journal_core.specs.declared.cut.Cut.TheVariants as cuts
use Rattle.journal_core.specs.Cuts.{append_cost}
use Rattle.disk_frame.specs.Frames.{frame_bytes, broken_rule}
use Rattle.disk_frame.specs.Segments.{IsSegmentFile}
use Rattle.disk_segment.specs.Seal.{StaysBlank, Seals, IsCutAfter, SealCounts}
use Rattle.disk_segment.specs.Names.{InProgress, Final, UnderWay, name_of}
use Rattle.disk_segment.specs.Stands.{StandsFor}
use Rattle.disk_segment.specs.Effects.{IsTidy, IsReady, Touches, Becomes, AppendsAt, IsCounted, IsCut, IsLeft, choice_of}
use Rattle.disk_segment.specs.Calls.{CanAppend, AppendsFrame, after_seal}
use Rattle.disk_segment.proofs.Frame.{kinds_apart}
use Rattle.disk_segment.proofs.FileBytes.{longer}
use Rattle.disk_segment.proofs.Single.{Before, plain_here}
use Rattle.disk_segment.proofs.Changes.{blank_stands, open_stands, opened_frame}
use Rattle.disk_segment.proofs.EffectLaws.{becomes, touches, tidy_by, none_both}
use Rattle.disk_segment.proofs.PlacedLaws.{before_all}

pub framed : (b : BatchView) → 165 ∷ after_seal b ≡ frame_bytes b ++ 0 ∷ []
unfolding frame_bytes
framed b = refl

pub seal_counted : {T : Type 0} (before now : Option ℕ) (result : Result T DiskFail) → SealCounts before now result → IsCounted 4 before now result
seal_counted before now result counts = record { stops = counts.stops; counts = counts.counts }

pub append_touches : (start at : ℕ) (b : BatchView) {T E : Type 0} (result : Result T E) (v0 v1 : View) → IsSound v1
    → Effect (ChangesOnly (name_of start InProgress) (StaysBlank at)) (AppendsFrame start at b) result v0 v1 → Touches start (InProgress ∷ []) v0 v1
append_touches start at b result v0 v1 sound effect = touches (ChangesOnly (name_of start InProgress) (StaysBlank at)) (AppendsFrame start at b) result v0 v1 effect start (InProgress ∷ []) sound
    (λ d c noise. record { others = λ name outside. noise.others name outside.0 }) (λ d c deed. record { others = λ name outside. deed.change.others name outside.0 })

-- the rule that a frame keeps where its batch is the next one
pub good_next : (b : BatchView) (next : ℕ) → b.first ≡ next → broken_rule b.first b ≡ None → broken_rule next b ≡ None
good_next b next is good = ap (λ (n : ℕ). broken_rule n b) (sym is) ∙ good

module _ (start at : ℕ) (b : BatchView) (v0 : View) where
  -- where the next frame goes
  pub append_hands : {T E : Type 0} (result : Result T E) (v1 : View) (g : Segment) → g.start ≡ start → AppendsAt v0 g at → b.first ≡ start + length g.bodies
      → Effect (ChangesOnly (name_of start InProgress) (StaysBlank at)) (AppendsFrame start at b) result v0 v1
      → OnOk result (IsStable (name_of start InProgress) v1) → OnOk result (AppendsAt v1 (record g { bodies = g.bodies ++ b.bodies }) (at + length (frame_bytes b)))
  append_hands result v1 g start_is was next effect stable = both result effect.done stable
    where
      rest : List ℕ
      rest = drop (at + 1 + length (after_seal b)) was.bytes

      bytes : List ℕ
      bytes = take at was.bytes ++ (165 ∷ (after_seal b ++ rest))

      bytes_are : bytes ≡ take at was.bytes ++ (frame_bytes b ++ (0 ∷ rest))
      bytes_are = opened_frame b (take at was.bytes) (after_seal b) rest (framed b)

      long : at + length (frame_bytes b) < length bytes
      long = omega (
        arith,
        ap length bytes_are,
        length-append (take at was.bytes) (frame_bytes b ++ (0 ∷ rest)),
        length-append (frame_bytes b) (0 ∷ rest),
        length-take-le at was.bytes (omega (arith, was.more)),
      )

      edits : broken_rule b.first b ≡ None → IsSegmentFile bytes g.start g.epoch (g.bodies ++ b.bodies) (at + length (frame_bytes b))
      edits good = longer was.bytes g.start g.epoch g.bodies at was.edits b rest bytes
          (good_next b (g.start + length g.bodies) (next ∙ ap (λ (m : ℕ). m + length g.bodies) (sym start_is)) good) bytes_are

      own_name : name_of g.start InProgress ≡ name_of start InProgress
      own_name = ap (λ (m : ℕ). name_of m InProgress) start_is

      both : {T E : Type 0} (r : Result T E) → OnOk r (Happens (AppendsFrame start at b) v0 v1) → OnOk r (IsStable (name_of start InProgress) v1)
          → OnOk r (AppendsAt v1 (record g { bodies = g.bodies ++ b.bodies }) (at + length (frame_bytes b)))
      both (Ok x) h stays = record {
        bytes = bytes;
        there = ap v1.seen own_name ∙ subst (λ (f : Option (List ℕ)). Seals at (after_seal b) f (v1.seen (name_of start InProgress))) (ap v0.seen (sym own_name) ∙ was.there) h.seen.change.here;
        edits = edits h.seen.good;
        more = long;
        stable = subst (λ (n : List ℕ). IsStable n v1) (sym own_name) stays;
      }
      both (Err e) h stays = tt

module _ (start : ℕ) (first : 1 ≤ start) (small : start ≤ 2 ^ 62) (v0 : View) (sound : IsSound v0) (gs : List Segment) (ready : IsReady v0 gs)
    (at : ℕ) (b : BatchView) (g : Segment) (can : CanAppend start at b gs v0 g) where
  abbrev progress : List ℕ
  progress = name_of start InProgress

  own : name_of g.start InProgress ≡ name_of start InProgress
  own = ap (λ (m : ℕ). name_of m InProgress) can.start_is

  bytes : List ℕ
  bytes = can.appends.bytes

  edits : IsSegmentFile can.appends.bytes start g.epoch g.bodies at
  edits = subst (λ (m : ℕ). IsSegmentFile can.appends.bytes m g.epoch g.bodies at) can.start_is can.appends.edits

  there : (d : Files) → v0.may_leave d → d (name_of start InProgress) ≡ Some can.appends.bytes
  there d left = subst (λ (n : List ℕ). d n ≡ Some can.appends.bytes) own (can.appends.stable d left ∙ can.appends.there)

  was : (d : Files) → v0.may_leave d → Before start d gs
  was d left = before_all start first small v0 sound gs ready d left

  after_is : put_segment (record g { bodies = g.bodies ++ b.bodies }) gs ≡ appended b.bodies (find_segment start gs) gs
  after_is = ap (λ (held : Option Segment). appended b.bodies held gs) (sym can.known)

  still_stands : (d c : Files) → v0.may_leave d → ChangesOnly (name_of start InProgress) (StaysBlank at) d c → StandsFor c gs
  still_stands d c left noise = blank_stands start d gs (was d left) g can.known can.in_progress c noise.others can.appends.bytes at (there d left) edits noise.here

  then_stands : (d c : Files) → v0.may_leave d → AppendsFrame start at b d c → StandsFor c (appended b.bodies (find_segment start gs) gs)
  then_stands d c left done =
      let deed = done.change in subst (λ (hs : List Segment). StandsFor c hs) after_is
      (open_stands start d gs (was d left) g can.known can.in_progress c deed.others can.appends.bytes at (there d left) edits b (after_seal b)
      (framed b) (good_next b (start + length g.bodies) can.next done.good) deed.here)

  tidy_then : (c : Files) → AppendsFrame start at b v0.seen c → IsTidy c
  tidy_then c done =
      let deed = done.change in tidy_by start v0.seen c small ready.tidy InProgress InProgress (λ m ne ne_again. deed.others m ne)
      (λ epoch ok. deed.others (name_of start (UnderWay epoch)) (kinds_apart start InProgress (UnderWay epoch) tt ok (λ is. absurd (cc))) ∙ ready.tidy.none_under_way start epoch first small ok)
      (λ last ok here. none_both start last c (c (name_of start InProgress))
      (deed.others (name_of start (Final last)) (kinds_apart start InProgress (Final last) tt ok (λ is. absurd (cc)))
      ∙ (plain_here start v0.seen gs (was v0.seen sound.seen_now) g can.known can.in_progress).none_final.none last ok) here)

  module _ {T E : Type 0} (result : Result T E) (v1 : View) (effect : Effect (ChangesOnly (name_of start InProgress) (StaysBlank at)) (AppendsFrame start at b) result v0 v1) where
    pub append_becomes : Becomes gs (appended b.bodies (find_segment start gs) gs) result v0 v1
    append_becomes = becomes (ChangesOnly (name_of start InProgress) (StaysBlank at)) (AppendsFrame start at b) result v0 v1 effect gs
        (appended b.bodies (find_segment start gs) gs) still_stands then_stands (tidy_then v1.seen)

    -- the seal is set for who reads
    module _ (sound1 : IsSound v1) (seen : ChangesOnly (name_of start InProgress) (Seals at (after_seal b)) v0.seen v1.seen) where
      abbrev now : List ℕ
      now = take at can.appends.bytes ++ (165 ∷ (after_seal b ++ drop (at + 1 + length (after_seal b)) can.appends.bytes))

      seen_is : v1.seen (name_of start InProgress) ≡ Some now
      seen_is = subst (λ (f : Option (List ℕ)). Seals at (after_seal b) f (v1.seen (name_of start InProgress))) (there v0.seen sound.seen_now) seen.here

      seal_set : get_or now at 0 ≡ 165
      seal_set = get_or_at (take at can.appends.bytes) 165 (after_seal b ++ drop (at + 1 + length (after_seal b)) can.appends.bytes) 0 at
          (length-take-le at can.appends.bytes (omega (arith, can.appends.more)))

      filled_open : (old new : Option (List ℕ)) → old ≡ Some now → FilledFile 165 old new → (before : Option (List ℕ)) → StaysBlank at before new → ⊥
      filled_open None new is filled before blank = absurd (cc)
      filled_open (Some old) None is filled before blank = filled
      filled_open (Some old) (Some new) is filled None blank = blank
      filled_open (Some old) (Some new) is filled (Some was) blank =
          let byte : get_or old at 0 ≡ 165 = subst (λ (l : List ℕ). get_or l at 0 ≡ 165) (let e : now ≡ old = cc in e) seal_set in
          ⊎_elim (λ same. blank.2 (same ∙ byte)) (λ same. blank.2 same) (filled.each at)

      pub a5_stands : (c : Files) → IsLeft (choice_of cuts.A5) v1 c → StandsFor c (appended b.bodies (find_segment start gs) gs)
      a5_stands c left =
          let from = effect.any_moment.each c (sound1.counts_now v0.moment c effect.any_moment.later left.0) in
          ⊎_elim (λ noise. absurd (filled_open (v1.seen (name_of start InProgress)) (c (name_of start InProgress)) seen_is
          (left.1 (name_of start InProgress)) (from.0 (name_of start InProgress)) noise.here))
          (λ deed. then_stands from.0 c from.1 deed) from.2

  files_are : (d c : Files) → ((name : List ℕ) → c name ≡ d name) → c ≡ d
  files_are d c same = λ i n. same n i

  pub append_cut : {T : Type 0} (result : Result T DiskFail) (v1 : View) → IsSound v1
      → Effect (ChangesOnly (name_of start InProgress) (StaysBlank at)) (AppendsFrame start at b) result v0 v1 → (left : Option ℕ)
      → (IsErrOf result Failed → broken_rule b.first b ≡ None)
      → ((k : ℕ) → left ≡ Some k → IsErrOf result Failed → IsCutAfter k (name_of start InProgress) at (after_seal b) v0 v1)
      → IsCut append_cost gs (appended b.bodies (find_segment start gs) gs) left result v1
  append_cut result v1 sound1 effect left good cut = record { stands = λ k is failed choice c chosen. by (good failed) k (cut k is failed) choice c chosen }
    where
      early : (k : ℕ) → k ≤ 2 → IsCutAfter k (name_of start InProgress) at (after_seal b) v0 v1 → (c : Files) → v1.may_leave c → StandsFor c gs
      early k few at_end c now = let from = at_end.quiet few c now in still_stands from.0 c from.1 from.2

      by : broken_rule b.first b ≡ None → (k : ℕ) → IsCutAfter k (name_of start InProgress) at (after_seal b) v0 v1 → (choice : Cut) (c : Files) → IsLeft (choice_of choice) v1 c
          → StandsFor c (if nat_le (append_cost choice).decides k then appended b.bodies (find_segment start gs) gs else gs)
      by fine zero at_end cuts.Old c chosen = early 0 (omega arith) at_end c chosen.0
      by fine zero at_end cuts.New c chosen = early 0 (omega arith) at_end c chosen.0
      by fine zero at_end cuts.A5 c chosen = early 0 (omega arith) at_end c chosen.0
      by fine (suc zero) at_end cuts.Old c chosen = early 1 (omega arith) at_end c chosen.0
      by fine (suc zero) at_end cuts.New c chosen = early 1 (omega arith) at_end c chosen.0
      by fine (suc zero) at_end cuts.A5 c chosen = early 1 (omega arith) at_end c chosen.0
      by fine (suc (suc zero)) at_end cuts.Old c chosen = early 2 (omega arith) at_end c chosen.0
      by fine (suc (suc zero)) at_end cuts.New c chosen = early 2 (omega arith) at_end c chosen.0
      by fine (suc (suc zero)) at_end cuts.A5 c chosen = early 2 (omega arith) at_end c chosen.0
      by fine (suc (suc (suc zero))) at_end cuts.Old c chosen = subst (λ (f : Files). StandsFor f gs) (sym (files_are v1.synced c chosen.1))
          (still_stands v0.synced v1.synced sound.synced_now (at_end.stable refl))
      by fine (suc (suc (suc zero))) at_end cuts.New c chosen = subst (λ (f : Files). StandsFor f (appended b.bodies (find_segment start gs) gs))
          (sym (files_are v1.seen c chosen.1)) (then_stands v0.seen v1.seen sound.seen_now record { change = at_end.seen refl; good = fine })
      by fine (suc (suc (suc zero))) at_end cuts.A5 c chosen = a5_stands result v1 effect sound1 (at_end.seen refl) c chosen
      by fine (suc (suc (suc (suc k)))) at_end choice c chosen = absurd (omega (arith, at_end.below))

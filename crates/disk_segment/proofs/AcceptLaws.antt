-- An acceptance as an effect on the segments.
use Rattle.std.proofs.Common.{inl, inr, ⊎_elim, ◌⊎◌, ◌≡◌, ◌≢◌, ℕ, List, [], ◌∷◌, ◌++◌, sym, ◌∙◌, refl, subst, ◌^◌, ◌≤◌, ◌+◌, length}
use Rattle.std.specs.Prelude.{Option, Some, None, IsSome, Result, IsErr}
use Rattle.std.proofs.lemmas.Bool.{cases_eq}
use Rattle.std.proofs.lemmas.Result.{IfOk-from_err, on_ok_weaker}
use Rattle.base_disk.specs.Files.{Files, Moves, IsSame}
use Rattle.base_disk.specs.View.{View, IsSound, LeavesOnly, AllLeave}
use Rattle.base_disk.specs.Calls.{Effect, Happens, Atomic}
use Rattle.base_disk.specs.Runs.{Quiet, weaker, joined, atomic_effect}
use Rattle.base_disk.specs.declared.disk.DiskFail.{DiskFail}
use Rattle.base_files.specs.Puts.{Disturbs, Puts}
use Rattle.base_files.specs.Records.{record_bytes, IsRecord}
use Rattle.journal_core.specs.Views.{BatchView, last_txid}
use Rattle.journal_core.specs.declared.segment.Segment.{Segment}
use Rattle.journal_core.specs.Segments.{put_segment}
use Rattle.journal_core.specs.Effects.{accepted_segment}
use Rattle.disk_frame.specs.Frames.{frame_bytes, broken_rule}
use Rattle.disk_segment.specs.Names.{Kind, InProgress, Final, Record, UnderWay, FreshRecord, name_of, IsKind}
use Rattle.disk_segment.specs.Stands.{StandsFor, NoFinal, slot_of}
use Rattle.disk_segment.specs.Places.{IsStaged}
use Rattle.disk_segment.specs.Effects.{IsTidy, IsReady, OnlyOf, Touches, Becomes}
use Rattle.disk_segment.specs.Calls.{CanReplace, content_of}
use Rattle.disk_segment.proofs.Frame.{apart, kinds_apart, no_final_same}
use Rattle.disk_segment.proofs.FileBytes.{InRange}
use Rattle.disk_segment.proofs.Single.{Before, temporary_stands, no_final_here}
use Rattle.disk_segment.proofs.PlacedLaws.{before_all}
use Rattle.disk_segment.proofs.PlacedAgain.{frame_edits}
use Rattle.disk_segment.proofs.EffectLaws.{touches}
use Rattle.disk_segment.proofs.RenamedLaws.{same_files_stand}
use Rattle.disk_segment.proofs.AcceptLemmas.{way_stands, record_stands, settled_stands}

abbrev WasOnly : ℕ → List Kind → View → Files → Type 0
WasOnly start kinds v0 c = (d : Files) × v0.may_leave d × OnlyOf start kinds d c

-- one run of calls after another
pub touches_then : (start : ℕ) (kinds : List Kind) (v0 v1 v2 : View) → Touches start kinds v0 v1
    → ((c : Files) → v1.may_leave c → (d : Files) × v0.may_leave d × OnlyOf start kinds d c) → Touches start kinds v1 v2 → Touches start kinds v0 v2
touches_then start kinds v0 v1 v2 one now two = record {
  any_moment = weaker v0 v2 (λ c. (WasOnly start kinds v0) c ⊎ (WasOnly start kinds v0) c) (WasOnly start kinds v0) (λ c is. ⊎_elim (λ a. a) (λ b. b) is)
      (joined v0 v1 v2 (WasOnly start kinds v0) (WasOnly start kinds v0) one.any_moment
      (weaker v1 v2 (λ c. (e : Files) × v1.may_leave e × OnlyOf start kinds e c) (WasOnly start kinds v0)
      (λ c from. let d = now from.0 from.1 in (
        d.0,
        d.1,
        record {
          others = λ name outside. from.2.others name outside
              ∙ d.2.others name outside;
        },
      )) two.any_moment));
  seen = record { others = λ name outside. two.seen.others name outside ∙ one.seen.others name outside };
  stable = λ name outside was. two.stable name outside (one.stable name outside was);
}

abbrev Touched : ℕ → List Kind
Touched epoch = UnderWay epoch ∷ Record ∷ FreshRecord ∷ InProgress ∷ []

abbrev pub PutsRecordOf : ℕ → BatchView → Files → Files → Type 0
PutsRecordOf epoch b = Puts (name_of b.first Record) (name_of b.first FreshRecord) (record_bytes (record { epoch = epoch; end = last_txid b }))

pub put_touches : (epoch : ℕ) (b : BatchView) (put : Result (Unit {0}) DiskFail) (v1 v2 : View) → IsSound v2
    → Effect (Disturbs (name_of b.first FreshRecord)) (Puts (name_of b.first Record) (name_of b.first FreshRecord) (record_bytes (record { epoch = epoch; end = last_txid b }))) put v1 v2
    → Touches b.first (UnderWay epoch ∷ Record ∷ FreshRecord ∷ InProgress ∷ []) v1 v2
put_touches epoch b put v1 v2 sound2 effect = touches (Disturbs (name_of b.first FreshRecord)) (PutsRecordOf epoch b) put v1 v2 effect b.first (Touched epoch) sound2
    (λ d c noise. record { others = λ name outside. noise.others name outside.1.1.0 }) (λ d c puts. record { others = λ name outside. puts.others name outside.1.0 outside.1.1.0 })

pub settle_touches : (epoch : ℕ) (b : BatchView) (v2 v3 : View) → IsSound v2 → IsSound v3 → (last : Result (Unit {0}) DiskFail)
    → Atomic (Moves (name_of b.first (UnderWay epoch)) (name_of b.first InProgress)) last v2 v3
    → Touches b.first (UnderWay epoch ∷ Record ∷ FreshRecord ∷ InProgress ∷ []) v2 v3
settle_touches epoch b v2 v3 sound2 sound3 last atomic = touches IsSame (Moves (name_of b.first (UnderWay epoch)) (name_of b.first InProgress)) last v2 v3
    (atomic_effect (Moves (name_of b.first (UnderWay epoch)) (name_of b.first InProgress)) last v2 v3 sound2 atomic) b.first (Touched epoch) sound3
    (λ d c same. record { others = λ name outside. same.files name }) (λ d c moves. record { others = λ name outside. moves.others name outside.0 outside.1.1.1.0 })

pub way_left : (epoch : ℕ) (b : BatchView) → InRange b.first epoch → (v1 v2 : View) → IsStaged (name_of b.first (UnderWay epoch)) (content_of b.first epoch (frame_bytes b)) v1
    → Happens (Puts (name_of b.first Record) (name_of b.first FreshRecord) (record_bytes (record { epoch = epoch; end = last_txid b }))) v1 v2 → IsSome (v2.seen (name_of b.first (UnderWay epoch)))
way_left epoch b range v1 v2 staged happened = subst IsSome (sym is) refl
  where
    is : v2.seen (name_of b.first (UnderWay epoch)) ≡ Some (content_of b.first epoch (frame_bytes b) ++ staged.behind)
    is = happened.seen.others (name_of b.first (UnderWay epoch)) (kinds_apart b.first Record (UnderWay epoch) tt (range.some_epoch, range.epoch_within) (λ same. absurd (cc)))
        (kinds_apart b.first FreshRecord (UnderWay epoch) tt (range.some_epoch, range.epoch_within) (λ same. absurd (cc))) ∙ staged.there

module _ (epoch : ℕ) (b : BatchView) (range : InRange b.first epoch) (v0 : View) (sound : IsSound v0) where
  abbrev kinds : List Kind
  kinds = UnderWay epoch ∷ Record ∷ FreshRecord ∷ InProgress ∷ []

  valid : IsKind b.first (UnderWay epoch)
  valid = (range.some_epoch, range.epoch_within)

  small : b.first ≤ 2 ^ 62
  small = range.start_within

  module _ (v1 : View) (sound1 : IsSound v1) (quiet : Quiet (Disturbs (name_of b.first (UnderWay epoch))) v0 v1) where
    pub stage_left : (c : Files) → v1.may_leave c → (d : Files) × v0.may_leave d × OnlyOf b.first (UnderWay epoch ∷ Record ∷ FreshRecord ∷ InProgress ∷ []) d c
    stage_left c left = let from = quiet.now c left in (from.0, from.1, record { others = λ name outside. from.2.others name outside.0 })

    pub stage_touches : Touches b.first (UnderWay epoch ∷ Record ∷ FreshRecord ∷ InProgress ∷ []) v0 v1
    stage_touches = record {
      any_moment = weaker v0 v1 (λ c. (d : Files) × v0.may_leave d × Disturbs (name_of b.first (UnderWay epoch)) d c) (λ c. (d : Files) × v0.may_leave d × OnlyOf b.first kinds d c)
          (λ c from. (from.0, from.1, record { others = λ name outside. from.2.others name outside.0 })) quiet.moments;
      seen = record { others = λ name outside. quiet.seen.others name outside.0 };
      stable = λ name outside was c left. let from = quiet.now c left in from.2.others name outside.0 ∙ was from.0 from.1 ∙ sym (quiet.seen.others name outside.0);
    }

    pub put_left : (v2 : View) → Happens (Puts (name_of b.first Record) (name_of b.first FreshRecord) (record_bytes (record { epoch = epoch; end = last_txid b }))) v1 v2 → (c : Files) → v2.may_leave c
        → (d : Files) × v0.may_leave d × OnlyOf b.first (UnderWay epoch ∷ Record ∷ FreshRecord ∷ InProgress ∷ []) d c
    put_left v2 happened c left =
        let from = happened.crash c left in
        let old = stage_left from.0 from.1 in
        (old.0, old.1, record { others = λ name outside. from.2.others name outside.1.0 outside.1.1.0 ∙ old.2.others name outside })

    module _ (gs : List Segment) (ready : IsReady v0 gs) (can : CanReplace epoch b gs v0) where
      abbrev after : List Segment
      after = put_segment (accepted_segment epoch b) gs

      staged_stands : (d c : Files) → v0.may_leave d → Disturbs (name_of b.first (UnderWay epoch)) d c → StandsFor c gs
      staged_stands d c left noise = way_stands b.first epoch valid d c gs small noise.others (can.other_epoch d left) (ready.stands d left)

      pub now_stands : AllLeave v1 (λ c. StandsFor c gs)
      now_stands c left = let from = quiet.now c left in staged_stands from.0 c from.1 from.2

      pub stage_moments : LeavesOnly v0 v1 (λ c. StandsFor c gs)
      stage_moments = weaker v0 v1 (λ c. (d : Files) × v0.may_leave d × Disturbs (name_of b.first (UnderWay epoch)) d c) (λ c. StandsFor c gs)
          (λ c from. staged_stands from.0 c from.1 from.2) quiet.moments

      pub stage_fails : {T E : Type 0} (result : Result T E) → IsErr result → Becomes gs after result v0 v1
      stage_fails result err = record {
        any_moment = weaker v0 v1 (λ c. StandsFor c gs) (λ c. StandsFor c gs ⊎ StandsFor c after) (λ c is. inl is) stage_moments;
        done = IfOk-from_err result (λ _. IsReady v1 after) err;
      }

      -- an outcome with the content in its place
      pub record Staged (d : Files) : Type 0 where
        pub stands : StandsFor d gs
        pub none_final : NoFinal b.first (slot_of d b.first)
        pub behind : List ℕ
        pub there : d (name_of b.first (UnderWay epoch)) ≡ Some (content_of b.first epoch (frame_bytes b) ++ behind)
        pub alone : (other : ℕ) → IsKind b.first (UnderWay other) → other ≢ epoch → d (name_of b.first (UnderWay other)) ≡ None
        pub elsewhere : (start other : ℕ) → 1 ≤ start → start ≤ 2 ^ 62 → start ≢ b.first → IsKind start (UnderWay other) → d (name_of start (UnderWay other)) ≡ None
        pub not_both : (start last : ℕ) → 1 ≤ start → start ≤ 2 ^ 62 → start ≢ b.first → IsKind start (Final last) → IsSome (d (name_of start (Final last))) → d (name_of start InProgress) ≡ None

      module _ (staged : IsStaged (name_of b.first (UnderWay epoch)) (content_of b.first epoch (frame_bytes b)) v1) (good : broken_rule b.first b ≡ None) where
        pub all_staged : (d : Files) → v1.may_leave d → Staged d
        all_staged d left = record {
          stands = now_stands d left;
          none_final = no_final_same b.first (slot_of from.0 b.first) (slot_of d b.first)
              (λ last ok. from.2.others (name_of b.first (Final last))
              (kinds_apart b.first (UnderWay epoch) (Final last) valid ok (λ is. absurd (cc))))
              (no_final_here b.first from.0 gs was can.not_final);
          behind = staged.behind;
          there = staged.stable d left ∙ staged.there;
          alone = λ other ok ne. from.2.others (name_of b.first (UnderWay other))
              (kinds_apart b.first (UnderWay epoch) (UnderWay other) valid ok (λ is. ne (cc)))
              ∙ was.tidy.none_under_way b.first other range.some_start small ok;
          elsewhere = λ start other first_start small_start ne ok. from.2.others (name_of start (UnderWay other))
              (apart b.first start (UnderWay epoch) (UnderWay other) small small_start ne)
              ∙ was.tidy.none_under_way start other first_start small_start ok;
          not_both = λ start last first_start small_start ne ok here.
              from.2.others (name_of start InProgress) (apart b.first start (UnderWay epoch) InProgress small small_start ne)
              ∙ was.tidy.not_both start last first_start small_start ok
              (subst IsSome (from.2.others (name_of start (Final last)) (apart b.first start (UnderWay epoch) (Final last) small small_start ne))
              here);
        }
          where
            from : (e : Files) × v0.may_leave e × Disturbs (name_of b.first (UnderWay epoch)) e d
            from = quiet.now d left

            was : Before b.first from.0 gs
            was = before_all b.first range.some_start small v0 sound gs ready from.0 from.1

        -- the record
        module _ (end_ok : last_txid b ≤ 2 ^ 62) where
          abbrev rec : List ℕ
          rec = record_bytes (record { epoch = epoch; end = last_txid b })

          is_record : IsRecord (record_bytes (record { epoch = epoch; end = last_txid b })) (record { epoch = epoch; end = last_txid b })
          is_record = record { epoch = range.epoch_within; end = end_ok; spelled = refl }

          abbrev PutsRecord : Files → Files → Type 0
          PutsRecord = Puts (name_of b.first Record) (name_of b.first FreshRecord) (record_bytes (record { epoch = epoch; end = last_txid b }))

          pub put_quiet : (d c : Files) → v1.may_leave d → Disturbs (name_of b.first FreshRecord) d c → StandsFor c gs
          put_quiet d c left noise = temporary_stands b.first FreshRecord d c gs small tt (λ is. is) noise.others (now_stands d left)

          put_stands : (d c : Files) → v1.may_leave d → PutsRecord d c → StandsFor c after
          put_stands d c left puts = let here = all_staged d left in
              record_stands b.first epoch valid range.some_start small d gs here.stands c (last_txid b) _ is_record puts (accepted_segment epoch b)
              (24 + length (frame_bytes b)) refl refl refl refl here.none_final here.there (frame_edits epoch b range good here.behind)

          module _ (v2 : View) (sound2 : IsSound v2) (put : Result (Unit {0}) DiskFail)
              (effect : Effect (Disturbs (name_of b.first FreshRecord))
              (Puts (name_of b.first Record) (name_of b.first FreshRecord) (record_bytes (record { epoch = epoch; end = last_txid b }))) put v1 v2)
            where
              pub put_moments : LeavesOnly v0 v2 (λ c. StandsFor c gs ⊎ StandsFor c after)
              put_moments = weaker v0 v2 (λ c. StandsFor c gs ⊎ (StandsFor c gs ⊎ StandsFor c after)) (λ c. StandsFor c gs ⊎ StandsFor c after) (λ c is. ⊎_elim (λ a. inl a) (λ o. o) is)
                  (joined v0 v1 v2 (λ c. StandsFor c gs) (λ c. StandsFor c gs ⊎ StandsFor c after) stage_moments
                  (weaker v1 v2 (λ c. (d : Files) × v1.may_leave d × (Disturbs (name_of b.first FreshRecord) d c ⊎ PutsRecord d c)) (λ c. StandsFor c gs ⊎ StandsFor c after)
                  (λ c from. ⊎_elim (λ n. inl (put_quiet from.0 c from.1 n)) (λ p. inr (put_stands from.0 c from.1 p)) from.2) effect.any_moment))

              pub put_fails : {T E : Type 0} (result : Result T E) → IsErr result → Becomes gs after result v0 v2
              put_fails result err = record { any_moment = put_moments; done = IfOk-from_err result (λ _. IsReady v2 after) err }

              module _ (happened : Happens (Puts (name_of b.first Record) (name_of b.first FreshRecord) (record_bytes (record { epoch = epoch; end = last_txid b }))) v1 v2) where
                pub put_all : AllLeave v2 (λ c. StandsFor c after)
                put_all c left = let from = happened.crash c left in put_stands from.0 c from.1 from.2

                module _ (v3 : View) (sound3 : IsSound v3) (last : Result (Unit {0}) DiskFail)
                    (atomic : Atomic (Moves (name_of b.first (UnderWay epoch)) (name_of b.first InProgress)) last v2 v3) where
                  moved_stands : (d c : Files) → v2.may_leave d → Moves (name_of b.first (UnderWay epoch)) (name_of b.first InProgress) d c → StandsFor c after
                  moved_stands d c left moves =
                      let from = happened.crash d left in
                      let was = all_staged from.0 from.1 in
                      settled_stands b.first epoch valid small d c after (put_all d left) moves record { end = last_txid b; bytes = _; there = from.2.here; spelled = is_record }
                      _ (from.2.others (name_of b.first (UnderWay epoch)) (kinds_apart b.first Record (UnderWay epoch) tt valid (λ is. absurd (cc)))
                      (kinds_apart b.first FreshRecord (UnderWay epoch) tt valid (λ is. absurd (cc))) ∙ was.there)

                  effect3 : Effect IsSame (Moves (name_of b.first (UnderWay epoch)) (name_of b.first InProgress)) last v2 v3
                  effect3 = atomic_effect (Moves (name_of b.first (UnderWay epoch)) (name_of b.first InProgress)) last v2 v3 sound2 atomic

                  tidy_then : Moves (name_of b.first (UnderWay epoch)) (name_of b.first InProgress) v2.seen v3.seen → IsTidy v3.seen
                  tidy_then moves = record {
                    none_under_way = λ start other first_start small_start ok. elim (cases_eq start b.first) [
                      | inl is ↦ subst (λ (m : ℕ). v3.seen (name_of m (UnderWay other)) ≡ None) (sym is) (own_way other (subst (λ (m : ℕ). IsKind m (UnderWay other)) is ok))
                      | inr ne ↦ far start (UnderWay other) small_start ne ∙ was.elsewhere start other first_start small_start ne ok
                    ];
                    not_both = λ start end first_start small_start ok here. elim (cases_eq start b.first) [
                      | inl is ↦ absurd (none_some (v3.seen (name_of start (Final end)))
                          (subst (λ (m : ℕ). v3.seen (name_of m (Final end)) ≡ None) (sym is)
                          (own_final end (subst (λ (m : ℕ). IsKind m (Final end)) is ok))) here)
                      | inr ne ↦ far start InProgress small_start ne ∙ was.not_both start end first_start small_start ne ok (subst IsSome (far start (Final end) small_start ne) here)
                    ];
                  }
                    where
                      was : Staged v1.seen
                      was = all_staged v1.seen sound1.seen_now

                      far : (start : ℕ) (k : Kind) → start ≤ 2 ^ 62 → start ≢ b.first → v3.seen (name_of start k) ≡ v1.seen (name_of start k)
                      far start k small_start ne =
                          moves.others (name_of start k) (apart b.first start (UnderWay epoch) k small small_start ne) (apart b.first start InProgress k small small_start ne)
                          ∙ happened.seen.others (name_of start k) (apart b.first start Record k small small_start ne) (apart b.first start FreshRecord k small small_start ne)

                      own_final : (end : ℕ) → IsKind b.first (Final end) → v3.seen (name_of b.first (Final end)) ≡ None
                      own_final end ok =
                          moves.others (name_of b.first (Final end)) (kinds_apart b.first (UnderWay epoch) (Final end) valid ok (λ is. absurd (cc)))
                          (kinds_apart b.first InProgress (Final end) tt ok (λ is. absurd (cc)))
                          ∙ happened.seen.others (name_of b.first (Final end)) (kinds_apart b.first Record (Final end) tt ok (λ is. absurd (cc)))
                          (kinds_apart b.first FreshRecord (Final end) tt ok (λ is. absurd (cc)))
                          ∙ was.none_final.none end ok

                      own_way : (other : ℕ) → IsKind b.first (UnderWay other) → v3.seen (name_of b.first (UnderWay other)) ≡ None
                      own_way other ok = elim (cases_eq other epoch) [
                        | inl is ↦ subst (λ (n : ℕ). v3.seen (name_of b.first (UnderWay n)) ≡ None) (sym is)
                            (moves.gone (kinds_apart b.first InProgress (UnderWay epoch) tt valid (λ same. absurd (cc))))
                        | inr ne ↦ moves.others (name_of b.first (UnderWay other))
                            (kinds_apart b.first (UnderWay epoch) (UnderWay other) valid ok (λ is. ne (cc)))
                            (kinds_apart b.first InProgress (UnderWay other) tt ok (λ is. absurd (cc)))
                            ∙ happened.seen.others (name_of b.first (UnderWay other))
                            (kinds_apart b.first Record (UnderWay other) tt ok (λ is. absurd (cc)))
                            (kinds_apart b.first FreshRecord (UnderWay other) tt ok (λ is. absurd (cc)))
                            ∙ was.alone other ok ne
                      ]

                      none_some : (x : Option (List ℕ)) → x ≡ None → IsSome x → ⊥
                      none_some None is some = absurd (cc)
                      none_some (Some y) is some = absurd (cc)

                  pub settle_becomes : Becomes gs after last v0 v3
                  settle_becomes = record {
                    any_moment = weaker v0 v3 (λ c. (StandsFor c gs ⊎ StandsFor c after) ⊎ StandsFor c after) (λ c. StandsFor c gs ⊎ StandsFor c after) (λ c is. ⊎_elim (λ o. o) (λ a. inr a) is)
                        (joined v0 v2 v3 (λ c. StandsFor c gs ⊎ StandsFor c after) (λ c. StandsFor c after) put_moments
                        (weaker v2 v3 (λ c. (d : Files) × v2.may_leave d × (IsSame d c ⊎ Moves (name_of b.first (UnderWay epoch)) (name_of b.first InProgress) d c)) (λ c. StandsFor c after)
                        (λ c from. ⊎_elim (λ same. same_files_stand from.0 c after (put_all from.0 from.1) same) (λ moves. moved_stands from.0 c from.1 moves) from.2) effect3.any_moment));
                    done = on_ok_weaker last (λ (h : Happens (Moves (name_of b.first (UnderWay epoch)) (name_of b.first InProgress)) v2 v3).
                        record { stands = λ c left. let from = h.crash c left in moved_stands from.0 c from.1 from.2; tidy = tidy_then h.seen }) atomic.done;
                  }

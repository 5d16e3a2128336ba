-- What an acceptance asks and keeps.
use Rattle.std.proofs.Common.{inl, inr, ◌≡◌, ◌≢◌, ℕ, List, [], ◌∷◌, ap, sym, ◌∙◌, refl, subst, ◌^◌, ◌≤◌, ◌==◌, Bool, true, false}
use Rattle.std.specs.Prelude.{◌&&◌, Option, Some, None, IsSome, Result, OnOk}
use Rattle.std.proofs.lemmas.Bool.{cases_eq, eqb-true, eq-eqb, and_parts}
use Rattle.std.proofs.lemmas.Result.{on_ok_weaker}
use Rattle.base_disk.specs.Files.{Files}
use Rattle.base_disk.specs.View.{View, IsSound}
use Rattle.base_disk.specs.declared.disk.DiskFail.{DiskFail}
use Rattle.journal_core.specs.Views.{BatchView}
use Rattle.journal_core.specs.declared.segment.Segment.{Segment}
use Rattle.journal_core.specs.declared.node_state.NodeState.{NodeState}
use Rattle.journal_core.specs.Segments.{find_segment, put_segment, IsNotFinal}
use Rattle.journal_core.specs.Cuts.{has_record_of, accept_cost}
use Rattle.journal_core.specs.Effects.{accepted_segment}
use Rattle.disk_segment.specs.Names.{Kind, InProgress, Record, UnderWay, Fresh, FreshRecord, name_of}
use Rattle.disk_segment.specs.Stands.{HasEpoch}
use Rattle.disk_segment.specs.Effects.{Touches}
use Rattle.disk_segment.specs.Calls.{CanReplace, CanReplaceAgain}
use Rattle.disk_segment.proofs.OneEpoch.{one_epoch}
use Rattle.disk_files.specs.Durable.{HoldsState}
use Rattle.disk_files.specs.EffectCalls.{CanAccept, IsCutAt}
use Rattle.disk_files.proofs.Names.{fronts_apart, outside_other}
use Rattle.disk_files.proofs.Lists.{any_some}
use Rattle.disk_files.proofs.OneCall.{Kept, kept_put, accepted_epoch, on_ok_always}

module _ (epoch : ℕ) (b : BatchView) (first : 1 ≤ b.first) (small : b.first ≤ 2 ^ 62) (v : View) (sound : IsSound v) (s : NodeState) (holds : HoldsState v s) where
  -- a record that a crash leaves is there
  seen_there : (c : Files) → v.may_leave c → HasEpoch (c (name_of b.first Record)) epoch → IsSome (v.seen (name_of b.first Record))
  seen_there c left has = by (v.seen (name_of b.first Record)) refl
    where
      by : (x : Option (List ℕ)) → v.seen (name_of b.first Record) ≡ x → IsSome (v.seen (name_of b.first Record))
      by None is = let p = sym (sound.absent (name_of b.first Record) c is left) ∙ has.there in absurd (cc)
      by (Some bytes) is = subst IsSome (sym is) refl

  pub can_replace : (again : Bool) → again ≡ false → CanAccept epoch b again s.segments → CanReplace epoch b s.segments v
  can_replace again plain can = record {
    not_final = can.not_final;
    other_epoch = λ c left has.
        let was = holds.records.accepted b.first first small (seen_there c left has) in
        let same : was.0.epoch ≡ epoch = one_epoch (c (name_of b.first Record)) was.0.epoch epoch (accepted_epoch b.first first small v s holds c left was.0 was.1 was.2) has in
        let told : again ≡ (was.0.accepted && (was.0.epoch == epoch)) = subst (λ (held : Option Segment). again ≡ has_record_of epoch held) was.1 can.told in
        let yes : (was.0.accepted && (was.0.epoch == epoch)) ≡ true = subst (λ (x : Bool). (x && (was.0.epoch == epoch)) ≡ true) (sym was.2) (eq-eqb was.0.epoch epoch same) in
        let p : false ≡ true = sym plain ∙ told ∙ yes in absurd (cc);
  }

  pub can_again : (again : Bool) → again ≡ true → CanAccept epoch b again s.segments → (g : Segment) × CanReplaceAgain epoch b s.segments v g
  can_again again is can = by (find_segment b.first s.segments) refl
    where
      by : (held : Option Segment) → find_segment b.first s.segments ≡ held → (g : Segment) × CanReplaceAgain epoch b s.segments v g
      by None none = let p : true ≡ false = sym is ∙ can.told ∙ ap (λ (held : Option Segment). has_record_of epoch held) none in absurd (cc)
      by (Some g) known =
          let yes = and_parts g.accepted (g.epoch == epoch) (sym (ap (λ (held : Option Segment). has_record_of epoch held) known) ∙ sym can.told ∙ is) in (
            g,
            record {
              known = known;
              in_progress = subst IsNotFinal known can.not_final;
              same_epoch = λ c left. subst (λ (e : ℕ). HasEpoch (c (name_of b.first Record)) e) (eqb-true g.epoch epoch yes.1) (accepted_epoch b.first first small v s holds c left g known yes.0);
            },
          )

  module _ (v1 : View) (some : b.bodies ≢ []) where
    pub again_kept : Touches b.first (InProgress ∷ Fresh ∷ []) v v1 → {T E : Type 0} (result : Result T E) → OnOk result (Kept v1 (put_segment (accepted_segment epoch b) s.segments))
    again_kept touches result = on_ok_always result (Kept v1 (put_segment (accepted_segment epoch b) s.segments))
        (kept_put b.first first small v v1 s holds
        (λ other small_other ne. touches.seen.others (name_of other Record)
        (fronts_apart other b.first Record InProgress (λ is. absurd (cc)), (fronts_apart other b.first Record Fresh (λ is. absurd (cc)), tt)))
        (λ other first_other small_other. touches.seen.others (name_of other FreshRecord) (
          fronts_apart other b.first FreshRecord InProgress (λ is. absurd (cc)),
          (fronts_apart other b.first FreshRecord Fresh (λ is. absurd (cc)), tt),
        ) ∙ holds.none_fresh_record other first_other small_other)
        (accepted_segment epoch b) refl (λ is. any_some b.bodies some) (λ there. refl))

    pub accept_kept : Touches b.first (UnderWay epoch ∷ Record ∷ FreshRecord ∷ InProgress ∷ []) v v1 → {T E : Type 0} (result : Result T E) → OnOk result (v1.seen (name_of b.first FreshRecord) ≡ None)
        → OnOk result (Kept v1 (put_segment (accepted_segment epoch b) s.segments))
    accept_kept touches result fresh = on_ok_weaker result (λ (none : v1.seen (name_of b.first FreshRecord) ≡ None).
        kept_put b.first first small v v1 s holds
        (λ other small_other ne. touches.seen.others (name_of other Record) (outside_other b.first other Record small small_other ne kinds))
        (λ other first_other small_other. elim (cases_eq other b.first) [
          | inl is ↦ subst (λ (m : ℕ). v1.seen (name_of m FreshRecord) ≡ None) (sym is) none
          | inr ne ↦ touches.seen.others (name_of other FreshRecord) (outside_other b.first other FreshRecord small small_other ne kinds) ∙ holds.none_fresh_record other first_other small_other
        ])
        (accepted_segment epoch b) refl (λ is. any_some b.bodies some) (λ there. refl)) fresh
      where
        kinds : List Kind
        kinds = UnderWay epoch ∷ Record ∷ FreshRecord ∷ InProgress ∷ []

pub cost_is : (again told : Bool) → again ≡ told → (before after : NodeState) (left : Option ℕ) {T : Type 0} (result : Result T DiskFail) (v : View)
    → IsCutAt (λ _. accept_cost told) before after left result v → IsCutAt (λ _. accept_cost again) before after left result v
cost_is again told is before after left result v cut = subst (λ (x : Bool). IsCutAt (λ _. accept_cost x) before after left result v) (sym is) cut

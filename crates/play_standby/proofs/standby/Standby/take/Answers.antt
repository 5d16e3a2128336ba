use Rattle.std.proofs.Common.{◌≡◌, ℕ, ◌+◌, ◌-◌, ◌≤◌, ◌<◌, [], refl, sym, ap, ◌∙◌, subst, arith}
use Rattle.std.specs.Option.{ForSome}
use Rattle.ns_edits.specs.Replay.{All, applied}
use Rattle.play_names.specs.Holding.{Broken, with_work}
use Rattle.play_names.specs.Tails.{up_to, after_applied, pass_begun, Breaks}
use Rattle.play_standby.specs.Standbys.{StandbyView, held}
use Rattle.play_standby.specs.Tailing.{IsStep}
use Rattle.play_standby.proofs.StepLaws.{step_as}
use Rattle.play_standby.proofs.TakeLaws.{IsCut, all_sound, bad_positive, bad_sound, part_sound, all_goes, bad_before, bad_breaks}
use Rattle.play_standby.proofs.standby.Standby.take.Goals as goal

pub invariant_of-self : goal.invariant_of-self
invariant_of-self c =
    let s : StandbyView = record { space = c.self.inside.namespace; position = c.self.inside.position } in
    let cut : IsCut c.args.until s c.args.batch c.cut-batch.result =
    record { is = c.cut-batch.ensures; first = c.requires.first ∙ ap (λ v. v.position + 1) (sym c.self.view_is); last = c.requires.last } in
    all_sound c.args.until s c.args.batch c.cut-batch.result cut c.self.invariant c.replay.new.ns c.last-self-inside.result
    (c.in-Done.ensures ∙ ap (λ (k : ℕ). All c.replay.new.ns k) (sym c.last-self-inside.ensures))

pub returns-in-Done-clause-ok : goal.returns-in-Done-clause-ok
returns-in-Done-clause-ok c =
    let s : StandbyView = record { space = c.self.inside.namespace; position = c.self.inside.position } in
    let new : StandbyView = record { space = c.replay.new.ns; position = c.last-self-inside.result } in
    let cut : IsCut c.args.until s c.args.batch c.cut-batch.result =
    record { is = c.cut-batch.ensures; first = c.requires.first ∙ ap (λ v. v.position + 1) (sym c.self.view_is); last = c.requires.last } in
    let all : applied (c.cut-batch.result.first - 1) c.cut-batch.result.bodies c.self.inside.namespace ≡ All c.replay.new.ns c.last-self-inside.result =
    c.in-Done.ensures ∙ ap (λ (k : ℕ). All c.replay.new.ns k) (sym c.last-self-inside.ensures) in
    λ images work.
    subst (λ (v : StandbyView). IsStep (after_applied c.args.until (applied v.position (up_to c.args.until v.position c.args.batch.bodies) v.space)
    (with_work work (held images v))) c.args.until [] images new c.begin_pass.result)
    c.self.view_is
    (step_as (pass_begun c.args.until (with_work work (held images new)))
    (after_applied c.args.until (applied s.position (up_to c.args.until s.position c.args.batch.bodies) s.space) (with_work work (held images s)))
    c.args.until [] [] images new c.begin_pass.result
    (sym (all_goes c.args.until s c.args.batch c.cut-batch.result cut (with_work work (held images s)) c.replay.new.ns c.last-self-inside.result all)) refl (c.begin_pass.ensures.step images work))

pub overflow_sub-self : goal.overflow_sub-self
overflow_sub-self c =
    bad_positive (c.cut-batch.result.first - 1) c.cut-batch.result.bodies c.self.inside.namespace c.replay.new.ns c.in-BadEntry.txid c.in-BadEntry.ensures

pub invariant_of-self-in-BadEntry : goal.invariant_of-self-in-BadEntry
invariant_of-self-in-BadEntry c =
    let s : StandbyView = record { space = c.self.inside.namespace; position = c.self.inside.position } in
    let cut : IsCut c.args.until s c.args.batch c.cut-batch.result =
    record { is = c.cut-batch.ensures; first = c.requires.first ∙ ap (λ v. v.position + 1) (sym c.self.view_is); last = c.requires.last } in
    bad_sound c.args.until s c.args.batch c.cut-batch.result cut c.self.invariant c.replay.new.ns c.in-BadEntry.txid c.in-BadEntry.ensures

pub returns-in-BadEntry-clause-ok : goal.returns-in-BadEntry-clause-ok
returns-in-BadEntry-clause-ok c =
    let s : StandbyView = record { space = c.self.inside.namespace; position = c.self.inside.position } in
    let cut : IsCut c.args.until s c.args.batch c.cut-batch.result =
    record { is = c.cut-batch.ensures; first = c.requires.first ∙ ap (λ v. v.position + 1) (sym c.self.view_is); last = c.requires.last } in
    let positive : 1 ≤ c.in-BadEntry.txid =
    bad_positive (c.cut-batch.result.first - 1) c.cut-batch.result.bodies c.self.inside.namespace c.replay.new.ns c.in-BadEntry.txid c.in-BadEntry.ensures in
    λ images work. (
      subst (λ (v : StandbyView). after_applied c.args.until (applied v.position (up_to c.args.until v.position c.args.batch.bodies) v.space)
          (with_work work (held images v)) ≡ Breaks (with_work Broken
          (held images (record { space = c.replay.new.ns; position = c.in-BadEntry.txid - 1 })))) c.self.view_is
          (bad_breaks c.args.until s c.args.batch c.cut-batch.result cut (with_work work (held images s)) c.replay.new.ns c.in-BadEntry.txid c.in-BadEntry.ensures),
      omega (arith, positive),
    )

pub invariant_of-self-in-OutOfMemory : goal.invariant_of-self-in-OutOfMemory
invariant_of-self-in-OutOfMemory c =
    let s : StandbyView = record { space = c.self.inside.namespace; position = c.self.inside.position } in
    let cut : IsCut c.args.until s c.args.batch c.cut-batch.result =
    record { is = c.cut-batch.ensures; first = c.requires.first ∙ ap (λ v. v.position + 1) (sym c.self.view_is); last = c.requires.last } in
    let part = c.in-OutOfMemory.ensures in
    part_sound c.args.until s c.args.batch c.cut-batch.result cut c.self.invariant c.replay.new.ns c.in-OutOfMemory.applied part.0 part.1

pub returns-in-BadEntry-clause-goes : goal.returns-in-BadEntry-clause-goes
returns-in-BadEntry-clause-goes c =
    let s : StandbyView = record { space = c.self.inside.namespace; position = c.self.inside.position } in
    let cut : IsCut c.args.until s c.args.batch c.cut-batch.result =
    record { is = c.cut-batch.ensures; first = c.requires.first ∙ ap (λ v. v.position + 1) (sym c.self.view_is); last = c.requires.last } in
    bad_before c.args.until s c.args.batch c.cut-batch.result cut (subst (λ (v : StandbyView). ForSome c.args.until (λ last. v.position < last))
    (sym c.self.view_is) c.requires.until) c.replay.new.ns c.in-BadEntry.txid c.in-BadEntry.ensures

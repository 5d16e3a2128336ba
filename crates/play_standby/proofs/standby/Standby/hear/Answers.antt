use Rattle.std.proofs.Common.{◌≡◌, ◌+◌, ◌++◌, ◌∷◌, [], List, length, refl, sym, false, subst}
use Rattle.std.proofs.lemmas.Result.{IfOk-weaker}
use Rattle.journal_core.specs.declared.heard.Heard.{Heard}
use Rattle.ns_edits.specs.Replay.{Image, applied}
use Rattle.play_names.specs.Holding.{Work, Tails, with_work}
use Rattle.play_names.specs.Tails.{tail_hears, up_to, after_applied, no_edits}
use Rattle.play_standby.specs.declared.step.Step.{Step}
use Rattle.play_standby.specs.Standbys.{held}
use Rattle.play_standby.specs.Tailing.{begin_asking, IsStep, edits_in, gives_edits}
use Rattle.play_standby.proofs.StepLaws.{step_as, hears_edits, hears_other, part_none, err_of}
use Rattle.play_standby.proofs.standby.Standby.hear.Goals as goal

pub returns-in-Ok-clause-ok : goal.returns-in-Ok-clause-ok
returns-in-Ok-clause-ok c =
    IfOk-weaker c.take.result
    (λ (t : Step). (images : List Image) (work : Work) → IsStep (after_applied c.args.until
    (applied c.args.self.now.position (up_to c.args.until c.args.self.now.position c.in-Ok.batch.bodies) c.args.self.now.space)
    (with_work work (held images c.args.self.now))) c.args.until [] images c.take.new.self t)
    (λ (t : Step). (images : List Image) → IsStep (tail_hears c.args.nodes c.args.until (length c.args.told.now.items + 1) c.args.told.now.items
    c.args.heard (begin_asking c.args.until c.args.told.now.items (held images c.args.self.now))) c.args.until c.clear.new.self.items images
    c.take.new.self t)
    (λ t f images.
    step_as _ _ c.args.until [] c.clear.new.self.items images c.take.new.self t
    (sym (hears_edits c.args.nodes (length c.args.told.now.items + 1) c.args.until c.args.told.now.items c.args.heard c.in-Ok.batch
    (begin_asking c.args.until c.args.told.now.items (held images c.args.self.now)) c.in-Ok.ensures))
    (sym c.clear.ensures.items)
    (f images (Tails c.args.until (length c.args.told.now.items + 1) c.args.told.now.items)))
    c.take.ensures.ok

pub returns-in-Err-clause-ok : goal.returns-in-Err-clause-ok
returns-in-Err-clause-ok c =
    let other : gives_edits c.in-Err.heard ≡ false = subst (λ (h : Heard). gives_edits h ≡ false) (sym c.in-Err.ensures.0) c.in-Err.ensures.1 in
    IfOk-weaker c.note.result
    (λ (t : Step). (images : List Image) (work : Work) → IsStep (no_edits c.args.nodes c.args.until (length c.args.told.now.items + 1)
    (c.args.told.now.items ++ c.in-Err.heard ∷ []) (with_work work (held images c.args.self.now))) c.args.until c.note.new.told.items images
    c.args.self.now t)
    (λ (t : Step). (images : List Image) → IsStep (tail_hears c.args.nodes c.args.until (length c.args.told.now.items + 1) c.args.told.now.items
    c.args.heard (begin_asking c.args.until c.args.told.now.items (held images c.args.self.now))) c.args.until c.note.new.told.items images
    c.args.self.now t)
    (λ t f images.
    subst (λ (h : Heard). IsStep (tail_hears c.args.nodes c.args.until (length c.args.told.now.items + 1) c.args.told.now.items h
    (begin_asking c.args.until c.args.told.now.items (held images c.args.self.now))) c.args.until c.note.new.told.items images c.args.self.now t)
    c.in-Err.ensures.0
    (step_as _ _ c.args.until c.note.new.told.items c.note.new.told.items images c.args.self.now t
    (sym (hears_other c.args.nodes (length c.args.told.now.items + 1) c.args.until c.args.told.now.items c.in-Err.heard
    (begin_asking c.args.until c.args.told.now.items (held images c.args.self.now)) other))
    refl
    (f images (Tails c.args.until (length c.args.told.now.items + 1) c.args.told.now.items))))
    c.note.ensures.ok

pub returns-in-Err-clause-err : goal.returns-in-Err-clause-err
returns-in-Err-clause-err c = err_of c.note.result (part_none (edits_in c.args.heard) c.args.self.now)

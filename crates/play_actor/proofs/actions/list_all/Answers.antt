use Rattle.std.proofs.Common.{List, [], ◌∷◌, ◌++◌, map, refl, sym, ap, ◌∙◌, append_assoc, append-nil}
use Rattle.std.proofs.lemmas.List.{map-append}
use Rattle.journal_history.specs.declared.record.Record.{Record}
use Rattle.journal_history.specs.declared.record.Record.TheVariants.{Outcome}
use Rattle.play_calls.specs.Logs.{LogView}
use Rattle.caller.specs.LaterLaws.{later_same, later_on}
use Rattle.play_actor.proofs.actions.list_all.Goals as goal

pub loop-text-init : goal.loop-text-init
loop-text-init g c = (sym (append-nil c.args.caller.now.log.past), refl, later_same g.W.WireModel g.met.W.Wire.readies_none c.args.caller.now)

pub loop-text-preserved : goal.loop-text-preserved
loop-text-preserved g c =
    let first = c.args.caller.now in
    let mid = c.loop-text.caller in
    let said = c.in_ok-say.ensures.said in
    let listed : List Record = map (λ text. Outcome text) c.loop-text.yielded in (
      ap (λ (l : LogView). l.past) said
          ∙ ap (λ (ps : List Record). ps ++ Outcome c.in-Some.text ∷ []) c.loop-text.invariant.0
          ∙ append_assoc first.log.past listed (Outcome c.in-Some.text ∷ [])
          ∙ ap (λ (ps : List Record). first.log.past ++ ps) (sym (map-append (λ text. Outcome text) c.loop-text.yielded (c.in-Some.text ∷ []))),
      ap (λ (l : LogView). l.marks) said ∙ c.loop-text.invariant.1,
      later_on g.W.WireModel g.met.W.Wire.readies_on first mid c.say.new.self c.loop-text.invariant.2 c.in_ok-say.ensures.later,
    )

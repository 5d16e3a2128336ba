use Rattle.std.proofs.Common.{rules, ◌≡◌, true, subst, ap, ◌∙◌}
use Rattle.play_threads.specs.Entries.{entries_of, FitsAsk}
use Rattle.play_threads.proofs.NodeLaws.{local_listed, taken_fits, entries_behind}
use Rattle.play_threads.proofs.gated_node.GatedNodeGateCell.act.Goals as goal

pub invariant_of-self-2 : goal.invariant_of-self-2
invariant_of-self-2 g c =
    let whole : c.self.inside.is_whole ≡ true = search rules in
    let h = local_listed c.self.inside.cell c.take.new.self c.args.caller c.in_ok-asked.asked c.in_ok-answer.answer c.self.invariant.0 (c.self.invariant.1 whole) c.in_ok-answer.ensures.ok in
    (h.0, λ e. h.1)

pub returns-clause-fits : goal.returns-clause-fits
returns-clause-fits g c =
    subst (λ x. FitsAsk x c.in_ok-answer.answer) c.in_ok-asked.ensures
    (taken_fits c.self.inside.cell c.take.new.self c.args.caller c.in_ok-asked.asked c.in_ok-answer.answer c.in_ok-answer.ensures.ok c.in_ok-answer.ensures.fits)

pub returns-clause-appended : goal.returns-clause-appended
returns-clause-appended g c = λ log before.
    entries_behind c.self.inside.cell c.take.new.self c.args.caller c.args.ask.now c.in_ok-asked.asked c.in_ok-answer.answer log c.in_ok-answer.ensures.ok c.in_ok-asked.ensures
    (ap entries_of c.self.view_is ∙ before)

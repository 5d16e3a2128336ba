use Rattle.std.proofs.Common.{◌∙◌, ap, sym, subst, length}
use Rattle.play_pipes.specs.Calls.{gained}
use Rattle.play_pipes.specs.PipeSeats.{asked_calls, Leads}
use Rattle.play_pipes.proofs.PipeSeatLaws.{hears_ahead}
use Rattle.play_pipes.proofs.ahead.ask_ahead.Goals as goal

pub returns-clause-hears : goal.returns-clause-hears
returns-clause-hears g c =
    let l = c.in_ok-heards.ensures.lists in
    let r = c.args.request.now in
    let old = c.args.desk.now.lists in
    let new = c.call_all.new.self.lists in
    let heards = c.in_ok-heards.heards.items in
    λ fronts h.
    subst (λ a. Leads fronts a new) (sym (c.of.ensures ∙ ap (λ q. asked_calls c.args.nodes.items q heards) c.in_ok-asked.ensures))
    (hears_ahead c.args.nodes.items r heards l.0 old new (length old) c.requires (l.1 ∙ ap (λ z. gained z r l.0 old) c.as_slice.ensures.value) l.2.0 fronts h)

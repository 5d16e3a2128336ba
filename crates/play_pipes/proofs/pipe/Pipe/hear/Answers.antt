use Rattle.std.proofs.Common.{ap, sym, ◌∙◌, length}
use Rattle.crossbeam_queue.specs.Passes.{Pass, view}
use Rattle.play_pipes.specs.declared.queue.Log.{Log}
use Rattle.play_pipes.specs.declared.ask.Ask.{Ask}
use Rattle.play_pipes.specs.Calls.{Start}
use Rattle.play_pipes.specs.Ends.{told_one, end_seen}
use Rattle.play_pipes.proofs.PipeLaws.{seen_hear, same_request, fits_same}
use Rattle.play_pipes.proofs.pipe.Pipe.hear.Goals as goal

pub returns-clause-heard : goal.returns-clause-heard
returns-clause-heard g c =
    let p = c.self.inside in
    let start : Start = (g.L.Line.place p.worker.promise.line.value, g.L.Line.calls p.worker.promise.line.value) in
    let r = c.args.request.now in
    seen_hear start (view p.sends) (view c.take_receipt.new.pass) (view p.hears) (view c.pop-answered.new.pass) r c.pop-answered.result (ap (λ e. e.waiting) c.self.view_is
    ∙ c.requires) (ap (λ v. v.sent) c.take_receipt.ensures.known) c.pop-answered.ensures.got
    ∙ ap (λ x. told_one r x (end_seen start (view p.sends) (view p.hears))) (sym c.into_parts-answer.ensures.parts.0) ∙ ap (told_one r c.into_parts-answer.result.0) c.self.view_is

pub returns-clause-fits : goal.returns-clause-fits
returns-clause-fits g c =
    let p = c.self.inside in
    let parts = c.into_parts-answer.ensures.parts in
    let a = c.into_parts-answer.ensures.answered in
    fits_same c.into_parts-answer.result.1 c.args.request.now c.into_parts-answer.result.0
    (same_request (view p.sends).sent (view c.into_parts-answer.result.2).known a.asked.0 (length
    (view p.hears).got) c.into_parts-answer.result.1 c.args.request.now c.self.invariant.whole c.take_receipt.ensures.begins
    (ap (λ (x : Pass Ask (Log Ask)). length (view x).known) parts.2 ∙ c.pop-answered.ensures.stands.1) (ap (λ e. e.waiting) c.self.view_is ∙ c.requires) a.asked.1) a.fits

use Rattle.std.proofs.Common.{◌≡◌, sym, None, ◌-◌}
use Rattle.journal_core.specs.Step.{refused_at_once, fronted}
use Rattle.journal_core.specs.Stops.{IsRowStop, raises_promise}
use Rattle.journal_core.specs.Limits.{head_of}
use Rattle.journal_core.proofs.StopLaws.{stop_refused, stop_first, stop_in_request, none_of}
use Rattle.journal_step.proofs.stopping.stop.Goals as goal

pub returns-in-Some-clause-ok : goal.returns-in-Some-clause-ok
returns-in-Some-clause-ok c = rw c.crash.ensures (stop_refused c.args.state.now c.args.request.now c.args.keep c.in-Some.field-0 (sym c.in-Some.ensures.refusal))

pub returns-then-keep-first-clause-ok : goal.returns-then-keep-first-clause-ok
returns-then-keep-first-clause-ok c = rw c.crash-then-keep-first.ensures
    (stop_first c.args.state.now c.args.request.now c.args.keep (none_of (raises_promise c.args.state.now.promised (head_of c.args.request.now))
    c.args.keep c.front_count-first.result c.front_count-first.ensures c.if-keep-first.true))

pub returns-in-Ok-clause-ok : goal.returns-in-Ok-clause-ok
returns-in-Ok-clause-ok c =
    let s = c.args.state.now in
    let r = c.args.request.now in
    let none : refused_at_once s r ≡ None = sym c.in_default.ensures.refusal in
    let row : IsRowStop (fronted s r) r (c.args.keep - c.front_count-first.result) c.in-Ok.done c.apply_first.new.state = rw c.pass_front.ensures at c.in-Ok.ensures.ok in
    rw c.crash-in-Ok.ensures (stop_in_request s r c.args.keep c.front_count-first.result c.in-Ok.done c.apply_first.new.state none c.front_count-first.ensures c.if-keep-first.false row)
